-- Whether the numeral in front of a text has a digit, by what is found at its start: for `number`.
use Rattle.std.proofs.Common.{◌≡◌, ℕ, ◌+◌, Bool, true, false, List, refl, sym, ap}
use Rattle.std.proofs.lemmas.Bool.{lt-ltb}
use Rattle.std.specs.Prelude.{nat_lt}
use Rattle.lexical_util.specs.Format.{Format}
use Rattle.lexical_parse_integer.specs.CursorView.{IsSound}
use Rattle.lexical_parse_integer.specs.Numeral.{digit_count, numeral_in}
use Rattle.lexical_parse_integer.specs.Reading.{view_at}
use Rattle.lexical_parse_integer.specs.Seeking.{Finds, starts_behind_prefix}
use Rattle.lexical_parse_integer.specs.declared.seek.Found.TheVariants.{Digit, End}
use Rattle.lexical_parse_integer.proofs.reading.FrontAnswers.{found_here}
use Rattle.lexical_parse_integer.proofs.reading.NumeralSteps.{all_found, digit_found}
use Rattle.lexical_parse_integer.proofs.reading.Soundness.{reaches_found, takes_found}

module _ (f : Format) (pre : Bool) (text : List ℕ) (r start : ℕ) (sound : IsSound (view_at f pre r text start start 0)) where
  -- a digit is there
  pub digit_first : (place d : ℕ) → Finds f (starts_behind_prefix start) r text start start (Digit place d) → true ≡ nat_lt 0 (digit_count (numeral_in f pre r text start))
  digit_first place d found =
      let first = digit_found (view_at f pre r text start start 0) (view_at f pre r text start (place + 1) 1) d sound refl (takes_found (view_at f pre r text start start 0) 1 place d refl (found_here f pre text r start start 0 (Digit place d) sound found)) in
      sym (lt-ltb 0 (digit_count (numeral_in f pre r text start)) first.more)

  -- none is
  pub none_first : (stop : ℕ) → Finds f (starts_behind_prefix start) r text start start (End stop) → false ≡ nat_lt 0 (digit_count (numeral_in f pre r text start))
  none_first stop found =
      let none : 0 ≡ digit_count (numeral_in f pre r text start) = all_found (view_at f pre r text start start 0) sound refl (view_at f pre r text start stop 0) (reaches_found (view_at f pre r text start start 0) stop (found_here f pre text r start start 0 (End stop) sound found)) in
      ap (nat_lt 0) none
