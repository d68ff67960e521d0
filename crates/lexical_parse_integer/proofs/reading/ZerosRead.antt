-- Zeros that a numeral begins with: for `algorithm::front`.
use Rattle.std.proofs.Common.{◌≡◌, ℕ, zero, suc, ◌+◌, ◌≤◌, ◌<◌, Bool, true, false, List, length, get_or, Some, refl, ap, ◌∙◌, subst, arith}
use Rattle.std.specs.Prelude.{pos}
use Rattle.std.proofs.lemmas.Int.{ints}
use Rattle.std.proofs.lemmas.Option.{slice_get-get_or}
use Rattle.lexical_util.specs.Format.{Format}
use Rattle.lexical_util.specs.Number.{IntegerType, IsWidth, is_number, mul_add}
use Rattle.lexical_util.proofs.Room.{small_is_number}
use Rattle.lexical_parse_integer.specs.CursorView.{IsSound}
use Rattle.lexical_parse_integer.specs.Numeral.{numeral_in}
use Rattle.lexical_parse_integer.specs.Reading.{Reads, view_at}
use Rattle.lexical_parse_integer.specs.Runs.{digit_at}
use Rattle.lexical_parse_integer.proofs.reading.DigitsRead.{reads_none}
use Rattle.lexical_parse_integer.proofs.reading.FirstDigit.{zero_ahead}
use Rattle.lexical_parse_integer.proofs.reading.FrontAnswers.{digit_here, next_reads, next_sound}

-- a zero more leaves the value 0
still_zero : (b : Bool) (r : ℕ) → pos 0 ≡ mul_add b (pos 0) (pos r) (pos 0)
still_zero true r = omega (arith, ints)
still_zero false r = omega (arith, ints)

-- the first `k` zeros from the numeral's start on are read, and their value is 0
pub zeros_read : (f : Format) (pre : Bool) (text : List ℕ) (r start : ℕ) (t : IntegerType) (b : Bool) (k : ℕ) → IsWidth t.bits → IsSound (view_at f pre r text start start 0) → start + k ≤ length text → ((j : ℕ) → start ≤ j → j < start + k → get_or text j 0 ≡ 48) →
    IsSound (view_at f pre r text start (start + k) k) × Reads t b (numeral_in f pre r text start) k (pos 0)
zeros_read f pre text r start t b zero width sound within zeros =
    let here : start ≡ start + 0 = omega arith in
    (subst (λ n. IsSound (view_at f pre r text start n 0)) here sound, reads_none t b (numeral_in f pre r text start) (pos 0) refl)
zeros_read f pre text r start t b (suc k) width sound within zeros =
    let before = zeros_read f pre text r start t b k width sound (omega arith) (λ j low high. zeros j low (omega arith)) in
    let digit : digit_at r text (start + k) ≡ Some 0 = zero_ahead r text (start + k) sound.radix.low (slice_get-get_or text (start + k) 0 (omega arith) ∙ ap Some (zeros (start + k) (omega arith) (omega arith))) in
    let found = digit_here f pre text r start (start + k) k 0 before.0 digit in
    let next : start + k + 1 ≡ start + suc k = omega arith in
    let more : k + 1 ≡ suc k = omega arith in
    let fits : is_number t (pos 0) ≡ true = small_is_number t.bits t.is_signed 0 width (omega arith) in (
      subst (λ m. IsSound (view_at f pre r text start (start + suc k) m)) more (subst (λ n. IsSound (view_at f pre r text start n (k + 1))) next (next_sound f pre text r start (start + k) k (start + k) 0 before.0 found)),
      subst (λ m. Reads t b (numeral_in f pre r text start) m (pos 0)) more (next_reads f pre text r start t b (start + k) k (start + k) 0 (pos 0) (pos 0) before.0 found before.1 (still_zero b r) fits),
    )
