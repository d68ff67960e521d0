-- What proofs of other crates may cite: these names stay. `partial_within` serves on a function, by `using(..)`.
pub use Rattle.lexical_parse_integer.proofs.grammar.DigitsInARow.{EndsRow, end_of_row, has_digit, numeral_in_a_row, row_numeral}
pub use Rattle.lexical_parse_integer.proofs.grammar.FrontValues.{fitting_fault}
pub use Rattle.lexical_parse_integer.proofs.grammar.NumeralEnd.{IsStop-end_of, belongs_digit, belongs_other, belongs_separator, digit_at_past, separator_at_past, separator_at_within}
pub use Rattle.lexical_parse_integer.proofs.grammar.RangeOfFronts.{shorter_fronts_fit, zero_is_number}
pub use Rattle.lexical_parse_integer.proofs.grammar.Stretches.{HoldsBetween, IsStop, IsStop-stop_of, IsStop-unique, begin_of_is, stop_of_is, true_or_false}
pub use Rattle.lexical_parse_integer.proofs.punctuated.DigitsAmong.{row_grouped}
pub use Rattle.lexical_parse_integer.proofs.punctuated.PunctuatedAnswers.{fits_head, groups_read, head_signed}
pub use Rattle.lexical_parse_integer.proofs.plain.DigitsAlone.{behind_is, sign_of_digit_under, sign_of_minus_under}
pub use Rattle.lexical_parse_integer.proofs.plain.DigitsByTable.{table_read}
pub use Rattle.lexical_parse_integer.proofs.plain.DigitsInFront.{begins_read}
pub use Rattle.lexical_parse_integer.proofs.plain.KindsOfFormats.{decimal_is_plain}
pub use Rattle.lexical_parse_integer.proofs.reading.FormatBytes.{IsFit, fits, fits_named, fits_octal}
pub use Rattle.lexical_parse_integer.proofs.reading.OctalZeros.{not_asked}
pub use Rattle.lexical_parse_integer.proofs.reading.ParserAnswers.{is_fresh}
pub use Rattle.lexical_parse_integer.proofs.theorems.DigitTexts.{complete_by, fits_told, head_is}
pub use Rattle.lexical_parse_integer.proofs.theorems.EndsAndRuns.{IsBegin, IsBegin-begin_of}
pub use Rattle.lexical_parse_integer.proofs.theorems.EqualViews.{view_same}
pub use Rattle.lexical_parse_integer.proofs.theorems.Examples.{eight_digits, plus_forbidden}
pub use Rattle.lexical_parse_integer.proofs.theorems.ReadBack.{digits_text_is}
unfoldable pub use Rattle.lexical_parse_integer.proofs.theorems.ReadBack.{digits_text}
use Rattle.std.proofs.Common.{◌≡◌, ℕ, ◌≤◌, Bool, List, ◌++◌, length, refl, ap, arith, Ok, Err, Result}
use Rattle.std.proofs.Math.IntN.{ℤ}
use Rattle.lexical_util.specs.declared.error.Error.{Error}
use Rattle.lexical_util.specs.Format.{Format}
use Rattle.lexical_util.specs.Number.{IntegerType}
use Rattle.lexical_parse_integer.specs.Affixes.{prefix_radix}
use Rattle.lexical_parse_integer.specs.Grammar.{after_head, common_faults, first_fault_or, partial, partial_faults}
use Rattle.lexical_parse_integer.specs.Head.{Head, head_after, head_behind, head_of, sign}
use Rattle.lexical_parse_integer.specs.Numeral.{Numeral, numeral_value, numeral_behind}
use Rattle.lexical_parse_integer.proofs.theorems.CompleteByPartial.{head_within, numeral_within, sign_within, ok_told}

-- the front is within the text
pub partial_within : (f : Format) (t : IntegerType) (text : List ℕ) (v : ℤ) (k : ℕ) → partial f t text ≡ Ok (v, k) → k ≤ length text
unfolding partial head_of
partial_within f t text v k = behind (sign f t text) refl
  where
    behind : (r : Result (Bool × ℕ) Error) → sign f t text ≡ r →
        after_head {A = ℤ × ℕ} (head_after f text r) (λ h. let x = numeral_behind f text h in first_fault_or (common_faults f t text h x ++ partial_faults f text x) (numeral_value h.is_negative x, x.stop)) ≡ Ok (v, k) → k ≤ length text
    behind (Ok s) e told =
        let h : Head = head_behind f text s (prefix_radix f text s.1) in
        let x : Numeral = numeral_behind f text h in
        let low : h.start ≤ length text = head_within f text s _ (sign_within f t text s e) refl in
        let within : x.stop ≤ length text = numeral_within f h.is_prefixed text h.start h.radix low in
        let same = ok_told (common_faults f t text h x ++ partial_faults f text x) (numeral_value h.is_negative x, x.stop) (v, k) told in
        let at : x.stop ≡ k = ap (λ (w : ℤ × ℕ). w.1) same in
        omega arith
    behind (Err e) h told = cc
