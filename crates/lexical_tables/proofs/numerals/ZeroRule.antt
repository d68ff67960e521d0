-- Numerals whose first digit is no zero, or their only one.
use Rattle.std.proofs.Common.{◌≡◌, ◌≢◌, ◌∙◌, ℕ, ◌+◌, ◌<◌, ◌≤◌, ◌==◌, ◌&&◌, ◌⊎◌, Bool, true, false, not, Option, None, Some, List, ◌∷◌, length, length-take-le, take, get_or, ap, sym, arith, inl, inr}
use Rattle.std.specs.Prelude.{IfSome, if◌then◌else◌, nat_le}
use Rattle.std.proofs.lemmas.Bool.{and_right, ne_eqb}
use Rattle.std.proofs.lemmas.List.{get_or-take}
use mir.Val.{bool_byte}
use Rattle.lexical_util.specs.Ascii.{digit_zero, minus}
use Rattle.lexical_util.specs.Format.{Format}
use Rattle.lexical_parse_integer.specs.Plain.{keeps_zero_rule}
use Rattle.lexical_fields.specs.Numerals.{IsNumeral}
use Rattle.lexical_tables.specs.Codes.{IsNumeralUnder}

module _ (size start : ℕ) (text : List ℕ) (low : size ≤ length text) where
  whole : length (take size text) ≡ size
  whole = length-take-le size text low

  -- how many digits there are
  count_is : (is_negative : Bool) (digits : List ℕ) → take size text ≡ (if is_negative then minus ∷ digits else digits)
      → start ≡ bool_byte is_negative → size ≡ start + length digits
  count_is false digits is at = let none : start ≡ 0 = at in omega (arith, whole, none, ap length is)
  count_is true digits is at = let one : start ≡ 1 = at in omega (arith, whole, one, ap length is)

  -- the first of them
  first_is : (is_negative : Bool) (digits : List ℕ) → take size text ≡ (if is_negative then minus ∷ digits else digits)
      → start ≡ bool_byte is_negative → start < size → get_or digits 0 0 ≡ get_or text start 0
  first_is false digits is at some =
      let none : start ≡ 0 = at in
      ap (λ l. get_or l 0 0) (sym is) ∙ get_or-take size text 0 0 (omega (arith, some))
      ∙ ap (λ k. get_or text k 0) (sym none)
  first_is true digits is at some =
      let one : start ≡ 1 = at in
      ap (λ l. get_or l 1 0) (sym is) ∙ get_or-take size text 1 0 (omega (arith, some, one))
      ∙ ap (λ k. get_or text k 0) (sym one)

  -- the rule is kept
  pub rule_kept : (format : Format) (is_negative : Bool) (number : ℕ) → IsNumeral is_negative number (take size text)
      → start ≡ bool_byte is_negative → (get_or text start 0 ≢ digit_zero) ⊎ (size ≡ start + 1)
      → IsNumeralUnder format is_negative number (take size text)
  rule_kept format is_negative number n at order = record { numeral = n; rule = by_order order }
    where
      count : size ≡ start + length n.digits
      count = count_is is_negative n.digits n.text_is at

      by_order : (get_or text start 0 ≢ digit_zero) ⊎ (size ≡ start + 1) → keeps_zero_rule format n.digits ≡ true
      by_order (inl other) =
          let first = first_is is_negative n.digits n.text_is at (omega (arith, count, n.some)) in
          ap not (and_right (format.no_integer_leading_zeros && nat_le 2 (length n.digits)) (get_or n.digits 0 0 == digit_zero)
          (ap (λ byte. byte == digit_zero) first ∙ ne_eqb (get_or text start 0) digit_zero other))
      by_order (inr one) =
          let few : length n.digits ≡ 1 = omega (arith, count, one) in
          ap (λ t. not (t && (get_or n.digits 0 0 == digit_zero)))
          (and_right format.no_integer_leading_zeros (nat_le 2 (length n.digits)) (ap (nat_le 2) few))

  -- a format without the rule asks for nothing
  pub rule_unasked : (format : Format) (is_negative : Bool) (number : ℕ) → IsNumeral is_negative number (take size text)
      → format.no_integer_leading_zeros ≡ false → IsNumeralUnder format is_negative number (take size text)
  rule_unasked format is_negative number n unasked = record {
    numeral = n;
    rule = ap (λ t. not ((t && nat_le 2 (length n.digits)) && (get_or n.digits 0 0 == digit_zero))) unasked;
  }

-- what follows from two clauses that say something of what was found
pub if_both : {X : Type 0} {P Q R : X → Type 0} (found : Option X) → IfSome found P → IfSome found Q
    → ((x : X) → P x → Q x → R x) → IfSome found R
if_both None first second both = first
if_both (Some x) first second both = both x first second
