-- A digit by one comparison with the radix: of a difference that wraps, or of the table's entry.
use Rattle.std.proofs.Common.{◌≡◌, ◌∙◌, ℕ, ◌+◌, ◌-◌, ◌<◌, ◌≤◌, Option, Some, None, get_or, inl, inr, refl, ap, arith}
use Rattle.std.specs.Prelude.{◌==◌, ◌%◌, unwrap_or, true}
use Rattle.std.proofs.lemmas.Bool.{agree_below_at, cases_lt, eqb-true}
use Rattle.std.proofs.lemmas.Bool.Decides.{nat_tests}
use Rattle.lexical_util.specs.Digit.{value_if_below, digit, digit_value}
use Rattle.lexical_util.specs.declared.digit.table.TheConstants.{VALUES}

-- the value of a byte, and 255 where it has none
abbrev value_or_more : ℕ → ℕ
value_or_more c = unwrap_or (digit_value c) 255

-- each of the 256 entries, by computing
table_value : (c : ℕ) → c < 256 → get_or VALUES c 0 ≡ value_or_more c
table_value c byte =
    eqb-true _ _ (agree_below_at (λ k. get_or VALUES k 0 == value_or_more k) (λ _. true) 256 c refl
    byte)

below-value_or_more : (radix : ℕ) (value : Option ℕ) → radix ≤ 36
    → value_if_below radix (Some (unwrap_or value 255)) ≡ value_if_below radix value
below-value_or_more radix None small = grind (arith, nat_tests)
below-value_or_more radix (Some value) small = refl

pub digit_by_table : (c radix : ℕ) → c < 256 → radix ≤ 36
    → value_if_below radix (Some (get_or VALUES c 0)) ≡ digit radix c
digit_by_table c radix byte small =
    ap (λ value. value_if_below radix (Some value)) (table_value c byte)
    ∙ below-value_or_more radix (digit_value c) small

pub digit_by_difference : (c radix : ℕ) → c < 256 → radix ≤ 10
    → value_if_below radix (Some ((c + 208) % 256)) ≡ digit radix c
digit_by_difference c radix byte small =
    elim (cases_lt c 48) [
      | inl under ↦ let e : (c + 208) % 256 ≡ c + 208 = grind arith in rw e (grind (arith, nat_tests))
      | inr over ↦ let e : (c + 208) % 256 ≡ c - 48 = grind arith in rw e (grind (arith, nat_tests))
    ]
