-- The two digits of a number below 100 in the table of all pairs.
use Rattle.std.proofs.Common.{◌≡◌, ℕ, ◌+◌, ◌*◌, ◌/◌, ◌%◌, ◌<◌, get_or, refl}
use Rattle.std.specs.Prelude.{◌==◌, true}
use Rattle.std.proofs.lemmas.Bool.{agree_below_at, eqb-true}
use Rattle.answer_lines.specs.declared.decimal.pairs.TheConstants.{PAIRS}

-- the first of each pair, by computing
pub tens_by_table : (n : ℕ) → n < 100 → get_or PAIRS (2 * n) 0 ≡ 48 + n / 10
tens_by_table n small =
    eqb-true _ _ (agree_below_at (λ k. get_or PAIRS (2 * k) 0 == 48 + k / 10) (λ _. true) 100 n refl small)

-- the second of each pair
pub ones_by_table : (n : ℕ) → n < 100 → get_or PAIRS (2 * n + 1) 0 ≡ 48 + n % 10
ones_by_table n small =
    eqb-true _ _ (agree_below_at (λ k. get_or PAIRS (2 * k + 1) 0 == 48 + k % 10) (λ _. true) 100 n refl small)
