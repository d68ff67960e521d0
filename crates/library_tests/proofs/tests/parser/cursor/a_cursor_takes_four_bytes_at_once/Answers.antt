use Rattle.std.proofs.Common.{ℕ, zero, suc, ◌+◌, ◌<◌, ◌≤◌, codes, IsSome, refl, arith}
use Rattle.lexical_parse_integer.specs.Runs.{digit_at}
use Rattle.library_tests.proofs.tests.parser.cursor.a_cursor_takes_four_bytes_at_once.Goals as goal

four_digits : (place : ℕ) → 0 ≤ place → place < 0 + 4 → IsSome (digit_at 10 (codes "12345") place)
unfolding digit_at
four_digits zero low high = refl
four_digits (suc zero) low high = refl
four_digits (suc (suc zero)) low high = refl
four_digits (suc (suc (suc zero))) low high = refl
four_digits (suc (suc (suc (suc place)))) low high = absurd (omega arith)

pub take_digits-requires-clause-digits : goal.take_digits-requires-clause-digits
take_digits-requires-clause-digits g c = rw c.new-c.ensures four_digits
