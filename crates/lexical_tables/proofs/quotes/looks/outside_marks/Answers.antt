use Rattle.std.proofs.Common.{◌∙◌, ◌-◌, ap, w64}
use Rattle.std.specs.Int.Bits.{bit_xor}
use Rattle.std.proofs.lemmas.Nat.{xor_lt}
use Rattle.std.proofs.lemmas.Nat.Bits.{bit_at_not, bit_at_xor}
use Rattle.lexical_tables.proofs.quotes.looks.outside_marks.Goals as goal

pub returns-then-is_within-clause-within : goal.returns-then-is_within-clause-within
returns-then-is_within-clause-within c = λ is k low. bit_at_xor c.args.odd c.args.quotes k

pub returns-else-is_within-clause-outside : goal.returns-else-is_within-clause-outside
returns-else-is_within-clause-outside c = λ is k low.
    bit_at_not w64 (bit_xor c.args.odd c.args.quotes) k
    (xor_lt 64 c.args.odd c.args.quotes c.ranges.odd.fits c.ranges.quotes.fits) low
    ∙ ap (λ b. 1 - b) (bit_at_xor c.args.odd c.args.quotes k)
