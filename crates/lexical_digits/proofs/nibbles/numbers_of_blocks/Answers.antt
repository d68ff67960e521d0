use Rattle.std.proofs.lemmas.Bool.{and_parts, ltb-true}
use Rattle.lexical_digits.proofs.NibbleBlocks.{blocks_shifted}
use Rattle.lexical_digits.proofs.nibbles.numbers_of_blocks.Goals as goal

pub returns-then-first-last : goal.returns-then-first-last
returns-then-first-last c =
    let both = and_parts _ _ c.if-first-last.true in
    blocks_shifted c.args.size c.number_or_more-first.result c.number_or_more-last.result c.args.text.now c.requires.many c.requires.few
    (c.number_or_more-first.ensures (ltb-true _ _ both.0)) (c.number_or_more-last.ensures (ltb-true _ _ both.1))
