use Rattle.std.proofs.Common.{◌∙◌}
use Rattle.lexical_literals.specs.Kinds.{by_lower, word_by_upper}
use Rattle.lexical_literals.proofs.KindLanes.{lanes_count, words_ahead}
use Rattle.lexical_literals.proofs.lanes.word_length_of_16.Goals as goal

pub lanes_ahead-requires : goal.lanes_ahead-requires
lanes_ahead-requires c =
    lanes_count by_lower word_by_upper c.args.bytes.now _ _ c.requires c.by_lower.ensures c.word_by_upper.ensures

pub returns-clause-value : goal.returns-clause-value
returns-clause-value c =
    c.lanes_ahead.ensures.value ∙ words_ahead c.args.bytes.now _ _ c.requires c.by_lower.ensures c.word_by_upper.ensures
    (λ k. let f = c.type_inv.bytes k in f.fits)
