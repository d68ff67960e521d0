use Rattle.std.proofs.Common.{length, ap, sym, ◌∙◌}
use Rattle.lexical_parse_integer.specs.Grammar.{complete, if_valid}
use Rattle.lexical_parse_integer.specs.Laws.{completion_of}
use Rattle.lexical_parse_integer.proofs.theorems.CompleteByPartial.{complete_is_completion}
use Rattle.lexical_parse_integer.proofs.algorithm.front.complete_from_front.Goals as goal

pub returns-in-None : goal.returns-in-None
returns-in-None g c =
    c.completion.ensures ∙ ap (completion_of (length c.args.bytes.now)) c.partial_from_front.ensures ∙ sym (complete_is_completion _ _ c.args.bytes.now)
    ∙ ap (λ broken. if_valid broken (complete c.args.format.now g.T.Integer.TYPE c.args.bytes.now)) c.in-None.ensures
