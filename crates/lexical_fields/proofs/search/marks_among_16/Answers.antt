use Rattle.std.proofs.Common.{◌∙◌, ap, cond, eqb}
use Rattle.std.proofs.lemmas.List.{get_or-take}
use Rattle.lexical_fields.proofs.search.marks_among_16.Goals as goal

pub returns-clause-here : goal.returns-clause-here
returns-clause-here c = λ k low.
    c.marks_of_16.ensures.here k low
    ∙ ap (λ x. cond (eqb x c.args.byte) 1 0) (get_or-take 16 c.args.bytes.now k 0 low)
