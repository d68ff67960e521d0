use Rattle.lexical_literals.specs.TypedLiterals.{type_of}
use Rattle.lexical_literals.proofs.TypedFronts.{is_of_type}
use Rattle.lexical_literals.proofs.typed.typed_literal_in_front.Goals as goal

pub returns-in-Ok-value_as-clause-range : goal.returns-in-Ok-value_as-clause-range
returns-in-Ok-value_as-clause-range g c =
    is_of_type c.args.format.now c.args.text.now c.in-Ok.front.stop c.in-Ok.ensures.front.stop (type_of c.in-Some.kind)
    c.in-Ok-value_as.value c.in-Ok-value_as.ensures
