use Rattle.lexical_parse_integer.proofs.plain.DigitsInFront.{front_answered_if_valid}
use Rattle.lexical_parse_integer.proofs.api.impls.AnyFromLexicalWithOptions.from_lexical_partial_with_options.Goals as goal

pub returns-in-Some : goal.returns-in-Some
returns-in-Some g c = front_answered_if_valid _ _ _ _ c.in-Some.ensures.valid c.in-Some.ensures.answer

pub returns-in-None : goal.returns-in-None
returns-in-None g c = c.front_if_valid.ensures
