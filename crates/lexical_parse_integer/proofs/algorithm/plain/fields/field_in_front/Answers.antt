use Rattle.std.proofs.Common.{◌≡◌, get_or, rules}
use Rattle.lexical_parse_integer.proofs.plain.FieldsInFront.{field_ends, field_read}
use Rattle.lexical_parse_integer.proofs.algorithm.plain.fields.field_in_front.Goals as goal

pub returns-then-text-stop-clause-length : goal.returns-then-text-stop-clause-length
returns-then-text-stop-clause-length g c =
    let stop : get_or c.args.text.now _ 0 ≡ c.args.separator = search rules in
    field_ends _ _ c.args.separator _ c.args.text.now _ _ _ _ c.requires c.behind_minus-is_negative.ensures.behind c.from.ensures c.in-Some.ensures c.if-stop-text.true stop

pub returns-then-text-stop-clause-answer : goal.returns-then-text-stop-clause-answer
returns-then-text-stop-clause-answer g c =
    field_read _ _ _ c.args.text.now _ _ _ _ c.requires.plain c.requires.decimal c.behind_minus-is_negative.ensures.behind c.from.ensures c.in-Some.ensures
