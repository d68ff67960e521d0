use Rattle.std.proofs.Common.{sym, ◌∙◌, arith}
use Rattle.lexical_digits.proofs.LongNumbers.{if_found}
use Rattle.lexical_fields.proofs.MarkedFields.{field_stands}
use Rattle.lexical_fields.proofs.marked.value_with_room.Goals as goal

pub returns : goal.returns
returns g c =
    let at = c.from-2.ensures in
    let first = c.from.ensures in
    if_found c.value_to_12.result
    (λ v w. field_stands _ _ _ c.args.text.now c.behind_minus-is_negative.result.1.now _ c.args.size _ _
    c.requires.separated.plain
    c.requires.separated.decimal c.behind_minus-is_negative.ensures.behind at (omega (arith, at, first)) (omega
    (arith, at, first))
    (omega (arith, c.requires.room)) (sym c.keeps_zero_rule.ensures ∙ c.if-not-keeps_zero_rule.false) w)
    c.value_to_12.ensures

pub returns-then-count-gt12 : goal.returns-then-count-gt12
returns-then-count-gt12 g c =
    let at = c.from-2.ensures in
    let first = c.from.ensures in
    if_found c.value_from_13.result
    (λ v w. field_stands _ _ _ c.args.text.now c.behind_minus-is_negative.result.1.now _ c.args.size _ _
    c.requires.separated.plain
    c.requires.separated.decimal c.behind_minus-is_negative.ensures.behind at (omega (arith, at, first)) (omega
    (arith, at, first))
    (omega (arith, c.requires.room)) (sym c.keeps_zero_rule.ensures ∙ c.if-not-keeps_zero_rule.false) w)
    c.value_from_13.ensures
