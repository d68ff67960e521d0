use Rattle.std.proofs.Common.{◌+◌, ◌∙◌, ap, arith, is_some, nat_lt, sym}
use Rattle.lexical_parse_integer.proofs.ForCallers.{digit_at_past, separator_at_past}
use Rattle.lexical_literals.proofs.GroupedFronts.{elsewhere, groups_read, other_apart, stands_here, trailing_left, trailing_taken}
use Rattle.lexical_literals.proofs.groups.number_before.Goals as goal

pub returns-then-stop-text : goal.returns-then-stop-text
returns-then-stop-text c = λ some.
    groups_read c.args.format.now c.args.radix c.args.text.now (nat_lt 0 c.args.start) c.args.start c.requires.starts c.args.separator
    c.requires.own c.requires.internal c.args.number c.args.stop (omega (arith, c.requires.least)) (omega arith) c.requires.groups
    (ap is_some (digit_at_past c.args.radix c.args.text.now c.args.stop c.if-stop-text.true))
    (separator_at_past c.args.format.now c.args.text.now c.args.stop c.if-stop-text.true)

pub returns-then-text-stop : goal.returns-then-text-stop
returns-then-text-stop c = λ some.
    groups_read c.args.format.now c.args.radix c.args.text.now (nat_lt 0 c.args.start) c.args.start c.requires.starts c.args.separator
    c.requires.own c.requires.internal c.args.number c.args.stop (omega (arith, c.requires.least)) (omega arith) c.requires.groups
    (sym c.has_digit.ensures ∙ c.if-has_digit.false)
    (other_apart c.args.format.now c.args.text.now c.args.stop c.args.separator c.requires.own c.if-stop-text.false c.if-text-stop.true)

pub returns-then-integer_trailing_digit_separator : goal.returns-then-integer_trailing_digit_separator
returns-then-integer_trailing_digit_separator c = λ some.
    let here = stands_here c.args.text.now c.args.stop c.args.separator c.if-stop-text.false c.if-text-stop.false in
    trailing_taken c.args.format.now c.args.radix c.args.text.now (nat_lt 0 c.args.start) c.args.start c.requires.starts c.args.separator
    c.requires.own c.requires.internal c.args.number c.args.stop (omega (arith, c.requires.least)) (omega arith) c.requires.groups
    here c.if-stop-text.false (c.requires.last here)
    (elsewhere c.args.format.now c.args.text.now (c.args.stop + 1) c.args.separator c.requires.own (c.requires.alone here))
    (sym c.integer_trailing_digit_separator.ensures ∙ c.if-integer_trailing_digit_separator.true)

pub returns : goal.returns
returns c = λ some.
    let here = stands_here c.args.text.now c.args.stop c.args.separator c.if-stop-text.false c.if-text-stop.false in
    trailing_left c.args.format.now c.args.radix c.args.text.now (nat_lt 0 c.args.start) c.args.start c.requires.starts c.args.separator
    c.requires.own c.requires.internal c.args.number c.args.stop (omega (arith, c.requires.least)) (omega arith) c.requires.groups
    here c.if-stop-text.false (c.requires.last here)
    (elsewhere c.args.format.now c.args.text.now (c.args.stop + 1) c.args.separator c.requires.own (c.requires.alone here))
    (sym c.integer_trailing_digit_separator.ensures ∙ c.if-integer_trailing_digit_separator.false)
