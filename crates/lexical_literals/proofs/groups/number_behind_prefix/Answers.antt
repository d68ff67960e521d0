use Rattle.std.proofs.Common.{◌∙◌, arith, sym, true}
use Rattle.lexical_literals.proofs.GroupedFronts.{first_row, part_within, prefix_starts, row_read}
use Rattle.lexical_literals.proofs.groups.number_behind_prefix.Goals as goal

pub read_row-number-requires-clause-within : goal.read_row-number-requires-clause-within
read_row-number-requires-clause-within c =
    omega (arith, part_within c.args.radix c.args.text.now 2 (sym c.has_digit.ensures ∙ c.if-not-has_digit.false))

pub number_of_groups-requires-clause-starts : goal.number_of_groups-requires-clause-starts
number_of_groups-requires-clause-starts c =
    prefix_starts c.args.format.now c.args.text.now c.args.radix c.requires.decimal c.requires.valid c.requires.zero
    c.requires.prefix

pub number_of_groups-requires-clause-row : goal.number_of_groups-requires-clause-row
number_of_groups-requires-clause-row c =
    first_row c.args.radix c.args.text.now 2 c.read_row-number.result.0 c.read_row-number.result.1
    (sym c.has_digit.ensures ∙ c.if-not-has_digit.false) (sym c.has_digit-2.ensures ∙ c.if-has_digit.false)
    c.read_row-number.ensures.forward c.read_row-number.ensures.within c.read_row-number.ensures.digits
    c.read_row-number.ensures.number

pub returns-in-None : goal.returns-in-None
returns-in-None c = λ some.
    row_read c.args.format.now c.args.radix c.args.text.now true 2
    (prefix_starts c.args.format.now c.args.text.now c.args.radix c.requires.decimal c.requires.valid c.requires.zero
    c.requires.prefix)
    c.read_row-number.result.0 c.read_row-number.result.1 (omega (arith, c.requires.least)) (omega arith)
    (first_row c.args.radix c.args.text.now 2 c.read_row-number.result.0 c.read_row-number.result.1
    (sym c.has_digit.ensures ∙ c.if-not-has_digit.false) (sym c.has_digit-2.ensures ∙ c.if-has_digit.false)
    c.read_row-number.ensures.forward c.read_row-number.ensures.within c.read_row-number.ensures.digits
    c.read_row-number.ensures.number)
    (sym c.has_digit-2.ensures ∙ c.if-has_digit.false) (sym c.in-None.ensures.found)
