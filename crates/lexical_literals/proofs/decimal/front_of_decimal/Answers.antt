use Rattle.std.proofs.Common.{arith, false, refl, sym}
use Rattle.lexical_util.specs.Format.{standard}
use Rattle.lexical_util.specs.Number.{integer_type}
use Rattle.lexical_literals.proofs.DecimalFronts.{decimal_read}
use Rattle.lexical_literals.proofs.GroupedFronts.{standard_row}
use Rattle.lexical_literals.proofs.decimal.front_of_decimal.Goals as goal

pub decimal_groups-requires-clause-row : goal.decimal_groups-requires-clause-row
decimal_groups-requires-clause-row c =
    standard_row c.args.text.now c.in-Some.value c.in-Some.count c.requires.first
    (c.wider_types.ensures standard (integer_type 64 false) (integer_type 128 false) c.args.text.now _ refl (omega arith)
    c.in-Some.ensures.answer)

pub returns-in-None : goal.returns-in-None
returns-in-None c =
    λ some. decimal_read c.args.format.now c.args.text.now _ _ c.requires.decimal c.requires.zeros c.requires.bare
    c.requires.first
    (c.wider_types.ensures standard (integer_type 64 false) (integer_type 128 false) c.args.text.now _ refl (omega arith)
    c.in-Some.ensures.answer) (sym c.in-None.ensures.found)
