use Rattle.lexical_literals.proofs.GroupedFronts.{decimal_starts}
use Rattle.lexical_literals.proofs.groups.decimal_groups.Goals as goal

pub number_of_groups-requires-clause-starts : goal.number_of_groups-requires-clause-starts
number_of_groups-requires-clause-starts c =
    decimal_starts c.args.format.now c.args.text.now c.args.separator c.args.first c.args.behind c.requires.decimal
    c.requires.valid c.requires.bare c.requires.zeros c.requires.own c.requires.row c.requires.here
