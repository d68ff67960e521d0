use Rattle.lexical_tables.specs.Readings.{FixedPoints, fixed_answer}
use Rattle.lexical_tables.specs.Targets.{type_of, view_of_fixed}
use Rattle.lexical_tables.proofs.NumbersPut.{answer_in}
use Rattle.lexical_tables.proofs.fixed_targets.FixedTarget.put_number.Goals as goal

pub returns-clause-target : goal.returns-clause-target
returns-clause-target c =
    let before = view_of_fixed c.args.self.now in
    let put = c.put_fixed.ensures in
    answer_in (FixedPoints c.args.self.now.format) before.bits before.present c.args.self.now.numbers c.put_fixed.new.self
    put.same_type put.same_slice c.args.row (fixed_answer c.args.self.now.format (type_of c.args.self.now.numbers)
    (record { start = c.args.start; text = c.args.text.now })) put.numbers
