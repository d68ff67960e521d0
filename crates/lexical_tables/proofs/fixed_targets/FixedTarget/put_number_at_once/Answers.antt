use Rattle.std.proofs.Common.{◌∙◌, sym, take}
use Rattle.lexical_tables.specs.Readings.{FixedPoints, fixed_answer}
use Rattle.lexical_tables.specs.Targets.{type_of, view_of_fixed}
use Rattle.lexical_tables.proofs.NumbersPut.{answer_in, kept_in, same_error}
use Rattle.lexical_tables.proofs.fixed_targets.FixedTarget.put_number_at_once.Goals as goal

pub returns-clause-fault : goal.returns-clause-fault
returns-clause-fault c = λ did start.
    let answer = fixed_answer c.args.self.now.format (type_of c.args.self.now.numbers)
    (record { start = start; text = take c.args.size c.args.ahead.now }) in
    sym (same_error answer) ∙ c.put_fixed_at_once.ensures.fault did start

pub returns-clause-target : goal.returns-clause-target
returns-clause-target c = λ did start.
    let before = view_of_fixed c.args.self.now in
    let put = c.put_fixed_at_once.ensures in
    answer_in (FixedPoints c.args.self.now.format) before.bits before.present c.args.self.now.numbers
    c.put_fixed_at_once.new.self put.same_type put.same_slice c.args.row
    (fixed_answer c.args.self.now.format (type_of c.args.self.now.numbers)
    (record { start = start; text = take c.args.size c.args.ahead.now })) (put.numbers did start)

pub returns-clause-kept : goal.returns-clause-kept
returns-clause-kept c = λ did_not.
    let before = view_of_fixed c.args.self.now in
    let put = c.put_fixed_at_once.ensures in
    kept_in (FixedPoints c.args.self.now.format) before.bits before.present c.args.self.now.numbers
    c.put_fixed_at_once.new.self put.same_type put.same_slice (put.kept did_not)
