use Rattle.lexical_digits.specs.Value.{with_sign}
use Rattle.lexical_tables.specs.Readings.{Integers}
use Rattle.lexical_tables.specs.Targets.{view_of_target}
use Rattle.lexical_tables.proofs.NumbersPut.{kept_in, set_in}
use Rattle.lexical_tables.proofs.targets.Target.put_number.Goals as goal

pub returns-clause-target : goal.returns-clause-target
returns-clause-target c = λ did.
    let before = view_of_target c.args.self.now in
    let put = c.put_with_sign.ensures in
    set_in (Integers c.args.self.now.format) before.bits before.present c.args.self.now.numbers c.put_with_sign.new.self
    put.same_type put.same_slice c.args.row (with_sign c.args.is_negative c.args.number) (put.numbers did)

pub returns-clause-kept : goal.returns-clause-kept
returns-clause-kept c = λ did_not.
    let before = view_of_target c.args.self.now in
    let put = c.put_with_sign.ensures in
    kept_in (Integers c.args.self.now.format) before.bits before.present c.args.self.now.numbers c.put_with_sign.new.self
    put.same_type put.same_slice (put.kept did_not)
