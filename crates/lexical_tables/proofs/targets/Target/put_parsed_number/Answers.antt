use Rattle.std.proofs.Common.{◌∙◌}
use Rattle.lexical_fields.specs.ReadFields.{field_answer}
use Rattle.lexical_tables.specs.Readings.{Integers}
use Rattle.lexical_tables.specs.Targets.{type_of, view_of_target}
use Rattle.lexical_tables.proofs.NumbersPut.{answer_in, same_error}
use Rattle.lexical_tables.proofs.targets.Target.put_parsed_number.Goals as goal

pub returns-clause-fault : goal.returns-clause-fault
returns-clause-fault c =
    let answer = field_answer c.args.self.now.format (type_of c.args.self.now.numbers)
    (record { start = c.args.start; text = c.args.text.now }) in
    c.put_parsed.ensures.fault ∙ same_error answer

pub returns-clause-target : goal.returns-clause-target
returns-clause-target c =
    let before = view_of_target c.args.self.now in
    let put = c.put_parsed.ensures in
    answer_in (Integers c.args.self.now.format) before.bits before.present c.args.self.now.numbers c.put_parsed.new.self
    put.same_type put.same_slice c.args.row (field_answer c.args.self.now.format (type_of c.args.self.now.numbers)
    (record { start = c.args.start; text = c.args.text.now })) put.numbers
