use Rattle.std.proofs.Common.{◌≡◌, ◌∙◌, false, sym, take}
use Rattle.lexical_util.specs.Format.{standard}
use Rattle.lexical_fields.specs.Fields.{FieldView}
use Rattle.lexical_fields.specs.ReadFields.{field_answer}
use Rattle.lexical_tables.specs.Targets.{keeps_text}
use Rattle.jadvolni.specs.Tables.{target_of}
use Rattle.jadvolni.proofs.ColumnNumbers.{fault_there, kept_there, put_there, room_for, standard_answer}
use Rattle.jadvolni.proofs.table_columns.ColumnFields.put_standard_at_once.Goals as goal

pub put_at_once-requires-clause-room : goal.put_at_once-requires-clause-room
put_at_once-requires-clause-room c = room_for c.args.self.now c.args.row c.requires.usable

pub returns-clause-fault : goal.returns-clause-fault
returns-clause-fault c = λ did start.
    let text : FieldView = record { start = start; text = take c.args.size c.args.ahead.now } in
    let column = c.args.self.now in
    let numbers : keeps_text (target_of column) ≡ false = sym c.is_text.ensures ∙ c.if-is_text.false in
    sym (fault_there column c.put_at_once.new.self numbers c.args.row text (λ type. field_answer standard type text)
    (λ type. standard_answer column.description type text c.requires.integers c.requires.standard))
    ∙ c.put_at_once.ensures.fault did start

pub returns-clause-target : goal.returns-clause-target
returns-clause-target c = λ did start.
    let text : FieldView = record { start = start; text = take c.args.size c.args.ahead.now } in
    let column = c.args.self.now in
    let numbers : keeps_text (target_of column) ≡ false = sym c.is_text.ensures ∙ c.if-is_text.false in
    put_there column c.put_at_once.new.self numbers c.args.row text (λ type. field_answer standard type text)
    (λ type. standard_answer column.description type text c.requires.integers c.requires.standard)
    (c.put_at_once.ensures.numbers did start)

pub returns-clause-kept : goal.returns-clause-kept
returns-clause-kept c = λ did_not.
    let numbers : keeps_text (target_of c.args.self.now) ≡ false = sym c.is_text.ensures ∙ c.if-is_text.false in
    kept_there c.args.self.now c.put_at_once.new.self numbers (c.put_at_once.ensures.kept did_not)
