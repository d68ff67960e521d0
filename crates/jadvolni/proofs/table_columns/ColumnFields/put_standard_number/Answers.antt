use Rattle.std.proofs.Common.{◌≡◌, ◌∙◌}
use Rattle.lexical_util.specs.Format.{standard}
use Rattle.lexical_util.specs.Number.{IntegerType}
use Rattle.lexical_parse_integer.specs.Answer.{view_of}
use Rattle.lexical_fields.specs.Fields.{FieldView}
use Rattle.lexical_fields.specs.ReadFields.{field_answer}
use Rattle.lexical_tables.specs.Readings.{Number, answer_by}
use Rattle.jadvolni.specs.Tables.{reading_of}
use Rattle.jadvolni.proofs.ColumnNumbers.{fault_there, put_there, room_for, standard_answer}
use Rattle.jadvolni.proofs.table_columns.ColumnFields.put_standard_number.Goals as goal

pub put_standard_parsed-requires-clause-room : goal.put_standard_parsed-requires-clause-room
put_standard_parsed-requires-clause-room c = room_for c.args.self.now c.args.row c.requires.usable

pub returns : goal.returns
returns c =
    let text : FieldView = record { start = c.args.start; text = c.args.text.now } in
    let column = c.args.self.now in
    let same : (type : IntegerType) → view_of Number (field_answer standard type text)
    ≡ answer_by (reading_of column.description type) text = λ type. standard_answer column.description type text c.requires.integers c.requires.standard in
    record {
      fault =
          c.put_standard_parsed.ensures.fault
          ∙ fault_there column c.put_standard_parsed.new.self c.requires.numbers c.args.row text
          (λ type. field_answer standard type text) same;
      target = put_there column c.put_standard_parsed.new.self c.requires.numbers c.args.row text
          (λ type. field_answer standard type text) same c.put_standard_parsed.ensures.numbers;
    }
