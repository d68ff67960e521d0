use Rattle.std.proofs.Common.{◌≡◌, ◌∙◌, ◌+◌, sym}
use Rattle.lexical_parse_integer.specs.Answer.{view_of}
use Rattle.lexical_util.specs.Number.{IntegerType}
use Rattle.lexical_fields.specs.Fields.{FieldView}
use Rattle.lexical_fields.specs.ReadFields.{field_answer}
use Rattle.lexical_tables.specs.Readings.{Number, answer_by}
use Rattle.jadvolni.specs.FormatFields.{format_of}
use Rattle.jadvolni.specs.Tables.{reading_of}
use Rattle.jadvolni.proofs.ColumnNumbers.{fault_there, integer_answer, put_there, room_for, valid_integers}
use Rattle.jadvolni.proofs.table_columns.ColumnFields.put_by_format.Goals as goal

pub put_by_format-requires : goal.put_by_format-requires
put_by_format-requires c =
    let column = c.args.self.now in
    let is = sym c.number_type.ensures ∙ c.in-Some.is in
    record {
      numbers = is;
      valid = valid_integers column (c.args.row + 1) _ is c.requires.integers c.requires.usable;
      room = room_for column c.args.row c.requires.usable;
      fits = c.requires.fits;
    }

pub returns : goal.returns
returns c =
    let text : FieldView = record { start = c.args.start; text = c.args.text.now } in
    let column = c.args.self.now in
    let format = format_of column.description.integer in
    let same : (type : IntegerType) → view_of Number (field_answer format type text)
    ≡ answer_by (reading_of column.description type) text =
    λ type. integer_answer column.description type text c.requires.integers in
    record {
      fault =
          c.put_by_format.ensures.fault
          ∙ fault_there column c.put_by_format.new.self c.requires.numbers c.args.row text
          (λ type. field_answer format type text) same;
      target = put_there column c.put_by_format.new.self c.requires.numbers c.args.row text
          (λ type. field_answer format type text) same c.put_by_format.ensures.numbers;
    }
