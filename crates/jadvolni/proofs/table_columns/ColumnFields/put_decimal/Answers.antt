use Rattle.std.proofs.Common.{◌≡◌, ◌∙◌, ◌+◌, ap, sym}
use Rattle.lexical_util.specs.Validity.{fault}
use Rattle.lexical_parse_integer.specs.Answer.{view_of}
use Rattle.lexical_util.specs.Number.{IntegerType}
use Rattle.lexical_fields.specs.Fields.{FieldView}
use Rattle.lexical_fields.specs.ReadFields.{field_answer}
use Rattle.lexical_fixed.proofs.Valid.{is_none}
use Rattle.lexical_tables.specs.Readings.{Number, answer_by}
use Rattle.jadvolni.specs.Tables.{reading_of}
use Rattle.jadvolni.proofs.ColumnNumbers.{fault_there, integer_answer, put_there, room_for, valid_integers}
use Rattle.jadvolni.proofs.table_columns.ColumnFields.put_decimal.Goals as goal

pub put_cell-requires : goal.put_cell-requires
put_cell-requires c =
    let column = c.args.self.now in
    record {
      valid = is_none (fault c.decimal_format-format.result) (ap fault c.decimal_format-format.ensures
          ∙ valid_integers column (c.args.row + 1) _ (sym c.number_type.ensures ∙ c.in-Some.is) c.requires.integers c.requires.usable);
      room = room_for column c.args.row c.requires.usable;
      front = c.requires.front;
      fits = c.requires.fits;
    }

pub returns : goal.returns
returns c =
    let text : FieldView = record { start = c.args.start; text = c.args.text.now } in
    let column = c.args.self.now in
    let format = c.decimal_format-format.result in
    let same : (type : IntegerType) → view_of Number (field_answer format type text)
    ≡ answer_by (reading_of column.description type) text = λ type. ap (λ it. view_of Number (field_answer it type text)) c.decimal_format-format.ensures
    ∙ integer_answer column.description type text c.requires.integers in
    record {
      fault =
          c.put_cell.ensures.fault
          ∙ fault_there column c.put_cell.new.self c.requires.numbers c.args.row text
          (λ type. field_answer format type text) same;
      target = put_there column c.put_cell.new.self c.requires.numbers c.args.row text
          (λ type. field_answer format type text) same c.put_cell.ensures.numbers;
    }
