use Rattle.std.proofs.Common.{◌≡◌, ◌∙◌, ◌+◌, ap, sym}
use Rattle.lexical_util.specs.Number.{IntegerType}
use Rattle.lexical_fields.specs.Fields.{FieldView}
use Rattle.lexical_fixed.specs.Validity.{fixed_fault}
use Rattle.lexical_parse_integer.specs.Answer.{view_of}
use Rattle.lexical_fixed.proofs.Valid.{is_none}
use Rattle.lexical_tables.specs.Readings.{Number, answer_by, fixed_answer}
use Rattle.jadvolni.specs.Tables.{reading_of}
use Rattle.jadvolni.proofs.ColumnNumbers.{fault_there, fixed_point_answer, put_there, room_for, valid_fixed}
use Rattle.jadvolni.proofs.table_columns.ColumnFields.put_fixed_parsed.Goals as goal

pub put_fixed-requires : goal.put_fixed-requires
put_fixed-requires c =
    let column = c.args.self.now in
    record {
      valid = is_none (fixed_fault c.fixed_format-format.result) (ap fixed_fault c.fixed_format-format.ensures
          ∙ valid_fixed column (c.args.row + 1) _ (sym c.number_type.ensures ∙ c.in-Some.is) c.requires.places c.requires.usable);
      room = room_for column c.args.row c.requires.usable;
      fits = c.requires.fits;
    }

pub returns : goal.returns
returns c =
    let text : FieldView = record { start = c.args.start; text = c.args.text.now } in
    let column = c.args.self.now in
    let format = c.fixed_format-format.result in
    let same : (type : IntegerType) → view_of Number (fixed_answer format type text)
    ≡ answer_by (reading_of column.description type) text = λ type. ap (λ it. view_of Number (fixed_answer it type text)) c.fixed_format-format.ensures
    ∙ fixed_point_answer column.description type text c.requires.places in
    record {
      fault =
          c.put_fixed.ensures.fault
          ∙ fault_there column c.put_fixed.new.self c.requires.numbers c.args.row text
          (λ type. fixed_answer format type text) same;
      target = put_there column c.put_fixed.new.self c.requires.numbers c.args.row text
          (λ type. fixed_answer format type text) same c.put_fixed.ensures.numbers;
    }
