use Rattle.std.proofs.Common.{◌≡◌, ◌∙◌, ◌+◌, ap, sym, take, false}
use Rattle.lexical_util.specs.Number.{IntegerType}
use Rattle.lexical_fields.specs.Fields.{FieldView}
use Rattle.lexical_fixed.specs.Validity.{fixed_fault}
use Rattle.lexical_parse_integer.specs.Answer.{view_of}
use Rattle.lexical_fixed.proofs.Valid.{is_none}
use Rattle.lexical_tables.specs.Readings.{Number, answer_by, fixed_answer}
use Rattle.lexical_tables.specs.Targets.{keeps_text}
use Rattle.jadvolni.specs.Fixed.{fixed_of}
use Rattle.jadvolni.specs.Tables.{reading_of, target_of}
use Rattle.jadvolni.proofs.ColumnNumbers.{fault_there, fixed_point_answer, kept_there, no_texts_there, put_there, room_for, valid_fixed}
use Rattle.jadvolni.proofs.table_columns.ColumnFields.put_fixed_at_once.Goals as goal

pub put_fixed_at_once-requires : goal.put_fixed_at_once-requires
put_fixed_at_once-requires c =
    let column = c.args.self.now in
    record {
      numbers = sym c.number_type.ensures ∙ c.in-Some.is;
      valid = is_none (fixed_fault c.decimal-format.result) (ap fixed_fault c.decimal-format.ensures
          ∙ valid_fixed column (c.args.row + 1) _ (sym c.number_type.ensures ∙ c.in-Some.is) c.requires.places c.requires.usable);
      room = room_for column c.args.row c.requires.usable;
      within = c.requires.within;
    }

pub returns : goal.returns
returns c =
    let column = c.args.self.now in
    let format = c.decimal-format.result in
    let same : format ≡ fixed_of column.description = c.decimal-format.ensures in
    let numbers : keeps_text (target_of column) ≡ false = no_texts_there column _ (sym c.number_type.ensures ∙ c.in-Some.is) in
    let read : (text : FieldView) (type : IntegerType) → view_of Number (fixed_answer format type text)
    ≡ answer_by (reading_of column.description type) text = λ text type. ap (λ it. view_of Number (fixed_answer it type text)) same
    ∙ fixed_point_answer column.description type text c.requires.places in
    record {
      fault = λ did start.
          let text : FieldView = record { start = start; text = take c.args.size c.args.ahead.now } in
          sym (fault_there column c.put_fixed_at_once.new.self numbers c.args.row text
          (λ type. fixed_answer format type text) (read text))
          ∙ c.put_fixed_at_once.ensures.fault did start;
      target = λ did start.
          let text : FieldView = record { start = start; text = take c.args.size c.args.ahead.now } in
          put_there column c.put_fixed_at_once.new.self numbers c.args.row text
          (λ type. fixed_answer format type text) (read text) (c.put_fixed_at_once.ensures.numbers did start);
      kept = λ did_not. kept_there column c.put_fixed_at_once.new.self numbers (c.put_fixed_at_once.ensures.kept did_not);
    }
