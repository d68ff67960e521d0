use Rattle.std.proofs.Common.{◌≡◌, ◌∙◌, ◌+◌, Ok, ap, false, refl, sym}
use Rattle.std.specs.Prelude.{IsTrue}
use Rattle.lexical_util.specs.Number.{IntegerType}
use Rattle.lexical_digits.specs.Value.{with_sign}
use Rattle.lexical_fields.specs.Fields.{FieldView}
use Rattle.lexical_fields.specs.Places.{in_text}
use Rattle.lexical_parse_integer.specs.Answer.{view_of}
use Rattle.lexical_fixed.specs.Fixed.{Fixed}
use Rattle.lexical_fixed.specs.Grammar.{complete_fixed}
use Rattle.lexical_fixed.specs.Validity.{fixed_fault}
use Rattle.lexical_fixed.proofs.Valid.{is_none}
use Rattle.lexical_tables.specs.Readings.{Number, answer_by, fixed_answer}
use Rattle.lexical_tables.specs.Targets.{keeps_text}
use Rattle.jadvolni.specs.Arrays.{type_named}
use Rattle.jadvolni.specs.Fixed.{fixed_of}
use Rattle.jadvolni.specs.Tables.{reading_of, target_of}
use Rattle.jadvolni.proofs.ColumnNumbers.{fault_there, fixed_point_answer, kept_there, no_texts_there, put_answered, put_there, room_for, valid_fixed}
use Rattle.jadvolni.proofs.table_columns.ColumnFields.put_in_groups.Goals as goal

pub separated-requires : goal.separated-requires
separated-requires c = record {
  valid = valid_fixed c.args.self.now (c.args.row + 1) _ (sym c.number_type.ensures ∙ c.in-Some.is) c.requires.places c.requires.usable;
  alone = c.has_separator_alone.ensures c.if-not-has_separator_alone.false;
}

pub units_in_groups-requires : goal.units_in_groups-requires
units_in_groups-requires c = record {
  valid = is_none (fixed_fault c.separated.result)
      (ap fixed_fault c.separated.ensures ∙ valid_fixed c.args.self.now (c.args.row + 1) _ (sym c.number_type.ensures ∙ c.in-Some.is) c.requires.places c.requires.usable);
}

pub put_coded-requires : goal.put_coded-requires
put_coded-requires c = record {
  numbers = sym c.number_type.ensures ∙ c.in-Some.is;
  room = room_for c.args.self.now c.args.row c.requires.usable;
  small = c.in-Some-units_in_groups.ensures.small;
}

pub returns : goal.returns
returns c =
    let column = c.args.self.now in
    let format = fixed_of column.description in
    let type_is = sym c.number_type.ensures ∙ c.in-Some.is in
    let numbers : keeps_text (target_of column) ≡ false = no_texts_there column c.in-Some.numbers type_is in
    let put = c.put_coded.ensures in
    let number = with_sign c.in-Some-units_in_groups.is_negative c.in-Some-units_in_groups.units in
    let stands : IsTrue c.put_coded.result
    → complete_fixed format (type_named c.in-Some.numbers) c.args.text.now ≡ Ok number = λ did.
    ap (λ (it : Fixed). complete_fixed it (type_named c.in-Some.numbers) c.args.text.now) (sym c.separated.ensures)
    ∙ c.in-Some-units_in_groups.ensures.stands (type_named c.in-Some.numbers) (put.minus did) (put.fits did) in
    let same : (text : FieldView) (type : IntegerType) → view_of Number (fixed_answer format type text)
    ≡ answer_by (reading_of column.description type) text = λ text type. fixed_point_answer column.description type text c.requires.places in
    record {
      fault = λ did start.
          let text : FieldView = record { start = start; text = c.args.text.now } in
          let both = put_answered column.arrays c.in-Some.numbers c.args.row number (λ type. fixed_answer format type text) type_is
          (ap (in_text start) (stands did)) in
          sym (fault_there column c.put_coded.new.self numbers c.args.row text (λ type. fixed_answer format type text) (same text))
          ∙ both.1;
      target = λ did start.
          let text : FieldView = record { start = start; text = c.args.text.now } in
          let both = put_answered column.arrays c.in-Some.numbers c.args.row number (λ type. fixed_answer format type text) type_is
          (ap (in_text start) (stands did)) in
          put_there column c.put_coded.new.self numbers c.args.row text (λ type. fixed_answer format type text) (same text)
          (put.numbers did ∙ both.0);
      kept = λ did_not. kept_there column c.put_coded.new.self numbers (put.kept did_not);
      description = refl;
    }
