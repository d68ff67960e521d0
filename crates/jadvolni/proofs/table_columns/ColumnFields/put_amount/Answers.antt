use Rattle.std.proofs.Common.{◌≡◌, ◌≢◌, ◌∙◌, ◌+◌, Ok, ap, arith, false, sym, take}
use Rattle.std.proofs.lemmas.Bool.Decides.{nat_tests}
use Rattle.std.specs.Prelude.{IsTrue}
use Rattle.lexical_util.specs.Number.{IntegerType}
use Rattle.lexical_digits.specs.Value.{with_sign}
use Rattle.lexical_fields.specs.Fields.{FieldView}
use Rattle.lexical_fields.specs.Places.{in_text}
use Rattle.lexical_parse_integer.proofs.ForCallers.{decimal_is_plain}
use Rattle.lexical_parse_integer.specs.Answer.{view_of}
use Rattle.lexical_fixed.specs.Fixed.{Fixed}
use Rattle.lexical_fixed.specs.Grammar.{complete_fixed}
use Rattle.lexical_tables.proofs.numerals.AmountTexts.{keeps_rule}
use Rattle.lexical_tables.specs.Readings.{Number, answer_by, fixed_answer}
use Rattle.lexical_tables.specs.Targets.{keeps_text}
use Rattle.jadvolni.specs.Arrays.{type_named}
use Rattle.jadvolni.specs.Fixed.{fixed_of}
use Rattle.jadvolni.specs.Tables.{reading_of, target_of}
use Rattle.jadvolni.proofs.ColumnAmounts.{quick_there, type_there}
use Rattle.jadvolni.proofs.ColumnNumbers.{fault_there, fixed_point_answer, kept_there, no_texts_there, put_answered, put_there, room_for, valid_fixed}
use Rattle.jadvolni.proofs.table_columns.ColumnFields.put_amount.Goals as goal

pub units_of_front-requires : goal.units_of_front-requires
units_of_front-requires c =
    let above : c.args.self.now.description.places ≢ 0 = grind (arith, nat_tests) in
    let found = type_there c.number_type.result c.is_none.result c.is_none.ensures c.if-is_none.false in
    let quick = quick_there c.args.self.now found.0 (sym c.number_type.ensures ∙ found.1) above c.requires.amounts in
    let places = c.places.ensures ∙ ap (λ (it : Fixed). it.places) c.standard-format.ensures in
    let takes = c.takes_fewer.ensures ∙ ap (λ (it : Fixed). it.takes_fewer) c.standard-format.ensures in
    record {
      some = omega (arith, places, quick.some);
      few = omega (arith, places, quick.few);
      fewer = λ is. let few = quick.fewer (sym takes ∙ is) in omega (arith, places, few);
      room = c.requires.room;
    }

pub put_coded-requires-clause-room : goal.put_coded-requires-clause-room
put_coded-requires-clause-room c = room_for c.args.self.now c.args.row c.requires.usable

pub returns : goal.returns
returns c =
    let column = c.args.self.now in
    let format = fixed_of column.description in
    let above : column.description.places ≢ 0 = grind (arith, nat_tests) in
    let type_is = sym c.number_type-2.ensures ∙ c.in-Some-number_type.is in
    let quick = quick_there column c.in-Some-number_type.numbers type_is above c.requires.amounts in
    let numbers : keeps_text (target_of column) ≡ false = no_texts_there column c.in-Some-number_type.numbers type_is in
    let point = c.point-2.ensures ∙ ap (λ (it : Fixed). it.point) c.standard-format.ensures in
    let places = c.places.ensures ∙ ap (λ (it : Fixed). it.places) c.standard-format.ensures in
    let fewer = c.takes_fewer.ensures ∙ ap (λ (it : Fixed). it.takes_fewer) c.standard-format.ensures in
    let amount = c.in-Some.ensures.stands in
    let put = c.put_coded.ensures in
    let number = with_sign c.in-Some.is_negative c.in-Some.units in
    let stands : IsTrue c.put_coded.result
    → complete_fixed format (type_named c.in-Some-number_type.numbers) (take c.args.size c.args.ahead.now) ≡ Ok number = λ did. amount.stands format (type_named c.in-Some-number_type.numbers)
    (valid_fixed column (c.args.row + 1) c.in-Some-number_type.numbers type_is above c.requires.usable) (decimal_is_plain format.integer quick.decimal)
    (keeps_rule format c.has_zero_rule-has_rule.result c.point.result c.in-Some.is_negative c.args.ahead.now c.args.size
    c.has_zero_rule-has_rule.ensures (c.point.ensures ∙ ap (λ (it : Fixed). it.point) c.standard-format.ensures) c.in-Some.ensures.minus (sym c.breaks_zero_rule.ensures ∙ c.if-breaks_zero_rule.false))
    (sym point) (sym places) (sym fewer) (put.fits did) (put.minus did) in
    let same : (text : FieldView) (type : IntegerType) → view_of Number (fixed_answer format type text)
    ≡ answer_by (reading_of column.description type) text = λ text type. fixed_point_answer column.description type text above in
    record {
      bytes = λ did. amount.bytes (λ is. quick.point (sym point ∙ is));
      fault = λ did start.
          let text : FieldView = record { start = start; text = take c.args.size c.args.ahead.now } in
          let both = put_answered column.arrays c.in-Some-number_type.numbers c.args.row number (λ type. fixed_answer format type text) type_is
          (ap (in_text start) (stands did)) in
          sym (fault_there column c.put_coded.new.self numbers c.args.row text (λ type. fixed_answer format type text) (same text))
          ∙ both.1;
      target = λ did start.
          let text : FieldView = record { start = start; text = take c.args.size c.args.ahead.now } in
          let both = put_answered column.arrays c.in-Some-number_type.numbers c.args.row number (λ type. fixed_answer format type text) type_is
          (ap (in_text start) (stands did)) in
          put_there column c.put_coded.new.self numbers c.args.row text (λ type. fixed_answer format type text) (same text)
          (put.numbers did ∙ both.0);
      kept = λ did_not. kept_there column c.put_coded.new.self numbers (c.put_coded.ensures.kept did_not);
    }
