use Rattle.std.proofs.Common.{◌≡◌, ◌∙◌, Ok, ap, sym, take}
use Rattle.std.specs.Prelude.{IsTrue, ℕ}
use Rattle.lexical_digits.specs.Value.{with_sign}
use Rattle.lexical_fields.specs.Places.{in_text}
use Rattle.lexical_parse_integer.proofs.ForCallers.{decimal_is_plain}
use Rattle.lexical_parse_integer.specs.Answer.{view_of}
use Rattle.lexical_tables.specs.Readings.{FixedPoints, Number, fixed_answer}
use Rattle.lexical_tables.specs.Targets.{error_in, numbers_in, type_of, view_of_fixed, with_number}
use Rattle.lexical_tables.proofs.NumbersPut.{answer_in}
use Rattle.lexical_tables.proofs.numerals.AmountTexts.{keeps_rule}
use Rattle.lexical_tables.proofs.fixed_targets.FixedTarget.put_amount.Goals as goal

-- what is put is what the text stands for
told : (c : goal.After-put_with_sign) → IsTrue c.put_with_sign.result → (start : ℕ)
    → fixed_answer c.args.self.now.format (type_of c.args.self.now.numbers) (record { start = start; text = take c.args.size c.args.ahead.now })
    ≡ Ok (with_sign c.in-Some.is_negative c.in-Some.units)
told c = λ did start.
    let format = c.args.self.now.format in
    let put = c.put_with_sign.ensures in
    ap (in_text start) (c.in-Some.ensures.stands.stands format (type_of c.args.self.now.numbers) c.requires.usable.0 (decimal_is_plain format.integer c.requires.amounts.decimal)
    (keeps_rule format c.no_integer_leading_zeros-has_rule.result c.point.result c.in-Some.is_negative c.args.ahead.now c.args.size
    (c.no_integer_leading_zeros-has_rule.ensures ∙ ap (λ f. f.no_integer_leading_zeros) c.integer.ensures) c.point.ensures c.in-Some.ensures.minus (sym c.breaks_zero_rule.ensures ∙ c.if-breaks_zero_rule.false))
    (sym c.point-2.ensures) (sym c.places.ensures) (sym c.takes_fewer.ensures) (put.fits did) (put.minus did))

pub returns-clause-fault : goal.returns-clause-fault
returns-clause-fault c = λ did start. ap (λ answer. error_in (view_of Number answer)) (told c did start)

pub returns-clause-target : goal.returns-clause-target
returns-clause-target c = λ did start.
    let before = view_of_fixed c.args.self.now in
    let put = c.put_with_sign.ensures in
    answer_in (FixedPoints c.args.self.now.format) before.bits before.present c.args.self.now.numbers c.put_with_sign.new.self
    put.same_type put.same_slice c.args.row (fixed_answer c.args.self.now.format (type_of c.args.self.now.numbers) (record { start = start; text = take c.args.size c.args.ahead.now }))
    (put.numbers did ∙ ap (λ a. with_number c.args.row a (numbers_in c.args.self.now.numbers)) (sym (told c did start)))
