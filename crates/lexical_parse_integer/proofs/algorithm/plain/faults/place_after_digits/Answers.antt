use Rattle.std.proofs.Common.{◌≡◌, ◌≤◌, ◌-◌, ap, arith, length, sym, ◌∙◌}
use Rattle.std.specs.Prelude.{is_some, slice_range}
use Rattle.std.proofs.lemmas.List.{length-drop}
use Rattle.lexical_digits.proofs.WordsInFront.{rest_is}
use Rattle.lexical_parse_integer.proofs.plain.DigitFaults.{byte_behind_few, no_byte, no_digit, some_digit, within_text}
use Rattle.lexical_parse_integer.proofs.theorems.CompleteByPartial.{sign_within}
use Rattle.lexical_parse_integer.proofs.algorithm.plain.faults.place_after_digits.Goals as goal

pub returns-then-required_digits-clause-end : goal.returns-then-required_digits-clause-end
returns-then-required_digits-clause-end g c = no_byte c.args.format.now g.T.Integer.TYPE c.args.bytes.now (c.args.is_negative, c.args.start) 0 c.requires.plain c.requires.decimal c.requires.sign (sym c.required_digits.ensures ∙ c.if-required_digits.true)

pub returns-then-start-bytes-clause-byte : goal.returns-then-start-bytes-clause-byte
returns-then-start-bytes-clause-byte g c = no_digit c.args.format.now g.T.Integer.TYPE c.args.bytes.now (c.args.is_negative, c.args.start) 0 c.requires.plain c.requires.decimal c.requires.sign (ap is_some (sym c.digit_at.ensures) ∙ c.if-is_none.ensures)

pub slice_bounds-digits-count : goal.slice_bounds-digits-count
slice_bounds-digits-count g c = sign_within c.args.format.now g.T.Integer.TYPE c.args.bytes.now (c.args.is_negative, c.args.start) c.requires.sign

pub slice_bounds-digits-start : goal.slice_bounds-digits-start
slice_bounds-digits-start g c = sign_within c.args.format.now g.T.Integer.TYPE c.args.bytes.now (c.args.is_negative, c.args.start) c.requires.sign

pub digits_in_front-count-requires : goal.digits_in_front-count-requires
digits_in_front-count-requires g c =
    let inside = within_text c.args.format.now g.T.Integer.TYPE c.args.bytes.now (c.args.is_negative, c.args.start) 0 c.requires.plain c.requires.decimal c.requires.sign (ap is_some (sym c.digit_at.ensures) ∙ c.if-is_none.ensures) in
    let size : length (slice_range c.args.bytes.now c.args.start (length c.args.bytes.now)) ≡ length c.args.bytes.now - c.args.start = ap length (rest_is c.args.bytes.now c.args.start) ∙ length-drop c.args.start c.args.bytes.now in
    record { some = omega arith }

pub returns-clause-byte : goal.returns-clause-byte
returns-clause-byte g c more =
    let front = c.digits_in_front-count.ensures in
    let within = front.within in
    let less = c.if-count-digits.false in
    let few : c.digits_in_front-count.result ≤ c.overflow_digits-most.result = omega (arith, c.if-count-most.false) in
    let signed = c.requires.sign in
    let some = some_digit c.args.format.now g.T.Integer.TYPE c.args.bytes.now (c.args.is_negative, c.args.start) c.digits_in_front-count.result c.requires.plain c.requires.decimal signed (ap is_some (sym c.digit_at.ensures) ∙ c.if-is_none.ensures) within (front.stops few) in
    byte_behind_few c.args.format.now g.T.Integer.TYPE c.args.bytes.now (c.args.is_negative, c.args.start) _ c.requires.plain c.requires.decimal signed _ c.overflow_digits-most.ensures.room few
    some (omega arith) (front.stops few (omega arith)) (sym c.keeps_zero_rule.ensures ∙ c.if-not-keeps_zero_rule.false) front.digits
