use Rattle.std.proofs.Common.{true, false, sym, ap, ◌∙◌}
use Rattle.lexical_parse_integer.proofs.reading.FrontNumbers.{digit_of_value, front_fault, front_number, is_valid, not_both}
use Rattle.lexical_parse_integer.proofs.number.number_in_front.Goals as goal

pub returns-then-ne : goal.returns-then-ne
returns-then-ne g c =
    let f = c.args.format.now in
    let text = c.args.bytes.now in
    front_number f g.T.Integer.TYPE text true _ _ c.in-Ok.ensures (digit_of_value f g.T.Integer.TYPE text _ _ c.in-Ok.ensures (λ e.
    let zero = ap g.T.Integer.number c.ZERO.ensures ∙ g.met.T.Integer.zero_law in
    not_both _ c.if-ne.ensures ((g.met.T.Integer.eq_law _ _).1 (e ∙ sym zero))))

pub has_digit-requires : goal.has_digit-requires
has_digit-requires g c = record { valid = is_valid c.args.format.now g.T.Integer.TYPE c.args.bytes.now _ c.in-Ok.ensures }

pub returns-else-has_digit : goal.returns-else-has_digit
returns-else-has_digit g c = front_number c.args.format.now g.T.Integer.TYPE c.args.bytes.now false _ _ c.in-Ok.ensures (sym c.if-has_digit.ensures)

pub returns-in-Err : goal.returns-in-Err
returns-in-Err g c = front_fault c.args.format.now g.T.Integer.TYPE c.args.bytes.now _ c.in-Err.ensures
