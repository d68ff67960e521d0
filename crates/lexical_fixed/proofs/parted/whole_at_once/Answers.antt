use Rattle.std.proofs.Common.{◌-◌, ◌∙◌, ap, length, subst}
use Rattle.lexical_parse_integer.specs.Plain.{IsBehind}
use Rattle.lexical_fixed.specs.Fraction.{read_zeros}
use Rattle.lexical_fixed.proofs.PartedTexts.{parted_read, summed_sign}
use Rattle.lexical_fixed.proofs.parted.whole_at_once.Goals as goal

pub read_zeros-requires : goal.read_zeros-requires
read_zeros-requires g c = record { sign = summed_sign _ _ _ _ _ c.in-Some-value_as_written.ensures }

pub returns-in-Ok : goal.returns-in-Ok
returns-in-Ok g c =
    parted_read c.args.format.now g.T.Integer.TYPE _ c.args.text.now _ c.in-Some.count _ (g.T.Integer.number c.in-Ok.units) c.requires.valid
    c.requires.plain (c.requires.zeros _ (subst (λ b. IsBehind b g.T.Integer.TYPE c.args.text.now c.behind_minus-is_negative.result.1.now) c.behind_minus-is_negative.ensures.minus c.behind_minus-is_negative.ensures.behind))
    (c.front_digits.ensures c.args.format.now.integer g.T.Integer.TYPE c.args.text.now)
    c.behind_minus-is_negative.ensures.behind c.behind_minus-is_negative.ensures.minus c.in-Some.ensures c.in-Some-value_as_written.ensures
    (c.in-Ok.ensures ∙ ap (λ n. read_zeros g.T.Integer.TYPE c.behind_minus-is_negative.result.0 (g.T.Integer.number c.in-Some-value_as_written.written) (n - c.in-Some.count) (length c.args.text.now)) c.places.ensures)
