use Rattle.std.proofs.Common.{◌-◌, ◌∙◌, ℕ, Bool, List, ap, drop, length, subst, sym}
use Rattle.lexical_util.specs.Number.{HasSign}
use Rattle.lexical_fixed.specs.Append.{IsAppended}
use Rattle.lexical_fixed.specs.Fraction.{read_zeros}
use Rattle.lexical_digits.proofs.WordsInFront.{rest_is}
use Rattle.lexical_fixed.proofs.Appended.{appended_sign}
use Rattle.lexical_fixed.proofs.LastPoints.{parted_units}
use Rattle.lexical_fixed.proofs.by_point.units_at_once.Goals as goal

pub read_zeros-requires : goal.read_zeros-requires
read_zeros-requires g c = record {
  sign = appended_sign g.T.Integer.TYPE c.is_negative-is_negative.result (g.T.Integer.number c.args.whole) _ (g.T.Integer.number c.in-Some.written)
      (subst (λ (m : Bool). HasSign m (g.T.Integer.number c.args.whole)) (sym c.is_negative-is_negative.ensures) c.requires.sign) c.in-Some.ensures;
}

pub returns-in-Ok : goal.returns-in-Ok
returns-in-Ok g c =
    let whole = g.T.Integer.number c.args.whole in
    let written = g.T.Integer.number c.in-Some.written in
    let size = length c.args.text.now in
    parted_units c.args.format.now g.T.Integer.TYPE c.args.text.now c.args.count whole written (g.T.Integer.number c.in-Ok.units)
    c.requires.parted c.requires.sign
    (subst (λ (m : Bool). IsAppended g.T.Integer.TYPE m whole (drop (size - c.args.count) c.args.text.now) written) c.is_negative-is_negative.ensures
    (subst (λ (ds : List ℕ). IsAppended g.T.Integer.TYPE c.is_negative-is_negative.result whole ds written) (rest_is c.args.text.now (size - c.args.count)) c.in-Some.ensures))
    (c.in-Ok.ensures
    ∙ ap (λ n. read_zeros g.T.Integer.TYPE c.is_negative-is_negative.result written (n - c.args.count) size) c.places.ensures
    ∙ ap (λ (m : Bool). read_zeros g.T.Integer.TYPE m written (c.args.format.now.places - c.args.count) size) c.is_negative-is_negative.ensures)
