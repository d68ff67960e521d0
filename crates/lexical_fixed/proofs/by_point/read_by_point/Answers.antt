use Rattle.std.proofs.Common.{◌∙◌, IsNone, Ok, ap, refl, subst, sym, take}
use Rattle.lexical_util.specs.Format.{Format}
use Rattle.lexical_util.specs.Validity.{fault}
use Rattle.lexical_parse_integer.specs.Grammar.{complete}
use Rattle.lexical_fixed.proofs.LastPoints.{fault_is, part_is}
use Rattle.lexical_fixed.proofs.Valid.{integer_valid}
use Rattle.lexical_fixed.proofs.by_point.read_by_point.Goals as goal

pub complete_valid-requires : goal.complete_valid-requires
complete_valid-requires g c = record {
  valid = subst (λ (f : Format). IsNone (fault f)) (sym c.integer.ensures) (integer_valid c.args.format.now c.requires.valid);
}

pub units_behind_part-requires-clause-part : goal.units_behind_part-requires-clause-part
units_behind_part-requires-clause-part g c =
    part_is c.args.format.now g.T.Integer.TYPE c.args.text.now c.args.count c.foreign_bytes.ensures.read c.foreign_bytes.ensures.number
    c.requires.valid c.requires.foreign c.requires.parted c.complete_by_partial.ensures.sentences (g.T.Integer.number c.in-Ok.whole)
    (ap (λ n. complete c.args.format.now.integer g.T.Integer.TYPE (take n c.args.text.now)) (sym c.point_place-place.ensures.answer)
    ∙ ap (λ (f : Format). complete f g.T.Integer.TYPE (take c.point_place-place.result c.args.text.now)) (sym c.integer.ensures)
    ∙ sym c.in-Ok.ensures)
    ∙ ap (λ n. Ok (g.T.Integer.number c.in-Ok.whole, n)) (sym c.point_place-place.ensures.answer)

pub returns-then-is_told_before : goal.returns-then-is_told_before
returns-then-is_told_before g c =
    sym (fault_is c.args.format.now g.T.Integer.TYPE c.args.text.now c.args.count c.foreign_bytes.ensures.read c.foreign_bytes.ensures.number
    c.requires.valid c.requires.foreign c.requires.parted c.complete_by_partial.ensures.answer c.in-Err.error
    (ap (λ n. complete c.args.format.now.integer g.T.Integer.TYPE (take n c.args.text.now)) (sym c.point_place-place.ensures.answer)
    ∙ ap (λ (f : Format). complete f g.T.Integer.TYPE (take c.point_place-place.result c.args.text.now)) (sym c.integer.ensures)
    ∙ sym c.in-Err.ensures)
    (c.if-is_told_before.ensures refl))
