use Rattle.std.proofs.Common.{IsNone, subst, sym}
use Rattle.lexical_util.specs.Format.{Format}
use Rattle.lexical_util.specs.Validity.{fault}
use Rattle.lexical_fixed.proofs.Valid.{integer_valid}
use Rattle.lexical_fixed.proofs.parse.integer_part.Goals as goal

pub part_by_format-requires : goal.part_by_format-requires
part_by_format-requires g c = record {
  valid = subst (λ (f : Format). IsNone (fault f)) (sym c.integer.ensures) (integer_valid c.args.format.now c.requires.valid);
}
