use Rattle.std.proofs.Common.{◌≡◌, ◌∙◌, None, Option, Some, ap, refl}
use Rattle.std.specs.Prelude.{IsNone}
use Rattle.lexical_util.specs.Validity.{fault}
use Rattle.lexical_util.specs.declared.error.Error.{Error}
use Rattle.lexical_fixed.proofs.Valid.{integer_valid, is_none}
use Rattle.jadvolni.specs.Fixed.{fixed_of}
use Rattle.jadvolni.proofs.fixed.FixedFields.valid_format.Goals as goal

no_fault : (found : Option Error) → IsNone found → found ≡ None
no_fault None none = refl
no_fault (Some error) none = absurd cc

pub valid_format-requires : goal.valid_format-requires
valid_format-requires c =
    let description = fixed_of c.args.self.now in
    ap fault c.set_radix.ensures ∙ no_fault (fault description.integer) (integer_valid description (is_none _ c.requires))
