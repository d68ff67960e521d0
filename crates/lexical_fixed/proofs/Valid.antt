-- What is known under a valid description.
use Rattle.std.proofs.Common.{◌≡◌, Option, None, Some, IsNone, refl}
use Rattle.lexical_util.specs.Validity.{fault}
use Rattle.lexical_util.specs.declared.error.Error.{Error}
use Rattle.lexical_fixed.specs.Fixed.{Fixed}
use Rattle.lexical_fixed.specs.Validity.{fixed_fault, fixed_fault_by}

pub none_is : {A : Type 0} (found : Option A) → IsNone found → found ≡ None
none_is None none = refl
none_is (Some x) none = cc

-- the format of the integer part is valid
pub integer_valid : (f : Fixed) → IsNone (fixed_fault f) → IsNone (fault f.integer)
integer_valid f valid = by_fault (fault f.integer) valid
  where
    by_fault : (found : Option Error) → IsNone (fixed_fault_by f found) → IsNone found
    by_fault None none = refl
    by_fault (Some error) none = none

pub is_none : {A : Type 0} (found : Option A) → found ≡ None → IsNone found
is_none None none = refl
is_none (Some x) none = cc
