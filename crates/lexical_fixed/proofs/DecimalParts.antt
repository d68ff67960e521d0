-- Descriptions whose integer part is decimal, without punctuation.
use Rattle.std.proofs.Common.{◌≡◌, ◌≤◌, false, None, refl, sym, ◌∙◌, arith}
use Rattle.std.specs.Prelude.{nat_lt}
use Rattle.std.proofs.lemmas.Bool.Decides.{nat_tests}
use Rattle.lexical_util.specs.declared.format.kind.FormatKind.TheVariants.{Decimal, Invalid}
use Rattle.lexical_util.specs.Kind.{kind_of}
use Rattle.lexical_util.specs.Validity.{fault}
use Rattle.lexical_util.proofs.FormatKinds as kinds
use Rattle.lexical_fixed.specs.Fixed.{Fixed}
use Rattle.lexical_fixed.specs.Validity.{fixed_fault, is_unfit_point}

pub decimal_part : (fixed : Fixed) → kind_of fixed.integer ≡ Decimal → is_unfit_point fixed.integer fixed.point ≡ false → fixed.places ≤ 38 → fixed_fault fixed ≡ None
decimal_part fixed is point places =
    let none = kinds.decimal_none fixed.integer is in
    let valid : fault fixed.integer ≡ None = kinds.valid_unless fixed.integer (λ e. let other : Decimal ≡ Invalid = sym is ∙ e in cc) in
    let few : nat_lt 38 fixed.places ≡ false = grind (arith, nat_tests) in
    rw (valid, kinds.decimal_radix fixed.integer is, none.no_prefix, none.no_suffix, none.no_literals, none.no_octal_zeros, point, few) refl
