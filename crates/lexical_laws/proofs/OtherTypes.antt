-- A value is that of each type that has it, and a range fault in one that hasn't.
use Rattle.std.proofs.Common.{◌≡◌, ℕ, Bool, true, false, List, IsNone, Ok, sym, ap, subst, ◌∙◌}
use Rattle.std.proofs.Math.IntN.{ℤ}
use Rattle.lexical_util.specs.Format.{Format}
use Rattle.lexical_util.specs.Number.{IntegerType, is_number}
use Rattle.lexical_util.specs.Validity.{fault}
use Rattle.lexical_parse_integer.specs.Grammar.{complete}
use Rattle.lexical_laws.specs.Integer.{IsSign}
use Rattle.lexical_laws.specs.Integer.IsSign.{no_sign as none, a_plus, a_minus}
use Rattle.lexical_laws.specs.Keeping.{Implies, IsRangeFault}
use Rattle.lexical_laws.proofs.MadeIsRead.{made_is_read, made_leaves}
use Rattle.lexical_laws.proofs.ReadIsMade.{read_is_integer}

other_sign : (f : Format) (t u : IntegerType) (front : List ℕ) (m : Bool) → Implies t.is_signed u.is_signed → IsSign f t front m → IsSign f u front m
other_sign f t u _ _ signed (none off) = none off
other_sign f t u _ _ signed (a_plus off) = a_plus off
other_sign f t u _ _ signed (a_minus on) = a_minus (signed on)

pub types_agree : (f : Format) (t u : IntegerType) (text : List ℕ) (v : ℤ) → IsNone (fault f) → Implies t.is_signed u.is_signed → complete f t text ≡ Ok v → is_number u v ≡ true → complete f u text ≡ Ok v
types_agree f t u text v valid signed read fits =
    let i = read_is_integer f t text v valid read in
    ap (complete f u) i.parts ∙ made_is_read f u i.sign i.prefix i.body i.suffix i.digits i.is_negative i.radix valid (other_sign f t u i.sign i.is_negative signed i.sign_may) i.prefix_may i.body_may i.suffix_may v i.enough i.zeros i.worth fits

pub types_leave : (f : Format) (t u : IntegerType) (text : List ℕ) (v : ℤ) → IsNone (fault f) → Implies t.is_signed u.is_signed → complete f t text ≡ Ok v → is_number u v ≡ false → IsRangeFault (complete f u text)
types_leave f t u text v valid signed read leaves =
    let i = read_is_integer f t text v valid read in
    subst (λ x. IsRangeFault (complete f u x)) (sym i.parts)
    (made_leaves f u i.sign i.prefix i.body i.suffix i.digits i.is_negative i.radix valid (other_sign f t u i.sign i.is_negative signed i.sign_may) i.prefix_may i.body_may i.suffix_may v i.zeros i.worth leaves)
