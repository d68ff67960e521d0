-- The effect of an answer that is sure: its format is known and valid.
use Rattle.std.proofs.Common.{◌≡◌, true, Option, Some, None, IsNone, Result, ap, sym}
use Rattle.std.specs.Prelude.{ℤ, if◌then◌else◌}
use Rattle.lexical_util.specs.declared.error.Error.{Error}
use Rattle.lexical_parse_integer.specs.Grammar.{if_valid}
use Rattle.jadvolni.specs.Effect.{Effect, if_known, unknown_field}
use Rattle.jadvolni.specs.FormatFields.{are_known}
use Rattle.jadvolni.specs.declared.format.FormatFields.{FormatFields}

-- an answer under a format without fault
pub if_sure : {A : Type 0} (broken : Option Error) (said answer : Result A Error) → IsNone broken → said ≡ answer → answer ≡ if_valid broken said
if_sure None said answer none is = sym is
if_sure (Some e) said answer none is = cc

-- an effect where each byte of the format is known
pub if_all_known : (fields : FormatFields) (before : ℤ) (found : Effect) → are_known fields ≡ true → found ≡ if_known fields before found
if_all_known fields before found known = sym (ap (λ is. if is then found else record { status = unknown_field; place = 0; number = before }) known)
