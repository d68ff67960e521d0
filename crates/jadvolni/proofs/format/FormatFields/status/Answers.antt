use Rattle.std.proofs.Common.{◌≡◌, ◌∙◌, None, true, refl, sym}
use Rattle.lexical_util.specs.declared.format.kind.FormatKind.TheVariants.{Decimal, Invalid}
use Rattle.lexical_util.specs.Validity.{fault}
use Rattle.lexical_util.proofs.FormatKinds.{valid_unless}
use Rattle.jadvolni.specs.FormatFields.{are_known, format_of}
use Rattle.jadvolni.proofs.format.FormatFields.status.Goals as goal

pub returns-then-is_plain_decimal : goal.returns-then-is_plain_decimal
returns-then-is_plain_decimal c =
    let told = c.if-is_plain_decimal.ensures in
    let fields = c.args.self.now in
    let kind = told.kind refl in
    let known : are_known fields ≡ true = told.known refl in
    let valid : fault (format_of fields) ≡ None = valid_unless (format_of fields) (λ e. let other : Decimal ≡ Invalid = sym kind ∙ e in cc) in
    rw (known, valid) refl
