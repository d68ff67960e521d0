use Rattle.std.proofs.Common.{◌≡◌, ◌∙◌, None, true, refl, rules, sym}
use Rattle.lexical_util.specs.declared.format.kind.FormatKind.TheVariants.{Decimal, Invalid}
use Rattle.lexical_util.specs.Validity.{fault}
use Rattle.lexical_util.proofs.FormatKinds.{valid_unless}
use Rattle.jadvolni.specs.Effect.{format_status}
use Rattle.jadvolni.specs.FormatFields.{are_known, format_of}
use Rattle.jadvolni.proofs.fixed.FixedFields.number_status.Goals as goal

pub returns-then-is_plain_decimal : goal.returns-then-is_plain_decimal
returns-then-is_plain_decimal c =
    let asked = c.if-is_plain_decimal.ensures in
    let fields = c.args.self.now.integer in
    let kind = asked.kind refl in
    let known : are_known fields ≡ true = asked.known refl in
    let valid : fault (format_of fields) ≡ None = valid_unless (format_of fields) (λ e. let other : Decimal ≡ Invalid = sym kind ∙ e in cc) in
    let status : format_status fields ≡ 0 = rw (known, valid) refl in
    search rules
