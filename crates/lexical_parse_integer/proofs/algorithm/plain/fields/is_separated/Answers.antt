use Rattle.std.proofs.Common.{Bool, true, false, not, Option, None, Some, is_some, refl, sym, ap, ◌≡◌, ◌∙◌, ℕ, IsTrue}
use Rattle.std.specs.Prelude.{IsNone}
use Rattle.lexical_util.specs.Digit.{digit}
use Rattle.lexical_parse_integer.proofs.plain.KindsOfFormats.{decimal_is_plain, decimal_radix}
use Rattle.lexical_parse_integer.proofs.algorithm.plain.fields.is_separated.Goals as goal

none_told : (o : Option ℕ) (is_none : Bool) → is_some o ≡ not is_none → IsTrue is_none → IsNone o
none_told None is_none same told = refl
none_told (Some x) is_none same told = cc

told_none : (o : Option ℕ) (is_none : Bool) → is_some o ≡ not is_none → IsNone o → IsTrue is_none
told_none None true same none = refl
told_none None false same none = cc
told_none (Some x) is_none same none = cc

pub returns-then-separator-ne45 : goal.returns-then-separator-ne45
returns-then-separator-ne45 c =
    let kind = sym c.kind.ensures ∙ c.in-Decimal.is in
    let same : is_some (digit 10 c.args.separator) ≡ not c.is_none.result = ap is_some (sym c.char_to_digit.ensures) ∙ c.is_none.ensures in (
      λ told. record {
        plain = decimal_is_plain c.args.format.now kind;
        decimal = decimal_radix c.args.format.now kind;
        no_digit = none_told _ _ same told;
        no_minus = c.if-separator-ne45.true;
      },
      λ s. told_none _ _ same s.no_digit,
    )
