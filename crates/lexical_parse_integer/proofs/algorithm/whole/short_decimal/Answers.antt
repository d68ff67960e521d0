use Rattle.std.proofs.Common.{ap, arith, sym, ◌∙◌, Ok}
use Rattle.std.specs.Prelude.{ℤ}
use Rattle.lexical_parse_integer.proofs.plain.DigitFaults.{no_digits_asked}
use Rattle.lexical_parse_integer.proofs.algorithm.whole.short_decimal.Goals as goal

pub returns-in-None : goal.returns-in-None
returns-in-None g c =
    ap (λ (z : ℤ). Ok z) (ap g.T.Integer.number c.ZERO.ensures ∙ g.met.T.Integer.zero_law)
    ∙ sym (no_digits_asked c.args.format.now g.T.Integer.TYPE c.args.bytes.now (c.args.is_negative, c.args.start) 0 c.requires.plain c.requires.decimal c.requires.sign (sym c.required_digits.ensures ∙ c.if-not-required_digits.true) (omega (arith, c.if-start-bytes.true)))
