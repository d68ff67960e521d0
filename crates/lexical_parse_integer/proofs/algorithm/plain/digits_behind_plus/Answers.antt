use Rattle.std.proofs.Common.{arith, sym, ◌∙◌}
use Rattle.lexical_digits.proofs.LongNumbers.{if_found}
use Rattle.lexical_parse_integer.proofs.plain.DigitsInFront.{plus_read}
use Rattle.lexical_parse_integer.proofs.algorithm.plain.digits_behind_plus.Goals as goal

pub returns : goal.returns
returns g c = if_found c.value_of_digits.result (λ v s. plus_read c.args.format.now _ c.args.bytes.now _ c.requires.plain c.requires.decimal c.requires.taken (omega (arith, c.requires.some)) c.requires.plus (sym c.keeps_zero_rule.ensures ∙ c.if-not-keeps_zero_rule.false) s) c.value_of_digits.ensures
