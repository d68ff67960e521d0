use Rattle.std.proofs.Common.{◌≤◌, Bool, cond, ap, arith, sym, ◌∙◌}
use Rattle.lexical_parse_integer.proofs.punctuated.PunctuatedAnswers.{head_bare, head_named}
use Rattle.lexical_parse_integer.proofs.reading.ParserAnswers.{sign_short}
use Rattle.lexical_parse_integer.proofs.algorithm.front.head_behind_sign.Goals as goal

pub returns-in-Some : goal.returns-in-Some
returns-in-Some g c = head_named _ _ c.args.bytes.now (c.args.is_negative, c.args.start) _ c.requires c.in-Some.ensures

pub returns-then-is_octal : goal.returns-then-is_octal
returns-then-is_octal g c = head_bare _ _ c.args.bytes.now (c.args.is_negative, c.args.start) _ 8 c.requires c.in-None.ensures c.octal_zero_at-is_octal.ensures (sym (ap (λ (b : Bool). cond b 8 c.args.format.now.mantissa_radix) c.if-is_octal.true))

pub returns-else-is_octal : goal.returns-else-is_octal
returns-else-is_octal g c = head_bare _ _ c.args.bytes.now (c.args.is_negative, c.args.start) _ c.mantissa_radix-radix.result c.requires c.in-None.ensures c.octal_zero_at-is_octal.ensures (c.mantissa_radix-radix.ensures ∙ sym (ap (λ (b : Bool). cond b 8 c.args.format.now.mantissa_radix) c.if-is_octal.false))

pub overflow_add-result : goal.overflow_add-result
overflow_add-result g c = let short : c.args.start ≤ 1 = sign_short _ _ c.args.bytes.now (c.args.is_negative, c.args.start) c.requires in omega arith
