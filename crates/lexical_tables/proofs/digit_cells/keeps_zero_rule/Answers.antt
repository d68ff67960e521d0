use Rattle.std.proofs.Common.{◌∙◌, arith, inl, inr}
use Rattle.std.proofs.lemmas.Bool.Decides.{nat_tests}
use Rattle.lexical_tables.proofs.numerals.ZeroRule.{rule_kept, rule_unasked}
use Rattle.lexical_tables.proofs.digit_cells.keeps_zero_rule.Goals as goal

pub returns-then-code-lt-WITH_ZERO_RULE : goal.returns-then-code-lt-WITH_ZERO_RULE
returns-then-code-lt-WITH_ZERO_RULE g c = λ is format number decimal n.
    rule_unasked c.args.size 0 c.args.ahead.now (omega (arith, c.requires.room)) format c.args.is_negative number n
    (decimal.zeros ∙ (grind (arith, nat_tests)))

pub returns-then-ahead-first-ne48 : goal.returns-then-ahead-first-ne48
returns-then-ahead-first-ne48 g c = λ is format number decimal n.
    rule_kept c.args.size c.from-first.result c.args.ahead.now (omega (arith, c.requires.room)) format c.args.is_negative number n
    c.from-first.ensures (inl (grind (arith, nat_tests)))

pub returns-else-ahead-first-ne48 : goal.returns-else-ahead-first-ne48
returns-else-ahead-first-ne48 g c = λ is format number decimal n.
    rule_kept c.args.size c.from-first.result c.args.ahead.now (omega (arith, c.requires.room)) format c.args.is_negative number n
    c.from-first.ensures (inr (grind (arith, nat_tests)))
