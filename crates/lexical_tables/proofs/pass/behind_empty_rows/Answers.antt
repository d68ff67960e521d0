use Rattle.std.proofs.Common.{◌≡◌, ◌∙◌, ◌-◌, ap, arith, drop, length, subst}
use Rattle.std.proofs.lemmas.Bool.Decides.{nat_tests}
use Rattle.lexical_tables.specs.Rows.{FirstCounts}
use Rattle.lexical_tables.proofs.pass.behind_empty_rows.Goals as goal

pub returns-then-text-left-clause-first : goal.returns-then-text-left-clause-first
returns-then-text-left-clause-first c =
    let left = c.args.left.text.now in
    let text = c.without_empty_rows-text.result.now in
    let same : length text ≡ length left = grind (arith, nat_tests) in
    let none : length left - length text ≡ 0 = omega (arith, same) in
    subst (FirstCounts c.args.dialect.now) (c.without_empty_rows-text.ensures.tail ∙ ap (λ k. drop k left) none)
    c.without_empty_rows-text.ensures.first
