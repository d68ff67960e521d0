use Rattle.std.proofs.Common.{◌+◌, ◌-◌, ◌∙◌, length, drop, ap, arith, length-drop}
use Rattle.std.proofs.lemmas.List.{drop-drop, take_all}
use Rattle.lexical_tables.proofs.rows.split.Goals as goal

pub returns-else-is_empty-clause-behind : goal.returns-else-is_empty-clause-behind
returns-else-is_empty-clause-behind c =
    let end = c.split_at.result.1.now in
    take_all (length end - 1) (drop 1 end) (omega (arith, length-drop 1 end))
    ∙ ap (drop 1) c.split_at.ensures.back ∙ drop-drop 1 c.length_outside.result c.args.text.now
    ∙ ap (λ k. drop (k + 1) c.args.text.now) c.length_outside.ensures.value
