use Rattle.std.proofs.Common.{◌∙◌, ◌+◌, ◌-◌, None, ap, length, refl, sym, take}
use Rattle.lexical_tables.specs.ByColumn.{end_fault}
use Rattle.lexical_tables.specs.Rows.{first_row}
use Rattle.lexical_tables.proofs.PassSteps.{end_fine}
use Rattle.lexical_tables.proofs.row_end.end_row.Goals as goal

pub returns-then-not-ends_wrong : goal.returns-then-not-ends_wrong
returns-then-not-ends_wrong c =
    let row = first_row c.args.dialect.now c.args.start c.args.text.now in
    let right = c.if-not-ends_wrong.ensures in
    c.requires.fine
    ∙ end_fine c.args.columns c.args.index (c.args.column + 1) row (sym (right.count refl c.requires.last))
    (sym (ap (λ r. r.lacks_return) (c.requires.part.row c.requires.last c.args.start)) ∙ right.returned refl c.requires.last)

pub returns : goal.returns
returns c =
    let text = c.args.text.now in
    let size = length text - length c.args.left.now + c.args.part.size in
    c.put_end_fault.ensures
    ∙ ap (λ t. end_fault c.args.columns c.args.index (record { start = c.args.start; text = take size text; lacks_return = t })
    (c.args.column + 1) None) c.lacks_return-lacks_return.ensures
    ∙ ap (λ r. end_fault c.args.columns c.args.index r (c.args.column + 1) None) (c.requires.part.row c.requires.last c.args.start)
