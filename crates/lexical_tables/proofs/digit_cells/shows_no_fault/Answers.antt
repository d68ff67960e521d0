use Rattle.std.proofs.Common.{◌≡◌, ◌-◌, None, false, length, subst, sym, take}
use Rattle.lexical_fields.specs.Fields.{FieldView}
use Rattle.lexical_tables.specs.Cells.{quote_fault}
use Rattle.lexical_tables.specs.Codes.{AreQuotesRound}
use Rattle.lexical_tables.proofs.CodedCells.{held_fine}
use Rattle.lexical_tables.proofs.digit_cells.shows_no_fault.Goals as goal

pub returns : goal.returns
returns c = λ seen start.
    let cell : FieldView = record { start = start; text = take c.args.size c.args.ahead.now } in
    let has = c.if-not-has_quotes.false in
    let held = c.within_quotes-count.ensures in
    let round = subst (λ q. AreQuotesRound q cell.text
    (length c.args.ahead.now - length c.within_quotes-count.result.0.now)) has held.round in
    subst (λ q. None ≡ quote_fault q false cell) (sym has)
    (held_fine start c.args.size c.args.ahead.now c.within_quotes-count.result.0.now c.within_quotes-count.result.1
    c.requires.room round held.tail held.size (c.shows_no_quote.ensures seen))
