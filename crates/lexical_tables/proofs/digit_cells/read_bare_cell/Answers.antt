use Rattle.std.proofs.Common.{◌≡◌, ◌≢◌, ◌-◌, ◌<◌, ℕ, arith, get_or, length, subst, sym, take, true}
use Rattle.std.specs.Prelude.{IsTrue}
use Rattle.std.proofs.lemmas.Bool.Decides.{nat_tests}
use Rattle.lexical_tables.specs.Codes.{AreQuotesRound}
use Rattle.lexical_tables.specs.Quotes.{quote}
use Rattle.lexical_tables.proofs.CodedCells.{IsCellPut}
use Rattle.lexical_tables.proofs.numerals.HeldCells.{bare_put}
use Rattle.lexical_tables.proofs.digit_cells.read_bare_cell.Goals.{then-this-ne0+else-not-shows_no_quote, else-this-ne0}
use Rattle.lexical_tables.proofs.digit_cells.read_bare_cell.Goals as goal

pub returns : goal.returns
returns g c =
    let d = c.args.dialect.now in
    let held = c.within_quotes-count.ensures in
    let count = c.within_quotes-count.result.1 in
    let inner = c.within_quotes-count.result.0.now in
    let old = g.C.TableColumn.target c.args.target.now in
    let new = g.C.TableColumn.target c.read_parsed.new.self in
    let none : d.has_quotes ≡ true → (k : ℕ) → k < count → get_or inner k 0 ≢ quote = elim c.if-this-ne0.branch [
      | then-this-ne0+else-not-shows_no_quote w ↦ λ has. w.shows_no_quote.ensures w.if-not-shows_no_quote.false
      | else-this-ne0 w ↦ λ has. absurd (grind (arith, nat_tests))
    ] in
    let round = subst (λ q. AreQuotesRound q (take c.args.size c.args.ahead.now) (length c.args.ahead.now - length inner))
    (sym c.requires.quotes) held.round in
    let put : IsTrue c.read_parsed.result → (start : ℕ)
    → IsCellPut d c.args.row (record { start = start; text = take c.args.size c.args.ahead.now }) old new = λ did start.
    bare_put d c.args.row start c.args.size c.args.ahead.now inner count old new c.requires.bare c.requires.usable
    c.requires.room round held.tail held.size none (c.read_parsed.ensures.fault did) (c.read_parsed.ensures.target did) in
    record {
      fault = λ did start. (put did start).fault;
      target = λ did start. (put did start).target;
      kept = c.read_parsed.ensures.kept;
    }
