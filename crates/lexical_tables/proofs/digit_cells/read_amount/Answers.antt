use Rattle.std.proofs.Common.{◌-◌, length, subst, sym, take}
use Rattle.lexical_tables.specs.Codes.{AreQuotesRound}
use Rattle.lexical_tables.proofs.CodeSteps.{amounts_if_fixed}
use Rattle.lexical_tables.proofs.numerals.HeldCells.{amount_put}
use Rattle.lexical_tables.proofs.digit_cells.read_amount.Goals as goal

pub read_amount-requires-clause-amounts : goal.read_amount-requires-clause-amounts
read_amount-requires-clause-amounts g c =
    amounts_if_fixed (g.C.TableColumn.target c.args.target.now) c.requires.amounts.column

pub returns-clause-fault : goal.returns-clause-fault
returns-clause-fault g c = λ did start.
    let held = c.within_quotes-count.ensures in
    let round = subst (λ q. AreQuotesRound q (take c.args.size c.args.ahead.now)
    (length c.args.ahead.now - length c.within_quotes-count.result.0.now)) (sym c.requires.quotes) held.round in
    (amount_put c.args.dialect.now c.args.row start c.args.size c.args.ahead.now c.within_quotes-count.result.0.now
    c.within_quotes-count.result.1 (g.C.TableColumn.target c.args.target.now) (g.C.TableColumn.target c.read_amount.new.self)
    c.requires.amounts c.requires.room round held.tail held.size (c.read_amount.ensures.bytes did)
    (c.read_amount.ensures.fault did) (c.read_amount.ensures.target did)).fault

pub returns-clause-target : goal.returns-clause-target
returns-clause-target g c = λ did start.
    let held = c.within_quotes-count.ensures in
    let round = subst (λ q. AreQuotesRound q (take c.args.size c.args.ahead.now)
    (length c.args.ahead.now - length c.within_quotes-count.result.0.now)) (sym c.requires.quotes) held.round in
    (amount_put c.args.dialect.now c.args.row start c.args.size c.args.ahead.now c.within_quotes-count.result.0.now
    c.within_quotes-count.result.1 (g.C.TableColumn.target c.args.target.now) (g.C.TableColumn.target c.read_amount.new.self)
    c.requires.amounts c.requires.room round held.tail held.size (c.read_amount.ensures.bytes did)
    (c.read_amount.ensures.fault did) (c.read_amount.ensures.target did)).target
