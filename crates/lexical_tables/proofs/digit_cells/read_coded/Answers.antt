use Rattle.lexical_fields.specs.Fields.{FieldView}
use Rattle.lexical_tables.specs.Cells.{quote_fault}
use Rattle.lexical_tables.specs.Codes.{AreQuotesRound}
use Rattle.lexical_tables.proofs.CodedCells.{found_put, unread_put}
use Rattle.lexical_tables.proofs.digit_cells.read_coded.Goals as goal
use Rattle.std.proofs.Common.{◌≡◌, ◌-◌, ◌≤◌, None, arith, false, length, subst, sym, take}
use Rattle.std.proofs.lemmas.Bool.Decides.{nat_tests}

pub returns-then-code-eq-NOT_READ-clause-fault : goal.returns-then-code-eq-NOT_READ-clause-fault
returns-then-code-eq-NOT_READ-clause-fault g c = λ seen.
    let start = c.args.start in
    let cell : FieldView = record { start = start; text = take c.args.size c.args.ahead.now } in
    let unread : c.args.code ≡ 1 = grind (arith, nat_tests) in
    (unread_put c.args.dialect.now c.args.row cell (g.C.TableColumn.target c.args.target.now)
    (c.requires.code.column.unread unread)
    (subst (λ q. None ≡ quote_fault q false cell) (sym c.requires.quotes) (c.shows_no_fault.ensures seen start))).fault

pub returns-clause-fault : goal.returns-clause-fault
returns-clause-fault g c = λ did.
    let start = c.args.start in
    let read : 8 ≤ c.args.code = grind (arith, nat_tests) in
    let held = c.within_quotes-count.ensures in
    let round = subst (λ q. AreQuotesRound q (take c.args.size c.args.ahead.now)
    (length c.args.ahead.now - length c.within_quotes-count.result.0.now)) (sym c.requires.quotes) held.round in
    (found_put start c.args.size c.args.ahead.now c.args.dialect.now c.args.code c.args.row
    (g.C.TableColumn.target c.args.target.now) (g.C.TableColumn.target c.put_found.new.target)
    c.within_quotes-count.result.0.now c.within_quotes-count.result.1 c.requires.code read c.requires.usable c.requires.room
    round held.tail held.size (c.put_found.ensures.put did)).fault

pub returns-clause-target : goal.returns-clause-target
returns-clause-target g c = λ did.
    let start = c.args.start in
    let read : 8 ≤ c.args.code = grind (arith, nat_tests) in
    let held = c.within_quotes-count.ensures in
    let round = subst (λ q. AreQuotesRound q (take c.args.size c.args.ahead.now)
    (length c.args.ahead.now - length c.within_quotes-count.result.0.now)) (sym c.requires.quotes) held.round in
    (found_put start c.args.size c.args.ahead.now c.args.dialect.now c.args.code c.args.row
    (g.C.TableColumn.target c.args.target.now) (g.C.TableColumn.target c.put_found.new.target)
    c.within_quotes-count.result.0.now c.within_quotes-count.result.1 c.requires.code read c.requires.usable c.requires.room
    round held.tail held.size (c.put_found.ensures.put did)).target

pub returns-then-code-eq-AMOUNTS-clause-target : goal.returns-then-code-eq-AMOUNTS-clause-target
returns-then-code-eq-AMOUNTS-clause-target g c = λ did. c.read_amount.ensures.target did c.args.start

pub returns-then-code-eq-BARE-clause-target : goal.returns-then-code-eq-BARE-clause-target
returns-then-code-eq-BARE-clause-target g c = λ did. c.read_bare_cell.ensures.target did c.args.start

pub returns-then-code-eq-PARSED-clause-target : goal.returns-then-code-eq-PARSED-clause-target
returns-then-code-eq-PARSED-clause-target g c = λ did. c.read_parsed_cell.ensures.target did c.args.start
