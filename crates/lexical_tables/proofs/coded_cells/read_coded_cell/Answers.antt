use Rattle.std.proofs.Common.{◌+◌, ◌<◌, ◌∙◌, [], length, ap, arith, sym, take}
use Rattle.std.proofs.lemmas.Bool.Decides.{nat_tests}
use Rattle.lexical_tables.specs.ByColumn.{fault_in}
use Rattle.lexical_tables.proofs.CellSteps.{answer_told, code_told, same_told, targets_told, usable_at}
use Rattle.lexical_tables.proofs.coded_cells.read_coded_cell.Goals as goal

pub read_coded-requires-clause-code : goal.read_coded-requires-clause-code
read_coded-requires-clause-code g c =
    let low : c.args.column < length c.args.targets.now = grind (arith, nat_tests) in
    code_told g.C.TableColumn.target c.args.dialect.now c.args.targets.now c.args.column (record { start = 0; text = [] }) low _
    c.args.codes.now (grind (arith, nat_tests)) c.requires.codes

pub read_coded-requires-clause-usable : goal.read_coded-requires-clause-usable
read_coded-requires-clause-usable g c =
    let low : c.args.column < length c.args.targets.now = grind (arith, nat_tests) in
    usable_at g.C.TableColumn.target c.args.dialect.now c.args.targets.now c.args.column (record { start = 0; text = [] }) low _
    (c.args.row + 1) c.requires.usable

pub read_coded-requires-clause-standard : goal.read_coded-requires-clause-standard
read_coded-requires-clause-standard g c = λ all.
    c.requires.standard all c.args.column (grind (arith, nat_tests)) (omega arith)

pub returns-clause-fault : goal.returns-clause-fault
returns-clause-fault g c = λ did.
    let start = c.args.start in
    let low : c.args.column < length c.args.targets.now = grind (arith, nat_tests) in
    ap fault_in (sym (answer_told g.C.TableColumn.target c.args.dialect.now c.args.targets.now c.args.column
    (record { start = start; text = take c.args.size c.args.ahead.now }) low _)) ∙ c.read_coded.ensures.fault did

pub returns-clause-targets : goal.returns-clause-targets
returns-clause-targets g c = λ did.
    let start = c.args.start in
    let low : c.args.column < length c.args.targets.now = grind (arith, nat_tests) in
    targets_told g.C.TableColumn.target c.args.dialect.now c.args.targets.now c.args.column
    (record { start = start; text = take c.args.size c.args.ahead.now }) low _ c.args.row c.read_coded.new.target (c.read_coded.ensures.target did)

pub returns-clause-kept : goal.returns-clause-kept
returns-clause-kept g c = λ not_read.
    let low : c.args.column < length c.args.targets.now = grind (arith, nat_tests) in
    same_told g.C.TableColumn.target c.args.dialect.now c.args.targets.now c.args.column (record { start = 0; text = [] }) low _
    c.read_coded.new.target (c.read_coded.ensures.kept not_read)
