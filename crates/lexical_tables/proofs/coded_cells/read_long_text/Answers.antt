use Rattle.std.proofs.Common.{◌+◌, ◌<◌, ◌∙◌, length, ap, arith, sym, take}
use Rattle.std.proofs.lemmas.Bool.Decides.{nat_tests}
use Rattle.lexical_fields.specs.Fields.{FieldView}
use Rattle.lexical_tables.specs.ByColumn.{fault_in}
use Rattle.lexical_tables.proofs.CellSteps.{answer_told, known_told, same_told, targets_told, usable_at}
use Rattle.lexical_tables.proofs.coded_cells.read_long_text.Goals as goal

pub read_text-requires-clause-text : goal.read_text-requires-clause-text
read_text-requires-clause-text g c =
    let low : c.args.column < length c.args.targets.now = grind (arith, nat_tests) in
    let cell : FieldView = record { start = c.args.start; text = take c.args.size c.args.ahead.now } in
    let is = known_told g.C.TableColumn.target c.args.dialect.now c.args.targets.now c.args.column cell low _
    c.args.code (c.requires.code low) in
    is.column.texts (grind (arith, nat_tests))

pub read_text-requires-clause-usable : goal.read_text-requires-clause-usable
read_text-requires-clause-usable g c =
    let low : c.args.column < length c.args.targets.now = grind (arith, nat_tests) in
    let cell : FieldView = record { start = c.args.start; text = take c.args.size c.args.ahead.now } in
    usable_at g.C.TableColumn.target c.args.dialect.now c.args.targets.now c.args.column cell low _
    (c.args.row + 1) c.requires.usable

pub returns-clause-fault : goal.returns-clause-fault
returns-clause-fault g c = λ did.
    let low : c.args.column < length c.args.targets.now = grind (arith, nat_tests) in
    let cell : FieldView = record { start = c.args.start; text = take c.args.size c.args.ahead.now } in
    ap fault_in (sym (answer_told g.C.TableColumn.target c.args.dialect.now c.args.targets.now c.args.column
    cell low _)) ∙ c.read_text.ensures.right did

pub returns-clause-targets : goal.returns-clause-targets
returns-clause-targets g c = λ did.
    let low : c.args.column < length c.args.targets.now = grind (arith, nat_tests) in
    let cell : FieldView = record { start = c.args.start; text = take c.args.size c.args.ahead.now } in
    targets_told g.C.TableColumn.target c.args.dialect.now c.args.targets.now c.args.column
    cell low _ c.args.row c.read_text.new.target c.read_text.ensures.target

pub returns-clause-kept : goal.returns-clause-kept
returns-clause-kept g c = λ not_read.
    let low : c.args.column < length c.args.targets.now = grind (arith, nat_tests) in
    let cell : FieldView = record { start = c.args.start; text = take c.args.size c.args.ahead.now } in
    same_told g.C.TableColumn.target c.args.dialect.now c.args.targets.now c.args.column cell low _
    c.read_text.new.target (c.read_text.ensures.kept not_read)
