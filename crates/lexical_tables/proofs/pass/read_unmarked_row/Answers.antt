use Rattle.std.proofs.Common.{map, refl}
use Rattle.lexical_tables.specs.ByColumn.{kinds_of}
use Rattle.lexical_tables.specs.Rows.{first_row}
use Rattle.lexical_tables.proofs.CellsLeft.{cells_begin}
use Rattle.lexical_tables.proofs.ColumnSteps.{row_starts}
use Rattle.lexical_tables.proofs.pass.read_unmarked_row.Goals as goal

pub returns-clause-fault : goal.returns-clause-fault
returns-clause-fault g c =
    let d = c.args.dialect.now in
    let row = first_row d c.args.start c.args.text.now in
    let old = map g.C.TableColumn.target c.args.targets.now in
    (c.read_rest.ensures.done (kinds_of old) old (row_starts (kinds_of old) d c.args.index row old _ refl c.requires.usable
    (cells_begin d row))).fault_is

pub returns-clause-targets : goal.returns-clause-targets
returns-clause-targets g c =
    let d = c.args.dialect.now in
    let row = first_row d c.args.start c.args.text.now in
    let old = map g.C.TableColumn.target c.args.targets.now in
    (c.read_rest.ensures.done (kinds_of old) old (row_starts (kinds_of old) d c.args.index row old _ refl c.requires.usable
    (cells_begin d row))).targets_are

pub returns-then-this-ne0-clause-fault : goal.returns-then-this-ne0-clause-fault
returns-then-this-ne0-clause-fault g c =
    let d = c.args.dialect.now in
    let row = first_row d c.args.start c.args.text.now in
    let old = map g.C.TableColumn.target c.args.targets.now in
    (c.read_wide_row.ensures.done (kinds_of old) old (row_starts (kinds_of old) d c.args.index row old _ refl c.requires.usable
    (cells_begin d row))).fault_is

pub returns-then-this-ne0-clause-targets : goal.returns-then-this-ne0-clause-targets
returns-then-this-ne0-clause-targets g c =
    let d = c.args.dialect.now in
    let row = first_row d c.args.start c.args.text.now in
    let old = map g.C.TableColumn.target c.args.targets.now in
    (c.read_wide_row.ensures.done (kinds_of old) old (row_starts (kinds_of old) d c.args.index row old _ refl c.requires.usable
    (cells_begin d row))).targets_are
