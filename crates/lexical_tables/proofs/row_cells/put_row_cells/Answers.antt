use Rattle.std.proofs.Common.{◌^◌, arith, rules}
use Rattle.lexical_tables.specs.Rows.{view_of_row}
use Rattle.lexical_tables.proofs.RowCells.{few, put_goes, put_starts}
use Rattle.lexical_tables.proofs.row_cells.put_row_cells.Goals as goal

pub loop-ended-init : goal.loop-ended-init
loop-ended-init c =
    put_starts c.args.dialect.now (view_of_row c.args.row.now) c.args.first c.args.cells.now c.lacks_cell-ended.result
    c.lacks_cell-ended.ensures.lacks

pub overflow_add-column : goal.overflow_add-column
overflow_add-column c =
    let cell = c.any_cell-cell.result in
    let low = few c.args.dialect.now (view_of_row c.args.row.now) c.args.first c.args.cells.now c.requires.start
    c.loop-ended.cells c.loop-ended.column c.loop-ended.ended c.loop-ended.rest.now c.loop-ended.invariant (search rules)
    cell.text.now cell.behind.now cell.ended c.any_cell-cell.ensures.left c.any_cell-cell.ensures.cells
    (2 ^ 64) c.lacks_cell-ended.ensures.fits in
    omega (arith, low)

pub loop-ended-preserved : goal.loop-ended-preserved
loop-ended-preserved c =
    let cell = c.any_cell-cell.result in
    put_goes c.args.dialect.now (view_of_row c.args.row.now) c.args.first c.args.cells.now c.requires.start
    c.loop-ended.cells c.loop-ended.column c.loop-ended.ended c.loop-ended.rest.now c.loop-ended.invariant (search rules)
    cell.text.now cell.behind.now cell.ended c.any_cell-cell.ensures.left c.any_cell-cell.ensures.cells
    c.any_cell-cell.ensures.ended c.put_place.new.cells c.put_place.ensures
