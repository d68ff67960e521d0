use Rattle.lexical_tables.proofs.skipped.RowPlaces.{row_behind}
use Rattle.lexical_tables.proofs.places.behind_row.Goals as goal

pub returns : goal.returns
returns c =
    let empty = c.without_empty_rows.ensures in
    let there = row_behind c.args.dialect.now c.args.text.now c.first_row.result.1.now c.without_empty_rows.result.now
    c.requires.some c.requires.first c.first_row.ensures.behind c.first_row.ensures.shorter
    (record { within = empty.within; tail = empty.tail; rows_are = empty.rows }) empty.first in
    record { shorter = there.shorter; tail = there.tail; rows = there.rows_are; first = there.first_counts }
