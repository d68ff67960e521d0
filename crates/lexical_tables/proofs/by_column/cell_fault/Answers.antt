use Rattle.lexical_tables.specs.Cells.{view_of_cell}
use Rattle.lexical_tables.proofs.Unquoted.{unquoted_fault}
use Rattle.lexical_tables.proofs.by_column.cell_fault.Goals as goal

pub returns-then-has_no_quote : goal.returns-then-has_no_quote
returns-then-has_no_quote c =
    unquoted_fault c.args.dialect.now.has_quotes c.args.is_number (view_of_cell c.args.cell)
    (c.requires.no_quote c.if-has_no_quote.true)
