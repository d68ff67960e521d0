use Rattle.std.proofs.Common.{◌∙◌, ap, sym}
use Rattle.std.specs.Prelude.{is_none, option_map}
use Rattle.lexical_tables.specs.ByColumn.{wrong_cell}
use Rattle.lexical_tables.specs.Cells.{view_of_cell}
use Rattle.lexical_tables.proofs.CodedCells.{IsCellPut, content_put}
use Rattle.lexical_tables.proofs.number_cells.read_number.Goals.{Then-put_digits}
use Rattle.lexical_tables.proofs.number_cells.read_number.Given.{Over}
use Rattle.lexical_tables.proofs.number_cells.read_number.Goals as goal

-- its digits are put
digits : (g : Over) (c : Then-put_digits g) → IsCellPut c.args.dialect.now c.args.row (view_of_cell c.args.cell)
    (g.C.TableColumn.target c.args.target.now) (g.C.TableColumn.target c.put_digits.new.target)
digits g c = content_put c.args.dialect.now c.args.code c.args.row (view_of_cell c.args.cell) _
    (g.C.TableColumn.target c.args.target.now) (g.C.TableColumn.target c.put_digits.new.target)
    c.requires.code c.requires.read c.requires.usable c.requires.quotes
    (ap (λ h. h.text) c.content-held.ensures.content) (c.put_digits.ensures.put c.if-put_digits.true)

pub returns-then-put_digits-clause-right : goal.returns-then-put_digits-clause-right
returns-then-put_digits-clause-right g c = sym (ap is_none (digits g c).fault)

pub returns-then-put_digits-clause-fault : goal.returns-then-put_digits-clause-fault
returns-then-put_digits-clause-fault g c =
    c.requires.fine ∙ sym (ap (option_map (wrong_cell c.args.row c.args.column)) (digits g c).fault)

pub returns-then-put_digits-clause-target : goal.returns-then-put_digits-clause-target
returns-then-put_digits-clause-target g c = (digits g c).target
