use Rattle.std.proofs.Common.{◌∙◌, ap, refl}
use Rattle.std.specs.Prelude.{option_map}
use Rattle.lexical_tables.specs.Cells.{view_of_cell}
use Rattle.lexical_tables.specs.Targets.{put_text, text_fault}
use Rattle.lexical_tables.proofs.by_column.read_held.Goals as goal

pub returns-clause-fault : goal.returns-clause-fault
returns-clause-fault g c =
    c.read_left.ensures.fault
    ∙ ap (λ target. text_fault target (view_of_cell c.args.held)) (c.if-had_at_once.ensures.kept refl)

pub returns-clause-target : goal.returns-clause-target
returns-clause-target g c =
    c.read_left.ensures.target
    ∙ ap (λ target. option_map (put_text c.args.row (view_of_cell c.args.held)) target) (c.if-had_at_once.ensures.kept refl)
