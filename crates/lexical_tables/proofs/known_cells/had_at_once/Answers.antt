use Rattle.std.proofs.Common.{◌≡◌, ◌∙◌, None, ap, subst, sym}
use Rattle.std.specs.Prelude.{option_map}
use Rattle.lexical_tables.specs.Targets.{put_text, text_fault}
use Rattle.lexical_tables.proofs.known_cells.had_at_once.Goals as goal

pub returns-clause-fault : goal.returns-clause-fault
returns-clause-fault g c = λ did.
    let target = g.C.TableColumn.target c.args.target.now in
    subst (λ text. text_fault target (record { start = c.args.held.start; text = text }) ≡ None) (sym c.requires.front)
    (c.read_at_once.ensures.fault did c.args.held.start)

pub returns-clause-target : goal.returns-clause-target
returns-clause-target g c = λ did.
    let target = g.C.TableColumn.target c.args.target.now in
    c.read_at_once.ensures.target did c.args.held.start
    ∙ ap (λ text. option_map (put_text c.args.row (record { start = c.args.held.start; text = text })) target)
    (sym c.requires.front)
