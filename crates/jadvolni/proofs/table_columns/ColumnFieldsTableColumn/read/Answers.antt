use Rattle.std.proofs.Common.{◌≡◌, ◌∙◌, None, ap, refl, subst, sym}
use Rattle.std.specs.Prelude.{option_map}
use Rattle.lexical_tables.specs.Targets.{put_text, text_fault}
use Rattle.jadvolni.specs.Tables.{target_of}
use Rattle.jadvolni.proofs.table_columns.ColumnFieldsTableColumn.read.Goals as goal

pub returns-then-read_at_once-clause-fault : goal.returns-then-read_at_once-clause-fault
returns-then-read_at_once-clause-fault c =
    let target = target_of c.args.self.now in
    sym (subst (λ text. text_fault target (record { start = c.args.start; text = text }) ≡ None) (sym c.requires.front)
    (c.if-read_at_once.ensures.fault refl c.args.start))

pub returns-then-read_at_once-clause-target : goal.returns-then-read_at_once-clause-target
returns-then-read_at_once-clause-target c =
    let target = target_of c.args.self.now in
    c.if-read_at_once.ensures.target refl c.args.start
    ∙ ap (λ text. option_map (put_text c.args.row (record { start = c.args.start; text = text })) target)
    (sym c.requires.front)

pub returns-clause-fault : goal.returns-clause-fault
returns-clause-fault c =
    c.read_left.ensures.fault
    ∙ ap (λ target. text_fault target (record { start = c.args.start; text = c.args.text.now }))
    (c.if-read_at_once.ensures.kept refl)

pub returns-clause-target : goal.returns-clause-target
returns-clause-target c =
    c.read_left.ensures.target
    ∙ ap (λ target. option_map (put_text c.args.row (record { start = c.args.start; text = c.args.text.now })) target)
    (c.if-read_at_once.ensures.kept refl)
