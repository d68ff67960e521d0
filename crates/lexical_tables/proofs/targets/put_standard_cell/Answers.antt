use Rattle.std.proofs.Common.{◌≡◌, ◌∙◌, None, ap, map, refl, subst, sym}
use Rattle.lexical_util.specs.Format.{standard}
use Rattle.lexical_fields.specs.ReadFields.{field_answer}
use Rattle.lexical_tables.specs.Targets.{error_in, with_number}
use Rattle.lexical_tables.proofs.targets.put_standard_cell.Goals as goal

pub returns-then-put_at_once-clause-fault : goal.returns-then-put_at_once-clause-fault
returns-then-put_at_once-clause-fault g c =
    sym (subst (λ text. error_in (field_answer standard g.T.Integer.TYPE (record { start = c.args.start; text = text })) ≡ None)
    (sym c.requires.front) (c.if-put_at_once.ensures.fault refl c.args.start))

pub returns-then-put_at_once-clause-numbers : goal.returns-then-put_at_once-clause-numbers
returns-then-put_at_once-clause-numbers g c =
    c.if-put_at_once.ensures.numbers refl c.args.start
    ∙ ap (λ text. with_number c.args.row (field_answer standard g.T.Integer.TYPE
    (record { start = c.args.start; text = text })) (map g.T.Integer.number c.args.values.now)) (sym c.requires.front)

pub returns-clause-numbers : goal.returns-clause-numbers
returns-clause-numbers g c =
    c.put_standard_parsed.ensures.numbers
    ∙ ap (λ values. with_number c.args.row (field_answer standard g.T.Integer.TYPE
    (record { start = c.args.start; text = c.args.cell.now })) (map g.T.Integer.number values))
    (c.if-put_at_once.ensures.kept refl)
