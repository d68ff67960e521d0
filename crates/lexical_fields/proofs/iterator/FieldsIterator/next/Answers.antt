use Rattle.std.proofs.Common.{◌≡◌, ◌+◌, ◌-◌, ◌<◌, ◌∷◌, length, ap, sym, ◌∙◌, rules, arith}
use Rattle.std.proofs.lemmas.Bool.Decides.{nat_tests}
use Rattle.lexical_parse_integer.specs.Answer.{view_of}
use Rattle.lexical_fields.specs.ReadFields.{field_answer, read_from}
use Rattle.lexical_fields.proofs.FieldAnswers.{refused}
use Rattle.lexical_fields.proofs.FieldSteps.{next_read}
use Rattle.lexical_fields.proofs.iterator.FieldsIterator.next.Goals.{in-Some, in-None}
use Rattle.lexical_fields.proofs.iterator.FieldsIterator.next.Goals as goal

pub returns-clause-steps : goal.returns-clause-steps
returns-clause-steps g c =
    let f = c.self.inside in
    let type = g.T.Integer.TYPE in
    let field = c.split_field.result.0.now in
    let behind = c.split_field.result.1.now in
    let place = f.place + (length f.rest.now - length behind) in
    let some : 0 < length f.rest.now = grind (arith, nat_tests) in
    let next = next_read f.format.now type f.separator f.place f.rest.now field behind some
    c.split_field.ensures.field c.split_field.ensures.behind in
    let told : view_of g.T.Integer.number c.match-self.answer
    ≡ field_answer f.format.now type (record { start = f.place; text = field }) =
    elim c.match-self.branch [
      | in-Some w ↦ ap (view_of g.T.Integer.number) w.answer-is
          ∙ refused f.format.now type f.place field w.in-Some.error
          (sym w.in-Some.is ∙ c.self.invariant.1)
      | in-None w ↦ ap (view_of g.T.Integer.number) w.answer-is ∙ w.field_answer-answer.ensures
    ] in
    sym c.self.view_is ∙ next ∙ ap (λ a. record { start = f.place; text = field; answer = a }
    ∷ read_from f.format.now type f.separator place behind) (sym told)

pub returns-clause-goes : goal.returns-clause-goes
returns-clause-goes g c = let shorter = ap length (returns-clause-steps g c) in search rules
