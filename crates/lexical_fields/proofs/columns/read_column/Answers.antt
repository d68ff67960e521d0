use Rattle.std.proofs.Common.{refl, ◌<◌, ◌-◌, length, sym, ap, ◌∙◌, arith, rules}
use Rattle.std.specs.Prelude.{IsNone, None}
use Rattle.std.proofs.lemmas.Bool.Decides.{nat_tests}
use Rattle.lexical_util.specs.Validity.{fault}
use Rattle.lexical_parse_integer.specs.Answer.{view_of}
use Rattle.lexical_fields.specs.Columns.{outcome_at}
use Rattle.lexical_fields.proofs.ColumnSteps.{IsRead, read_all, read_fault, read_full, read_invalid, reading_goes, reading_starts}
use Rattle.lexical_fields.proofs.FieldAnswers.{valid_of}
use Rattle.lexical_fields.proofs.columns.read_column.Goals.{then-loop-count-test+else-not-is_empty, else-loop-count-test}
use Rattle.lexical_fields.proofs.columns.read_column.Goals as goal

pub returns-in-Some : goal.returns-in-Some
returns-in-Some g c =
    let r = read_invalid _ g.T.Integer.number c.args.format.now g.T.Integer.TYPE c.args.separator
    c.args.text.now c.args.values.now c.in-Some.error c.in-Some.ensures in
    record { answer = r.answer_is; numbers = r.numbers_are; rest = r.rest_is; size = r.size_is; goes_on = tt }

pub loop-count-init : goal.loop-count-init
loop-count-init g c = record {
  reading = reading_starts _ g.T.Integer.number c.args.format.now g.T.Integer.TYPE c.args.separator c.args.text.now
      c.args.values.now;
  room = omega arith;
}

pub overflow_sub-start : goal.overflow_sub-start
overflow_sub-start g c = c.loop-count.invariant.reading.within

pub read_first-answer-requires-clause-fits : goal.read_first-answer-requires-clause-fits
read_first-answer-requires-clause-fits g c = omega (arith, c.loop-count.invariant.reading.within)

pub returns-in-Err : goal.returns-in-Err
returns-in-Err g c =
    let none : IsNone (fault c.args.format.now) = search rules in
    let some : 0 < length c.loop-count.rest.now = grind (arith, nat_tests) in
    let room : c.loop-count.count < length c.args.values.now = omega arith in
    let r = read_fault _ g.T.Integer.number c.args.format.now g.T.Integer.TYPE c.args.separator
    c.args.text.now c.args.values.now c.loop-count.values c.loop-count.count c.loop-count.rest.now
    c.loop-count.invariant.reading _ c.read_first-answer.result.1.now c.in-Err.error (valid_of _ none)
    room some refl c.read_first-answer.ensures.behind c.read_first-answer.ensures.shorter
    (ap (view_of g.T.Integer.number) (sym c.in-Err.is) ∙ c.read_first-answer.ensures.answer) in
    record { answer = r.answer_is; numbers = r.numbers_are; rest = r.rest_is; size = r.size_is; goes_on = tt }

pub loop-count-preserved : goal.loop-count-preserved
loop-count-preserved g c =
    let some : 0 < length c.loop-count.rest.now = grind (arith, nat_tests) in
    let room : c.loop-count.count < length c.args.values.now = omega arith in
    let more = reading_goes _ g.T.Integer.number c.args.format.now g.T.Integer.TYPE c.args.separator
    c.args.text.now c.args.values.now c.loop-count.values c.loop-count.count c.loop-count.rest.now
    c.loop-count.invariant.reading
    _ c.read_first-answer.result.1.now c.in-Ok.value room some refl
    c.read_first-answer.ensures.behind c.read_first-answer.ensures.shorter
    (ap (view_of g.T.Integer.number) (sym c.in-Ok.is) ∙ c.read_first-answer.ensures.answer) in
    record { reading = more; room = omega arith }

pub loop-count-preserved-then-has_marks : goal.loop-count-preserved-then-has_marks
loop-count-preserved-then-has_marks g c =
    let some : 0 < length c.loop-count.rest.now = grind (arith, nat_tests) in
    let room : c.loop-count.count < length c.args.values.now = omega arith in
    let more = reading_goes _ g.T.Integer.number c.args.format.now g.T.Integer.TYPE c.args.separator
    c.args.text.now c.args.values.now c.loop-count.values c.loop-count.count c.loop-count.rest.now
    c.loop-count.invariant.reading
    _ c.read_first-answer.result.1.now c.in-Ok.value room some refl
    c.read_first-answer.ensures.behind c.read_first-answer.ensures.shorter
    (ap (view_of g.T.Integer.number) (sym c.in-Ok.is) ∙ c.read_first-answer.ensures.answer) in
    let all = c.read_marked.ensures.reading c.args.text.now c.args.values.now more in
    record { reading = all; room = omega (arith, c.read_marked.ensures.room, all.size) }

pub overflow_sub-result : goal.overflow_sub-result
overflow_sub-result g c = c.loop-count.invariant.reading.within

pub returns : goal.returns
returns g c =
    let none : IsNone (fault c.args.format.now) = search rules in
    let ends : IsRead _ g.T.Integer.number c.args.format.now g.T.Integer.TYPE c.args.separator c.args.text.now
    c.args.values.now c.loop-count.values
    (outcome_at c.loop-count.count (length c.args.text.now - length c.loop-count.rest.now) None) =
    elim c.loop-count-test.branch [
      | then-loop-count-test+else-not-is_empty w ↦ read_all _ g.T.Integer.number c.args.format.now
          g.T.Integer.TYPE c.args.separator
          c.args.text.now c.args.values.now c.loop-count.values c.loop-count.count c.loop-count.rest.now
          c.loop-count.invariant.reading (valid_of _ none) c.loop-count.invariant.room (grind (arith, nat_tests))
      | else-loop-count-test w ↦ read_full _ g.T.Integer.number c.args.format.now g.T.Integer.TYPE
          c.args.separator
          c.args.text.now c.args.values.now c.loop-count.values c.loop-count.count c.loop-count.rest.now
          c.loop-count.invariant.reading (valid_of _ none) (omega (arith, c.loop-count.invariant.room))
    ] in
    record {
      answer = ends.answer_is;
      numbers = ends.numbers_are;
      rest = ends.rest_is;
      size = ends.size_is;
      goes_on = ends.goes_on;
    }
