use Rattle.std.proofs.Common.{arith, ◌≡◌, ◌<◌, ◌∙◌, ◌++◌, ap, length}
use Rattle.std.proofs.lemmas.Bool.Decides.{nat_tests}
use Rattle.std.proofs.lemmas.Result.{on_ok_weaker}
use Rattle.answer_lines.specs.Lines.{lines}
use Rattle.answer_lines.specs.Output.{answers_to}
use Rattle.answer_lines.proofs.LineSteps.{Front-line, Sends-end, Sends-next, Sends-last}
use Rattle.answer_lines.proofs.Sending.{front_more, sends_held, sends_sent}
use Rattle.answer_lines.proofs.program.run.Goals as goal

pub loop-rest-init : goal.loop-rest-init
loop-rest-init g c =
    let texts = lines c.args.input.now in
    sends_held _ _ _ (ap (λ batch. batch ++ answers_to c.standard-settings.result texts)
    c.new-batch.ensures ∙ ap (λ settings. answers_to settings texts) c.standard-settings.ensures)

pub loop-rest-preserved : goal.loop-rest-preserved
loop-rest-preserved g c =
    let r = c.line_end-end.ensures in
    let a = c.in_ok-answer.ensures in
    Sends-next _ _ _ c.loop-rest.settings c.answer.new.settings c.loop-rest.rest.now _
    c.loop-rest.batch _ c.line_end-end.result
    (omega arith) r.within r.before r.found c.loop-rest.invariant a.ok a.settings

pub overflow_add-rest : goal.overflow_add-rest
overflow_add-rest g c = record { fits = omega arith }

pub returns-in_err-answer-clause-front : goal.returns-in_err-answer-clause-front
returns-in_err-answer-clause-front g c =
    let r = c.line_end-end.ensures in
    let some : 0 < length c.loop-rest.rest.now = grind (arith, nat_tests) in
    Front-line _ _ _ c.loop-rest.settings c.loop-rest.rest.now _ c.loop-rest.batch c.line_end-end.result
    some r.within r.before r.found c.loop-rest.invariant c.in_err-answer.ensures.front

pub returns-then-end-rest-clause-ok : goal.returns-then-end-rest-clause-ok
returns-then-end-rest-clause-ok g c =
    let r = c.line_end-end.ensures in
    let a = c.in_ok-answer.ensures in
    let some : 0 < length c.loop-rest.rest.now = grind (arith, nat_tests) in
    on_ok_weaker _
    (sends_sent _ _ _ _ _
    (Sends-last _ _ _ c.loop-rest.settings c.answer.new.settings c.loop-rest.rest.now _
    c.loop-rest.batch _ c.line_end-end.result
    some c.if-end-rest.true r.before c.loop-rest.invariant a.ok a.settings))
    c.send.ensures.ok

pub returns-then-end-rest-clause-front : goal.returns-then-end-rest-clause-front
returns-then-end-rest-clause-front g c =
    let r = c.line_end-end.ensures in
    let a = c.in_ok-answer.ensures in
    let some : 0 < length c.loop-rest.rest.now = grind (arith, nat_tests) in
    front_more _ _ _ _ _
    (Sends-last _ _ _ c.loop-rest.settings c.answer.new.settings c.loop-rest.rest.now _
    c.loop-rest.batch _ c.line_end-end.result
    some c.if-end-rest.true r.before c.loop-rest.invariant a.ok a.settings)
    c.send.ensures.front

pub returns-clause-ok : goal.returns-clause-ok
returns-clause-ok g c =
    let none : length c.loop-rest.rest.now ≡ 0 = grind (arith, nat_tests) in
    on_ok_weaker _ (sends_sent _ _ _ _ _
    (Sends-end _ _ c.loop-rest.settings c.loop-rest.rest.now _ _ none c.loop-rest.invariant))
    c.send-2.ensures.ok

pub returns-clause-front : goal.returns-clause-front
returns-clause-front g c =
    let none : length c.loop-rest.rest.now ≡ 0 = grind (arith, nat_tests) in
    front_more _ _ _ _ _ (Sends-end _ _ c.loop-rest.settings c.loop-rest.rest.now _ _ none
    c.loop-rest.invariant) c.send-2.ensures.front
