use Rattle.std.proofs.Common.{◌≡◌, ◌-◌, None, Some, length, take, drop, refl, arith, rules}
use Rattle.std.proofs.lemmas.Grind.{common_steps}
use Rattle.std.proofs.lemmas.Result.{on_err_weaker, on_ok_weaker}
use Rattle.answer_lines.specs.Command.{command_in, reset}
use Rattle.answer_lines.proofs.CommandLines.{answer_of_line, change_in_line, complete_in_line, complete_sets_nothing, effect_of_line, front_answer, partial_in_line, partial_sets_nothing, sends_answer, tokens_in_line}
use Rattle.answer_lines.proofs.Sending.{front_then, front_wider, gathers_added, gathers_then, on_err, on_ok}
use Rattle.answer_lines.proofs.answer.answer.Goals as goal

pub returns-in_err-make_room-clause-front : goal.returns-in_err-make_room-clause-front
returns-in_err-make_room-clause-front g c = on_err _ (front_wider _ _ _ _ c.in_err-make_room.ensures.front)

pub returns-in-99-clause-ok : goal.returns-in-99-clause-ok
returns-in-99-clause-ok g c =
    let e = complete_in_line c.args.line.now c.in-99.len_at_least (search rules) (search rules) in
    gathers_added _ _ _ _ _ _ c.in_ok-make_room.ensures.ok (answer_of_line _ c.args.line.now _ _ _ e c.answer_complete.ensures)

pub returns-in-99-clause-settings : goal.returns-in-99-clause-settings
returns-in-99-clause-settings g c =
    let e = complete_in_line c.args.line.now c.in-99.len_at_least (search rules) (search rules) in
    effect_of_line _ _ c.args.line.now _ e (complete_sets_nothing _ (take (length c.args.line.now - 2) (drop 2 c.args.line.now)))

pub returns-in-112-clause-ok : goal.returns-in-112-clause-ok
returns-in-112-clause-ok g c =
    let e = partial_in_line c.args.line.now c.in-112.len_at_least (search rules) (search rules) in
    gathers_added _ _ _ _ _ _ c.in_ok-make_room.ensures.ok (answer_of_line _ c.args.line.now _ _ _ e c.answer_partial.ensures)

pub returns-in-112-clause-settings : goal.returns-in-112-clause-settings
returns-in-112-clause-settings g c =
    let e = partial_in_line c.args.line.now c.in-112.len_at_least (search rules) (search rules) in
    effect_of_line _ _ c.args.line.now _ e (partial_sets_nothing _ (take (length c.args.line.now - 2) (drop 2 c.args.line.now)))

pub returns-in-116-clause-ok : goal.returns-in-116-clause-ok
returns-in-116-clause-ok g c =
    let e = tokens_in_line c.args.line.now c.in-116.len_at_least (search rules) (search rules) in
    on_ok_weaker _ (λ sent. gathers_then _ _ _ _ _ _ _ c.in_ok-make_room.ensures.ok (sends_answer _ _ _ c.args.line.now _ _ _ e sent)) c.answer_tokens.ensures.ok

pub returns-in-116-clause-front : goal.returns-in-116-clause-front
returns-in-116-clause-front g c =
    let e = tokens_in_line c.args.line.now c.in-116.len_at_least (search rules) (search rules) in
    on_err_weaker _ (λ front. front_then _ _ _ _ _ _ c.in_ok-make_room.ensures.ok (front_answer _ _ _ c.args.line.now _ _ e front)) c.answer_tokens.ensures.front

pub returns-in-116-clause-settings : goal.returns-in-116-clause-settings
returns-in-116-clause-settings g c =
    let e = tokens_in_line c.args.line.now c.in-116.len_at_least (search rules) (search rules) in
    on_ok _ (effect_of_line _ _ c.args.line.now _ e refl)

pub returns-in-102-clause-ok : goal.returns-in-102-clause-ok
returns-in-102-clause-ok g c =
    let e = change_in_line c.args.line.now c.in-102.len_at_least (search rules) (search rules) in
    gathers_added _ _ _ _ _ _ c.in_ok-make_room.ensures.ok (answer_of_line _ c.args.line.now _ _ _ e c.answer_change.ensures.answer)

pub returns-in-102-clause-settings : goal.returns-in-102-clause-settings
returns-in-102-clause-settings g c =
    let e = change_in_line c.args.line.now c.in-102.len_at_least (search rules) (search rules) in
    effect_of_line _ _ c.args.line.now _ e c.answer_change.ensures.settings

pub returns-in-r-clause-ok : goal.returns-in-r-clause-ok
returns-in-r-clause-ok g c =
    let e : Some reset ≡ command_in c.args.line.now = grind (arith, common_steps) in
    gathers_added _ _ _ _ _ _ c.in_ok-make_room.ensures.ok (answer_of_line _ c.args.line.now _ _ _ e c.add_text_line.ensures)

pub returns-in-r-clause-settings : goal.returns-in-r-clause-settings
returns-in-r-clause-settings g c =
    let e : Some reset ≡ command_in c.args.line.now = grind (arith, common_steps) in
    effect_of_line _ _ c.args.line.now _ e c.standard.ensures

pub returns-in_default-clause-ok : goal.returns-in_default-clause-ok
returns-in_default-clause-ok g c =
    let e : None ≡ command_in c.args.line.now = grind (arith, common_steps) in
    gathers_added _ _ _ _ _ _ c.in_ok-make_room.ensures.ok (answer_of_line _ c.args.line.now _ _ _ e c.add_text_line-in_default.ensures)

pub returns-in_default-clause-settings : goal.returns-in_default-clause-settings
returns-in_default-clause-settings g c =
    let e : None ≡ command_in c.args.line.now = grind (arith, common_steps) in
    effect_of_line _ _ c.args.line.now _ e refl
