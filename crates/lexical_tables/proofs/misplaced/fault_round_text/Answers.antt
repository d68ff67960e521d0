use Rattle.std.proofs.Common.{◌≡◌, ◌∙◌, ◌+◌, ◌-◌, ◌<◌, get_or, length, true, false, Some, ap, refl, arith}
use Rattle.std.proofs.lemmas.Bool.{ne_eqb}
use Rattle.std.proofs.lemmas.Bool.Decides.{nat_tests}
use Rattle.lexical_tables.proofs.QuoteSteps.{quotes_break, quotes_close, quotes_double, quotes_end, quotes_reach, quotes_start}
use Rattle.lexical_tables.proofs.misplaced.fault_round_text.Goals as goal

pub loop-place-init : goal.loop-place-init
loop-place-init c = quotes_start c.args.text.now c.requires.quoted

pub returns-then-end-text-clause-place : goal.returns-then-end-text-clause-place
returns-then-end-text-clause-place c =
    let text = c.args.text.now in
    let end = c.next_quote-end.result in
    let next = c.next_quote-end.ensures in
    quotes_end text end true
    (quotes_reach text c.loop-place.place end c.loop-place.invariant next.from next.within next.before)
    (grind (arith, nat_tests))

pub returns-then-end-text-2-clause-place : goal.returns-then-end-text-2-clause-place
returns-then-end-text-2-clause-place c =
    let text = c.args.text.now in
    let end = c.next_quote-end.result in
    let next = c.next_quote-end.ensures in
    let low : end < length text = grind (arith, nat_tests) in
    quotes_end text (end + 1) false
    (quotes_close text end
    (quotes_reach text c.loop-place.place end c.loop-place.invariant next.from next.within next.before)
    low (next.found low))
    (grind (arith, nat_tests))

pub returns-then-text-end-ne34-clause-place : goal.returns-then-text-end-ne34-clause-place
returns-then-text-end-ne34-clause-place c =
    let text = c.args.text.now in
    let end = c.next_quote-end.result in
    let next = c.next_quote-end.ensures in
    let low : end < length text = grind (arith, nat_tests) in
    let back : end ≡ end + 1 - 1 = omega arith in
    ap Some back
    ∙ quotes_break text (end + 1) false
    (quotes_close text end
    (quotes_reach text c.loop-place.place end c.loop-place.invariant next.from next.within next.before)
    low (next.found low))
    (grind (arith, nat_tests)) refl
    (ne_eqb (get_or text (end + 1) 0) 34 c.if-text-end-ne34.true)

pub loop-place-preserved : goal.loop-place-preserved
loop-place-preserved c =
    let text = c.args.text.now in
    let end = c.next_quote-end.result in
    let next = c.next_quote-end.ensures in
    let low : end < length text = grind (arith, nat_tests) in
    quotes_double text end
    (quotes_close text end
    (quotes_reach text c.loop-place.place end c.loop-place.invariant next.from next.within next.before)
    low (next.found low))
    (grind (arith, nat_tests)) c.if-text-end-ne34.false

pub returns-clause-place : goal.returns-clause-place
returns-clause-place c =
    quotes_end c.args.text.now c.loop-place.place true c.loop-place.invariant (grind (arith, nat_tests))
