use Rattle.std.proofs.Common.{◌∙◌, ◌<◌, length, get_or, arith, sym}
use Rattle.std.proofs.lemmas.Bool.Decides.{nat_tests}
use Rattle.lexical_tables.proofs.Passed.{passes_end, passes_one, seen_here, seen_other, stepped, stopped, turned_once}
use Rattle.lexical_tables.proofs.quotes.length_by_bytes.Goals as goal

pub loop-place-preserved : goal.loop-place-preserved
loop-place-preserved c =
    let s = c.args.separator in
    let text = c.args.text.now in
    let place = c.loop-place.place in
    let low : place < length text = grind (arith, nat_tests) in
    passes_one s text place c.loop-place.is_within c.loop-place.invariant low
    (seen_other s text place c.loop-place.is_within c.loop-place.invariant
    (stepped c.loop-place.is_within (get_or text place 0) s
    (sym c.is_stepped_over.ensures ∙ c.if-is_stepped_over.true)))
    _ (turned_once c.loop-place.is_within (get_or text place 0))

pub returns-else-is_stepped_over-clause-value : goal.returns-else-is_stepped_over-clause-value
returns-else-is_stepped_over-clause-value c =
    let s = c.args.separator in
    let text = c.args.text.now in
    let place = c.loop-place.place in
    let is = stopped c.loop-place.is_within (get_or text place 0) s
    (sym c.is_stepped_over.ensures ∙ c.if-is_stepped_over.false) in
    passes_end s text place c.loop-place.is_within c.loop-place.invariant
    (λ low. seen_here s text place c.loop-place.is_within c.loop-place.invariant is.0 is.1)

pub returns-after-loop-place-clause-value : goal.returns-after-loop-place-clause-value
returns-after-loop-place-clause-value c =
    passes_end c.args.separator c.args.text.now c.loop-place.place c.loop-place.is_within c.loop-place.invariant
    (λ low. absurd (grind (arith, nat_tests)))
