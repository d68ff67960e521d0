use Rattle.std.proofs.Common.{arith}
use Rattle.lexical_tables.proofs.Passed.{none_found, passes_more, passes_to}
use Rattle.lexical_tables.proofs.quotes.length_by_16.Goals as goal

pub returns-then-look-ne0-clause-value : goal.returns-then-look-ne0-clause-value
returns-then-look-ne0-clause-value c =
    let look = c.look_at_16-look in
    (passes_to c.args.separator c.args.text.now c.loop-place.place c.loop-place.is_within c.loop-place.invariant 16
    look.result.found c.lowest_mark.result (omega (arith, c.loop-place.invariant.low)) look.ensures.here look.ensures.beyond
    c.lowest_mark.ensures.set c.lowest_mark.ensures.below).0

pub loop-place-preserved : goal.loop-place-preserved
loop-place-preserved c =
    let look = c.look_at_16-look in
    passes_more c.args.separator c.args.text.now c.loop-place.place c.loop-place.is_within c.loop-place.invariant 16
    look.result.found (omega (arith, c.loop-place.invariant.low)) look.ensures.here
    (λ k low. none_found look.result.found c.if-look-ne0.false k) look.result.is_within look.ensures.within
