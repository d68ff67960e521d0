use Rattle.std.proofs.Common.{◌∙◌, ◌+◌, ◌<◌, refl, sym, arith}
use Rattle.lexical_fields.proofs.FieldEnds.{byte_of_16, field_is, none_more, size_of_16}
use Rattle.lexical_fields.proofs.split.field_length.Goals as goal

pub loop-start-init : goal.loop-start-init
loop-start-init c = record { within = omega arith; none = λ k low. absurd (omega arith) }

pub overflow_sub-text : goal.overflow_sub-text
overflow_sub-text c = c.loop-start.invariant.within

pub returns-in-Some-clause-before : goal.returns-in-Some-clause-before
returns-in-Some-clause-before c =
    let text = c.args.text.now in
    let start = c.loop-start.start in
    let first = c.in-Some.ensures.found in
    let size = size_of_16 text start (omega (arith, c.loop-start.invariant.within)) in
    (none_more c.args.separator text start c.in-Some.place c.loop-start.invariant
    (omega (arith, c.loop-start.invariant.within)) (omega (arith, first.within, size))
    first.before).none

pub returns-in-Some-clause-value : goal.returns-in-Some-clause-value
returns-in-Some-clause-value c =
    let text = c.args.text.now in
    let start = c.loop-start.start in
    let first = c.in-Some.ensures.found in
    let size = size_of_16 text start (omega (arith, c.loop-start.invariant.within)) in
    let low : c.in-Some.place < 16 = omega (arith, first.within, size) in
    let so_far = none_more c.args.separator text start c.in-Some.place c.loop-start.invariant
    (omega (arith, c.loop-start.invariant.within)) (omega (arith, low)) first.before in
    field_is c.args.separator text (start + c.in-Some.place) so_far.within so_far.none
    (λ lt. sym (byte_of_16 text start c.in-Some.place low) ∙ first.here)

pub loop-start-preserved : goal.loop-start-preserved
loop-start-preserved c =
    none_more c.args.separator c.args.text.now c.loop-start.start 16 c.loop-start.invariant
    (omega (arith, c.loop-start.invariant.within)) (omega arith) (c.in_default.ensures.none refl)

pub returns-clause-value : goal.returns-clause-value
returns-clause-value c =
    field_is c.args.separator c.args.text.now c.end_from.result c.end_from.ensures.within
    c.end_from.ensures.before c.end_from.ensures.found
