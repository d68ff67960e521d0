use Rattle.std.proofs.Common.{◌≡◌, arith, ap, refl, sym, ◌∙◌, Err}
use Rattle.std.specs.Prelude.{is_some, slice_range, length}
use Rattle.lexical_util.specs.declared.error.Error.{Error}
use Rattle.lexical_digits.proofs.LongNumbers.{sign_of_value}
use Rattle.lexical_parse_integer.proofs.punctuated.PunctuatedAnswers.{signed_minus}
use Rattle.lexical_parse_integer.proofs.plain.DigitFaults.{all_digits, byte_behind, fewer_keep, nonzero_from}
use Rattle.lexical_parse_integer.proofs.plain.LeavingNumbers.{leaves_after, next_value, signed_leaving_read}
use Rattle.lexical_parse_integer.proofs.theorems.CompleteByPartial.{sign_within}
use Rattle.lexical_parse_integer.proofs.algorithm.plain.faults.answer_after_digits.Goals as goal

pub slice_bounds-digits-count : goal.slice_bounds-digits-count
slice_bounds-digits-count g c = sign_within c.args.format.now g.T.Integer.TYPE c.args.bytes.now (c.args.is_negative, c.args.start) c.requires.sign

pub slice_bounds-digits-start : goal.slice_bounds-digits-start
slice_bounds-digits-start g c = sign_within c.args.format.now g.T.Integer.TYPE c.args.bytes.now (c.args.is_negative, c.args.start) c.requires.sign

pub value_of_digits-requires-clause-minus : goal.value_of_digits-requires-clause-minus
value_of_digits-requires-clause-minus g c = signed_minus c.args.format.now g.T.Integer.TYPE c.args.bytes.now (c.args.is_negative, c.args.start) c.requires.sign

pub join_checked-requires-clause-sign : goal.join_checked-requires-clause-sign
join_checked-requires-clause-sign g c = sign_of_value _ 10 c.args.is_negative _ _ c.loop-count.invariant.writes

pub returns-in_default : goal.returns-in_default
returns-in_default g c =
    sym (byte_behind c.args.format.now g.T.Integer.TYPE c.args.bytes.now (c.args.is_negative, c.args.start) _ c.requires.plain c.requires.decimal c.requires.sign _ c.loop-count.invariant.some c.loop-count-test.true
    (ap is_some (sym c.char_to_digit.ensures ∙ c.in_default.is))
    (fewer_keep c.args.format.now _ _ c.loop-count.invariant.some (omega (arith, c.loop-count-test.true)) (nonzero_from c.args.format.now c.args.bytes.now c.args.start c.requires.zeros)) c.loop-count.invariant.writes)

pub returns-in-Err : goal.returns-in-Err
returns-in-Err g c =
    let leaves = leaves_after _ c.args.is_negative c.loop-count.count c.in-Some.digit (slice_range c.args.bytes.now c.args.start (length c.args.bytes.now)) _ c.loop-count.invariant.writes c.loop-count-test.true (sym c.in-Some.ensures) c.in-Err.ensures.leaves.1 in
    sym (signed_leaving_read c.args.format.now g.T.Integer.TYPE c.args.bytes.now (c.args.is_negative, c.args.start) _ _ c.requires.plain c.requires.decimal c.requires.sign refl c.loop-count.invariant.some (nonzero_from c.args.format.now c.args.bytes.now c.args.start c.requires.zeros) leaves ∙ ap (λ (e : Error). Err e) (sym c.in-Err.ensures.leaves.0))

pub returns : goal.returns
returns g c =
    let all : c.loop-count.count ≡ length (slice_range c.args.bytes.now c.args.start (length c.args.bytes.now)) = omega (arith, c.loop-count-test.false, c.loop-count.invariant.within) in
    sym (all_digits c.args.format.now g.T.Integer.TYPE c.args.bytes.now (c.args.is_negative, c.args.start) _ c.requires.plain c.requires.decimal c.requires.sign _ c.loop-count.invariant.some all
    (fewer_keep c.args.format.now _ _ c.loop-count.invariant.some (omega arith) (nonzero_from c.args.format.now c.args.bytes.now c.args.start c.requires.zeros)) c.loop-count.invariant.writes)

pub loop-count-preserved : goal.loop-count-preserved
loop-count-preserved g c = record {
  some = omega arith;
  within = omega (arith, c.loop-count-test.true);
  writes = next_value _ c.args.is_negative c.loop-count.count c.in-Some.digit (slice_range c.args.bytes.now c.args.start (length c.args.bytes.now)) _ _ c.loop-count.invariant.writes c.loop-count-test.true (sym c.in-Some.ensures) c.in-Ok.ensures.fits.0 c.in-Ok.ensures.fits.1;
}
