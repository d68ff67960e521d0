use Rattle.std.proofs.Common.{◌≡◌, ◌+◌, ◌-◌, ◌<◌, ap, arith, length, refl, subst, sym, ◌∙◌}
use Rattle.std.specs.Prelude.{ℤ}
use Rattle.std.proofs.lemmas.Result.{err_from_is_err_and}
use Rattle.lexical_parse_integer.proofs.grammar.NumeralEnd.{digit_at_within}
use Rattle.lexical_parse_integer.proofs.reading.DigitsRead.{reads_sign}
use Rattle.lexical_parse_integer.proofs.reading.FrontAnswers.{all_read, next_leaves, next_reads, next_sound}
use Rattle.lexical_parse_integer.proofs.reading.NumeralSteps.{digit_at_below}
use Rattle.lexical_parse_integer.proofs.reading.Soundness.{digits_bound}
use Rattle.lexical_parse_integer.proofs.reading.ZerosRead.{zeros_read}
use Rattle.lexical_parse_integer.specs.CursorView.{IsSound}
use Rattle.lexical_parse_integer.specs.Numeral.{numeral_in}
use Rattle.lexical_parse_integer.specs.Reading.{Reads, view_at}
use Rattle.lexical_parse_integer.proofs.algorithm.front.read_digits.Goals as goal

pub loop-place-init : goal.loop-place-init
loop-place-init g c =
    let e = c.behind_zeros-end.ensures in
    let low = e.from in
    let end : c.args.head.start + (c.behind_zeros-end.result - c.args.head.start) ≡ c.behind_zeros-end.result = omega arith in
    let told = zeros_read c.args.format.now c.args.head.is_prefixed c.args.bytes.now c.args.head.radix c.args.head.start g.T.Integer.TYPE c.args.head.is_negative (c.behind_zeros-end.result - c.args.head.start) g.met.T.Integer.width_law c.requires.sound (omega (arith, e.within)) (λ j from to. e.zeros j from (omega arith)) in
    record {
      sound = subst (λ n. IsSound (view_at c.args.format.now c.args.head.is_prefixed c.args.head.radix c.args.bytes.now c.args.head.start n (c.behind_zeros-end.result - c.args.head.start))) end told.0;
      reads = subst (λ (v : ℤ). Reads g.T.Integer.TYPE c.args.head.is_negative (numeral_in c.args.format.now c.args.head.is_prefixed c.args.head.radix c.args.bytes.now c.args.head.start) (c.behind_zeros-end.result - c.args.head.start) v) (sym (ap g.T.Integer.number c.ZERO.ensures ∙ g.met.T.Integer.zero_law)) told.1;
    }

pub join_checked-requires-clause-digit : goal.join_checked-requires-clause-digit
join_checked-requires-clause-digit g c = digit_at_below _ _ _ _ c.in-Digit.ensures.3

pub join_checked-requires-clause-sign : goal.join_checked-requires-clause-sign
join_checked-requires-clause-sign g c = reads_sign _ _ _ _ _ c.read_row-value.ensures.still_reads

pub returns-in_err-join_checked-in-Digit-clause-leaves : goal.returns-in_err-join_checked-in-Digit-clause-leaves
returns-in_err-join_checked-in-Digit-clause-leaves g c =
    let p = err_from_is_err_and c.from_residual.result c.from_residual.ensures.1 in
    let row = c.read_row-value.ensures in
    let leaves = c.in_err-join_checked-in-Digit.ensures.leaves in
    rw (p.1, p.2) (next_leaves _ _ c.args.bytes.now _ _ _ _ _ _ c.in-Digit.place _ _ _ row.still_sound c.in-Digit.ensures row.still_reads leaves.0 leaves.1)

pub overflow_add-read : goal.overflow_add-read
overflow_add-read g c =
    let before = digits_bound _ c.read_row-value.ensures.still_sound refl in
    let from = c.in-Digit.ensures.0 in
    let inside : c.in-Digit.place < length c.args.bytes.now = digit_at_within _ _ _ _ c.in-Digit.ensures.3 in
    omega arith

pub overflow_add-read-in-Digit : goal.overflow_add-read-in-Digit
overflow_add-read-in-Digit g c =
    let inside : c.in-Digit.place < length c.args.bytes.now = digit_at_within _ _ _ _ c.in-Digit.ensures.3 in
    omega arith

pub loop-place-preserved : goal.loop-place-preserved
loop-place-preserved g c =
    let row = c.read_row-value.ensures in
    let fits = c.in_ok-join_checked-in-Digit.ensures.fits in
    record {
      sound = next_sound _ _ c.args.bytes.now _ _ _ _ c.in-Digit.place _ row.still_sound c.in-Digit.ensures;
      reads = next_reads _ _ c.args.bytes.now _ _ _ _ _ _ c.in-Digit.place _ _ _ row.still_sound c.in-Digit.ensures row.still_reads fits.0 fits.1;
    }

pub returns-in-End-clause-all : goal.returns-in-End-clause-all
returns-in-End-clause-all g c =
    let row = c.read_row-value.ensures in
    all_read _ _ c.args.bytes.now _ _ _ _ _ _ _ _ row.still_sound c.in-End.ensures row.still_reads
