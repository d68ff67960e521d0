use Rattle.std.proofs.Common.{◌≡◌, ◌+◌, ◌-◌, ◌∙◌, ap, arith, drop, take}
use Rattle.std.specs.List.{prefix_len}
use Rattle.lexical_literals.specs.Tokens.{is_word_byte}
use Rattle.lexical_literals.proofs.KindLanes.{piece_passes, piece_stops}
use Rattle.lexical_literals.proofs.bytes.long_word_length.Goals as goal

pub returns-then-count-lt16-clause-value : goal.returns-then-count-lt16-clause-value
returns-then-count-lt16-clause-value c =
    let k = c.loop-place.place in
    let size : k + 16 - k ≡ 16 = omega arith in
    piece_stops is_word_byte c.args.text.now k 16 c.word_length_of_16-count.result (omega (arith, c.loop-place-test.true))
    (c.word_length_of_16-count.ensures.value ∙ ap (λ n. prefix_len is_word_byte (take n (drop k c.args.text.now))) size)
    c.if-count-lt16.true c.loop-place.invariant.ahead

pub loop-place-preserved : goal.loop-place-preserved
loop-place-preserved c =
    let k = c.loop-place.place in
    let size : k + 16 - k ≡ 16 = omega arith in
    let most = c.word_length_of_16-count.ensures.within in
    record {
      within = omega (arith, c.loop-place-test.true);
      ahead = piece_passes is_word_byte c.args.text.now k 16 c.word_length_of_16-count.result (omega (arith, c.loop-place-test.true))
          (c.word_length_of_16-count.ensures.value ∙ ap (λ n. prefix_len is_word_byte (take n (drop k c.args.text.now))) size)
          (omega arith) c.loop-place.invariant.ahead;
    }
