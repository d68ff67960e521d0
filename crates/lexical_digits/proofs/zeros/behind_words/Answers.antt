use Rattle.std.proofs.Common.{arith}
use Rattle.lexical_digits.proofs.ZerosInFront.{zeros_more}
use Rattle.lexical_digits.proofs.zeros.behind_words.Goals as goal

pub loop-at-preserved : goal.loop-at-preserved
loop-at-preserved c =
    let i = c.loop-at.invariant in
    let low = i.from in
    record {
      from = omega arith;
      within = omega (arith, c.loop-at-test.true);
      zeros = zeros_more c.args.text.now c.args.start c.loop-at.at c.word_at.result (λ k. let f = c.type_inv.text k in omega arith) (omega (arith, c.loop-at-test.true)) c.word_at.ensures c.if-word_at-eq-ZEROS.true i.zeros;
    }
