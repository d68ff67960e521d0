use Rattle.std.proofs.Common.{◌+◌, ◌∙◌, ap, arith}
use Rattle.lexical_literals.specs.Tokens.{is_skipped}
use Rattle.lexical_literals.proofs.KindLanes.{front_passes, front_stops}
use Rattle.lexical_literals.proofs.bytes.skipped_length.Goals as goal

pub returns-then-count-lt16-clause-value : goal.returns-then-count-lt16-clause-value
returns-then-count-lt16-clause-value c =
    front_stops is_skipped c.args.text.now 16 c.skipped_length_of_16-count.result (omega (arith, c.if-text-lt16.false))
    c.skipped_length_of_16-count.ensures.value c.if-count-lt16.true

pub returns-clause-value : goal.returns-clause-value
returns-clause-value c =
    let most = c.skipped_length_of_16-count.ensures.within in
    ap (λ n. 16 + n) c.long_skipped_length.ensures.value
    ∙ front_passes is_skipped c.args.text.now 16 c.skipped_length_of_16-count.result (omega (arith, c.if-text-lt16.false))
    c.skipped_length_of_16-count.ensures.value (omega (arith, c.if-count-lt16.false))
