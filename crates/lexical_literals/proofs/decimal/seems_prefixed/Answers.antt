use Rattle.std.proofs.Common.{arith}
use Rattle.lexical_literals.proofs.DecimalFronts.{bare_by_first, bare_by_second, not_above}
use Rattle.lexical_literals.proofs.decimal.seems_prefixed.Goals as goal

pub returns-then-text-ne48-clause-bare : goal.returns-then-text-ne48-clause-bare
returns-then-text-ne48-clause-bare c = λ told f decimal. bare_by_first f c.args.text.now c.if-text-ne48.true c.requires

pub returns-then-text-lt2-clause-bare : goal.returns-then-text-lt2-clause-bare
returns-then-text-lt2-clause-bare c =
    λ told f decimal. bare_by_second f c.args.text.now decimal (λ more. absurd (omega (arith, c.if-text-lt2.true)))

pub returns-clause-bare : goal.returns-clause-bare
returns-clause-bare c = λ told f decimal. bare_by_second f c.args.text.now decimal (λ more. not_above _ told)
