use Rattle.std.proofs.Common.{arith}
use Rattle.lexical_tables.proofs.EndLooks.{fewer_same}
use Rattle.lexical_tables.proofs.ends.with_zeros_behind.Goals as goal

pub returns-then-text-lt32 : goal.returns-then-text-lt32
returns-then-text-lt32 c = λ size low few.
    fewer_same c.copy_16.new.bytes c.args.text.now size 16 c.copy_16.ensures (omega (arith, low, c.if-text-lt32.true))

pub returns-then-text-lt48 : goal.returns-then-text-lt48
returns-then-text-lt48 c = λ size low few.
    fewer_same c.copy_16-2.new.bytes c.args.text.now size 32 c.copy_16-2.ensures (omega (arith, low, c.if-text-lt48.true))

pub returns-then-text-lt64 : goal.returns-then-text-lt64
returns-then-text-lt64 c = λ size low few.
    fewer_same c.copy_16-3.new.bytes c.args.text.now size 48 c.copy_16-3.ensures (omega (arith, low, c.if-text-lt64.true))

pub returns : goal.returns
returns c = λ size low few. fewer_same c.copy_16-4.new.bytes c.args.text.now size 64 c.copy_16-4.ensures few
