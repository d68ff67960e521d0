use Rattle.std.proofs.Common.{arith}
use Rattle.lexical_fixed.proofs.JoinedDigits.{word_taken}
use Rattle.lexical_fixed.proofs.joined.word_without.Goals as goal

pub returns : goal.returns
returns c = word_taken c.args.place c.args.word c.requires (let f = c.ranges.word in omega arith)
