use Rattle.lexical_tables.proofs.Parities.{below_high, below_low}
use Rattle.lexical_tables.proofs.quotes.parities.with_marks_below.Goals as goal

pub returns-clause-low : goal.returns-clause-low
returns-clause-low c = λ k low. below_low c.args.marks c.args.by k c.requires low

pub returns-clause-high : goal.returns-clause-high
returns-clause-high c = λ k few. below_high c.args.marks c.args.by k few
