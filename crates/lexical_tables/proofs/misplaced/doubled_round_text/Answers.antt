use Rattle.std.proofs.Common.{◌∙◌, sym, arith}
use Rattle.lexical_tables.proofs.Unquoted.{last_is_alone, last_is_right, other_is_doubled}
use Rattle.lexical_tables.proofs.misplaced.doubled_round_text.Goals as goal

pub returns-then-next_quote-text-clause-fine : goal.returns-then-next_quote-text-clause-fine
returns-then-next_quote-text-clause-fine c =
    let next = c.next_quote.ensures in
    last_is_right c.args.text.now c.next_quote.result c.requires.quoted next.from next.within next.before next.found
    (omega arith)

pub returns-then-next_quote-text-clause-doubled : goal.returns-then-next_quote-text-clause-doubled
returns-then-next_quote-text-clause-doubled c =
    let next = c.next_quote.ensures in
    last_is_alone c.args.text.now c.next_quote.result c.requires.quoted next.from next.within next.before next.found
    (omega arith)

pub returns-in-None-clause-doubled : goal.returns-in-None-clause-doubled
returns-in-None-clause-doubled c =
    let next = c.next_quote.ensures in
    other_is_doubled c.args.text.now c.next_quote.result c.requires.quoted next.from next.within next.before next.found
    (λ last. absurd (omega (arith, last))) (sym c.fault_round_text.ensures.place ∙ c.in-None.is)
