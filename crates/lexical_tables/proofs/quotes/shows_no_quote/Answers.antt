use Rattle.std.proofs.Common.{◌∙◌, ℕ, ◌<◌, cond, eqb, get_or, ap, sym, arith}
use Rattle.std.proofs.lemmas.Bool.Decides.{nat_tests}
use Rattle.std.proofs.lemmas.List.{get_or-take}
use Rattle.lexical_fields.proofs.Marks.{clear_is}
use Rattle.lexical_tables.specs.Quotes.{quote}
use Rattle.lexical_tables.proofs.quotes.shows_no_quote.Goals as goal

pub returns : goal.returns
returns c = λ seen k low.
    let text = c.args.text.now in
    let near : k < 16 = grind (arith, nat_tests) in
    clear_is (get_or text k 0) quote
    (ap (λ byte. cond {A = ℕ} (eqb byte quote) 1 0) (sym (get_or-take 16 text k 0 near))
    ∙ sym (c.marks_among_16.ensures.here k near) ∙ c.has_none_below.ensures seen k low)
