use Rattle.std.proofs.Common.{◌≡◌, ◌∙◌, ◌+◌, ◌-◌, ap, get_or, arith}
use Rattle.std.proofs.lemmas.List.{get_or-drop, take_rest}
use Rattle.lexical_tables.proofs.misplaced.next_quote.Goals as goal

pub returns-clause-before : goal.returns-clause-before
returns-clause-before c = λ k from low same.
    let is : c.args.place + (k - c.args.place) ≡ k = omega (arith, from) in
    c.field_length.ensures.before (k - c.args.place) (omega (arith, from, low))
    (ap (λ l. get_or l (k - c.args.place) 0) (take_rest c.args.text.now c.args.place)
    ∙ get_or-drop c.args.place c.args.text.now (k - c.args.place) 0 ∙ ap (λ n. get_or c.args.text.now n 0) is ∙ same)
