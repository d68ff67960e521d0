use Rattle.std.proofs.Common.{◌∷◌, ◌+◌, ℕ, List, length, ap, ap₂, sym, ◌∙◌, rules}
use Rattle.lexical_literals.proofs.TokenSteps.{FrontEnds, found_size, next-none, next-some}
use Rattle.lexical_literals.specs.Tokens.{TokenView, tokens_from}
use Rattle.lexical_literals.proofs.TokensIterator.next.Goals as goal

pub returns-in_err-first-clause-steps : goal.returns-in_err-first-clause-steps
returns-in_err-first-clause-steps c =
    let t = c.self.inside in
    let none = sym c.self.view_is ∙ next-none t.format t.place c.skipped_length.result t.rest.now
    c.split_at.result.1.now c.skipped_length.ensures.value c.split_at.ensures.back
    c.in_err-first.ensures.value in
    rw c.from_residual.ensures (none, none)

pub split_at-requires-2 : goal.split_at-requires-2
split_at-requires-2 c =
    let t = c.self.inside in
    let ends : FrontEnds = record { within = c.front_end.ensures.within; some = c.front_end.ensures.some } in
    (found_size ends t.format c.split_at.result.1.now c.in_ok-first.field-0.now c.front-kind.result
    c.in_ok-first.ensures.value c.front-kind.ensures).within

pub returns-clause-steps : goal.returns-clause-steps
returns-clause-steps c =
    let t = c.self.inside in
    let ends : FrontEnds = record { within = c.front_end.ensures.within; some = c.front_end.ensures.some } in
    let step = next-some ends t.format t.place (length c.split_at.result.0.now)
    c.skipped_length.result t.rest.now c.split_at.result.1.now c.in_ok-first.field-0.now
    c.front-kind.result
    c.skipped_length.ensures.value c.split_at.ensures.front_len c.split_at.ensures.back
    c.in_ok-first.ensures.value c.front-kind.ensures in
    let start = t.place + length c.split_at.result.0.now in
    let P : List ℕ → List ℕ → List TokenView = λ text behind.
    record {
      kind = c.front-kind.result.0;
      start = start;
      stop =
          start + c.front-kind.result.1;
      text = text;
    }
    ∷ tokens_from t.format (start + c.front-kind.result.1) 0 behind in
    sym c.self.view_is ∙ step ∙ sym (ap₂ P c.split_at-2.ensures.front c.split_at-2.ensures.back)

pub returns-clause-goes : goal.returns-clause-goes
returns-clause-goes c = let shorter = ap length (returns-clause-steps c) in search rules
