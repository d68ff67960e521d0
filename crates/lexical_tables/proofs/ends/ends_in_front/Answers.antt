use Rattle.std.proofs.Common.{◌∙◌, ◌+◌, ◌≡◌, ℕ, ap, arith, cond}
use Rattle.lexical_tables.specs.Ends.{is_end}
use Rattle.lexical_tables.proofs.EndLooks.{low_mark, no_mark, none_within}
use Rattle.lexical_tables.proofs.ends.ends_in_front.Goals as goal

pub look_at_64-requires-clause-within : goal.look_at_64-requires-clause-within
look_at_64-requires-clause-within c = none_within c.args.has_quotes c.args.text.now

pub returns : goal.returns
returns c = record {
  seen = 63;
  few = omega arith;
  room = λ some. omega arith;
  here = λ k low.
      let at : 0 + k ≡ k = omega arith in
      low_mark c.look_at_64.result.ends 63 k (omega arith) low ∙ c.look_at_64.ensures.here k (omega (arith, low))
      ∙ ap (λ i. cond {A = ℕ} (is_end c.args.has_quotes c.args.separator c.args.text.now i) 1 0) at;
  beyond = λ k high. no_mark c.look_at_64.result.ends 63 k (omega arith) high;
}
