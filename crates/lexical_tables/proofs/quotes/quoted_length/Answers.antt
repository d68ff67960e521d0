use Rattle.std.proofs.Common.{◌≡◌, ◌∙◌, ◌+◌, false, arith}
use Rattle.lexical_tables.proofs.Passed.{none_found, passes_more, passes_none, passes_to}
use Rattle.lexical_tables.proofs.quotes.quoted_length.Goals as goal

pub returns-then-look-ne0-clause-value : goal.returns-then-look-ne0-clause-value
returns-then-look-ne0-clause-value c =
    let s = c.args.separator in
    let text = c.args.text.now in
    let look = c.look_at_16-look in
    let at : c.lowest_mark.result ≡ 0 + c.lowest_mark.result = omega arith in
    at
    ∙ (passes_to s text 0 false (passes_none s text) 16 look.result.found c.lowest_mark.result (omega arith)
    look.ensures.here look.ensures.beyond c.lowest_mark.ensures.set c.lowest_mark.ensures.below).0

pub length_by_16-requires : goal.length_by_16-requires
length_by_16-requires c =
    let s = c.args.separator in
    let text = c.args.text.now in
    let look = c.look_at_16-look in
    record {
      passed = passes_more s text 0 false (passes_none s text) 16 look.result.found (omega arith) look.ensures.here
          (λ k low. none_found look.result.found c.if-look-ne0.false k) look.result.is_within look.ensures.within;
    }
