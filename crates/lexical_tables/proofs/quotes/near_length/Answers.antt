use Rattle.std.proofs.Common.{◌∙◌, length, arith}
use Rattle.std.proofs.lemmas.Bool.Decides.{nat_tests}
use Rattle.lexical_tables.proofs.NearCells.{near_all, near_first, near_low, near_unquoted}
use Rattle.lexical_tables.proofs.Passed.{none_found}
use Rattle.lexical_tables.proofs.quotes.near_length.Goals as goal

pub returns-then-look-eq0-clause-value : goal.returns-then-look-eq0-clause-value
returns-then-look-eq0-clause-value c =
    let look = c.look_at_16-look in
    near_all c.args.rest.now c.args.ahead.now c.requires.rest c.args.separator look.result.found look.ensures.here
    (none_found look.result.found c.if-look-eq0.true) (grind (arith, nat_tests))

pub returns-then-look-eq0-clause-no_quote : goal.returns-then-look-eq0-clause-no_quote
returns-then-look-eq0-clause-no_quote c = λ seen.
    let look = c.look_at_16-look in
    near_unquoted c.args.rest.now c.args.ahead.now c.requires.rest look.result.quotes (length c.args.rest.now)
    look.ensures.quotes (grind (arith, nat_tests)) (omega arith) (c.has_none_below.ensures seen)

pub returns-clause-value : goal.returns-clause-value
returns-clause-value c =
    let look = c.look_at_16-look in
    c.min-size.ensures ∙ near_first c.args.rest.now c.args.ahead.now c.requires.rest c.args.separator look.result.found look.ensures.here
    c.lowest_mark.result c.lowest_mark.ensures.set c.lowest_mark.ensures.below look.ensures.beyond

pub returns-clause-no_quote : goal.returns-clause-no_quote
returns-clause-no_quote c = λ seen.
    let look = c.look_at_16-look in
    let low = near_low c.args.rest.now c.args.ahead.now c.requires.rest c.args.separator look.result.found look.ensures.here
    c.lowest_mark.result c.lowest_mark.ensures.set c.lowest_mark.ensures.below look.ensures.beyond in
    near_unquoted c.args.rest.now c.args.ahead.now c.requires.rest look.result.quotes _
    look.ensures.quotes (omega (arith, low)) (omega arith) (c.has_none_below-2.ensures seen)
