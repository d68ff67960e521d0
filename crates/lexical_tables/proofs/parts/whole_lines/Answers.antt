use Rattle.std.proofs.Common.{◌+◌, ◌<◌, length, arith}
use Rattle.std.proofs.lemmas.Bool.Decides.{nat_tests}
use Rattle.std.proofs.lemmas.List.{take_rest}
use Rattle.lexical_tables.proofs.WholeRows.{whole_goes, whole_stops}
use Rattle.lexical_tables.proofs.parts.whole_lines.Goals as goal

pub returns-then-size-rest-clause-value : goal.returns-then-size-rest-clause-value
returns-then-size-rest-clause-value c =
    whole_stops c.args.has_quotes c.args.text.now c.loop-rest.rest.now c.loop-rest.invariant c.length_outside-size.result
    c.length_outside-size.ensures.value (grind (arith, nat_tests))

pub loop-rest-preserved : goal.loop-rest-preserved
loop-rest-preserved c =
    let size = c.length_outside-size.result in
    let more : size < length c.loop-rest.rest.now =
    omega (arith, c.length_outside-size.ensures.within, c.if-size-rest.false) in
    whole_goes c.args.has_quotes c.args.text.now c.loop-rest.rest.now c.loop-rest.invariant size _
    (take_rest c.loop-rest.rest.now (size + 1)) c.length_outside-size.ensures.value more
