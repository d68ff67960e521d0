use Rattle.std.proofs.Common.{◌≤◌, arith, length}
use Rattle.lexical_digits.proofs.RadixFronts.{front_fits}
use Rattle.lexical_digits.proofs.table.value_by_table.Goals as goal

pub signed_value-requires-clause-fits : goal.signed_value-requires-clause-fits
signed_value-requires-clause-fits g c =
    let low : 2 ≤ c.args.radix = c.requires.radix.low in
    front_fits _ c.args.radix c.overflow_digits-most.result (length c.args.digits.now) c.args.digits.now _ c.overflow_digits-most.ensures.room (omega arith) (omega (arith, c.if-digits-most.false)) c.in-Some.ensures.writes
