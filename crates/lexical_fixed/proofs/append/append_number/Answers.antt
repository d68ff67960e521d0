use Rattle.std.proofs.Common.{◌≤◌, ◌^◌, arith}
use Rattle.std.proofs.Math.Nat.{one-le-pow}
use Rattle.std.proofs.lemmas.Int.{ints}
use Rattle.lexical_fixed.proofs.append.append_number.Goals as goal

pub checked_mul_add-requires-clause-scale : goal.checked_mul_add-requires-clause-scale
checked_mul_add-requires-clause-scale g c =
    let one : 1 ≤ 10 ^ c.args.count = one-le-pow c.args.count 10 (omega arith) in
    omega (arith, ints, c.from_u32-scale.ensures, c.power_of_ten.ensures)
