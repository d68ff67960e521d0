use Rattle.std.proofs.Common.{length, arith}
use Rattle.lexical_digits.proofs.BlockValues.{room_below}
use Rattle.lexical_digits.proofs.nibbles.value_to_eight.Goals as goal

pub value_of_blocks-requires-clause-room : goal.value_of_blocks-requires-clause-room
value_of_blocks-requires-clause-room g c = room_below _ _ (length c.args.digits.now) c.overflow_digits.ensures.room (omega (arith, c.if-n-overflow_digits.false))
