use Rattle.std.proofs.Common.{◌∙◌, sym}
use Rattle.lexical_digits.proofs.DigitLanes.{digits_below}
use Rattle.lexical_digits.proofs.LanePairs.{joined_below}
use Rattle.lexical_digits.proofs.LaneSums.{square, small_square, lanes_value}
use Rattle.lexical_digits.proofs.lanes.value_of_8lanes.Goals as goal

pub join_8digits-pairs-requires-clause-digits : goal.join_8digits-pairs-requires-clause-digits
join_8digits-pairs-requires-clause-digits c =
    rw c.digits_in_8.ensures (digits_below c.args.radix _ (sym c.are_8digits.ensures ∙ c.if-not-are_8digits.false))

pub join_4pairs-fours-requires-clause-pairs : goal.join_4pairs-fours-requires-clause-pairs
join_4pairs-fours-requires-clause-pairs c =
    rw (c.join_8digits-pairs.ensures, c.digits_in_8.ensures)
    (joined_below c.args.radix _ (digits_below c.args.radix _ (sym c.are_8digits.ensures ∙ c.if-not-are_8digits.false)))

pub join_fours-requires-clause-most : goal.join_fours-requires-clause-most
join_fours-requires-clause-most c = square _ (small_square c.args.radix c.requires.greatest)

pub join_fours-requires-clause-fours : goal.join_fours-requires-clause-fours
join_fours-requires-clause-fours c =
    rw (c.join_4pairs-fours.ensures, c.join_8digits-pairs.ensures, c.digits_in_8.ensures)
    (joined_below _ _ (joined_below c.args.radix _ (digits_below c.args.radix _ (sym c.are_8digits.ensures ∙ c.if-not-are_8digits.false))))

pub returns : goal.returns
returns c =
    lanes_value c.args.radix c.join_fours.result c.args.bytes.now c.digits_in_8.result c.join_8digits-pairs.result c.join_4pairs-fours.result
    c.requires.size (sym c.are_8digits.ensures ∙ c.if-not-are_8digits.false)
    c.digits_in_8.ensures c.join_8digits-pairs.ensures c.join_4pairs-fours.ensures c.join_fours.ensures
