use Rattle.std.proofs.Common.{◌∙◌, sym}
use Rattle.lexical_digits.proofs.LanePairs.{joined_below}
use Rattle.lexical_digits.proofs.DigitLanes.{digits_below}
use Rattle.lexical_digits.proofs.LaneSums.{half_lanes_value, small_square}
use Rattle.lexical_digits.proofs.lanes.value_of_4lanes.Goals as goal

pub join_4digits-pairs-requires-clause-digits : goal.join_4digits-pairs-requires-clause-digits
join_4digits-pairs-requires-clause-digits c =
    rw c.digits_in_4.ensures (digits_below c.args.radix _ (sym c.are_4digits.ensures ∙ c.if-not-are_4digits.false))

pub join_2pairs-requires-clause-most : goal.join_2pairs-requires-clause-most
join_2pairs-requires-clause-most c = small_square c.args.radix c.requires.greatest

pub join_2pairs-requires-clause-pairs : goal.join_2pairs-requires-clause-pairs
join_2pairs-requires-clause-pairs c =
    rw (c.join_4digits-pairs.ensures, c.digits_in_4.ensures)
    (joined_below c.args.radix _ (digits_below c.args.radix _ (sym c.are_4digits.ensures ∙ c.if-not-are_4digits.false)))

pub returns : goal.returns
returns c =
    half_lanes_value c.args.radix c.join_2pairs.result c.args.bytes.now c.digits_in_4.result c.join_4digits-pairs.result
    c.requires.size (sym c.are_4digits.ensures ∙ c.if-not-are_4digits.false)
    c.digits_in_4.ensures c.join_4digits-pairs.ensures c.join_2pairs.ensures
