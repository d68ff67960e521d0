use Rattle.std.proofs.Common.{◌≡◌, ◌+◌, ◌*◌, ◌-◌, arith, ◌∙◌}
use Rattle.lexical_parse_integer.proofs.punctuated.Threes.{IsThree, three_of_word}
use Rattle.lexical_parse_integer.proofs.algorithm.punctuated.threes.group_value.Goals as goal

pub number_of_4digits-requires : goal.number_of_4digits-requires
number_of_4digits-requires c = c.is_4digits.ensures.0 c.if-not-is_4digits.false

three : (c : goal.After-number_of_4digits) → IsThree c.args.first c.args.second c.args.third (c.from_le_bytes-parted.result - c.args.separator + 48)
three c =
    let word : c.from_le_bytes-parted.result - c.args.separator + 48 ≡ 48 + 256 * (c.args.first + 256 * (c.args.second + 256 * c.args.third)) = omega (arith, c.from_le_bytes-parted.ensures) in
    three_of_word _ _ _ _ (let f = c.ranges.first in omega arith) (let f = c.ranges.second in omega arith) (let f = c.ranges.third in omega arith) word (c.is_4digits.ensures.0 c.if-not-is_4digits.false)

pub returns-clause-first : goal.returns-clause-first
returns-clause-first c = (three c).first

pub returns-clause-second : goal.returns-clause-second
returns-clause-second c = (three c).second

pub returns-clause-third : goal.returns-clause-third
returns-clause-third c = (three c).third

pub returns-clause-value : goal.returns-clause-value
returns-clause-value c = c.number_of_4digits.ensures.value ∙ (three c).value

pub returns-clause-small : goal.returns-clause-small
returns-clause-small c = let value = c.number_of_4digits.ensures.value ∙ (three c).value in let below = (three c).small in omega arith
