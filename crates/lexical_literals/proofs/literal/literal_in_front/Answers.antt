use Rattle.lexical_util.specs.Number.{integer_type}
use Rattle.std.specs.Prelude.{false, pos}
use Rattle.lexical_literals.proofs.LiteralFronts.{number_within}
use Rattle.lexical_literals.proofs.literal.literal_in_front.Goals as goal

pub split_at-requires : goal.split_at-requires
split_at-requires c =
    number_within c.front_end.ensures.within c.args.format.now (integer_type 128 false) c.args.text.now
    (pos c.in_ok-value.value) c.in_ok-value.number_stop c.in_ok-value.ensures
