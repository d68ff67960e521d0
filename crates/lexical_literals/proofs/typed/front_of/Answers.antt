use Rattle.std.proofs.Common.{false, sym}
use Rattle.std.specs.Prelude.{pos}
use Rattle.lexical_util.specs.Number.{integer_type}
use Rattle.lexical_literals.proofs.LiteralFronts.{number_within}
use Rattle.lexical_literals.proofs.NumberStops.{not_none, ok_stops}
use Rattle.lexical_literals.proofs.typed.front_of.Goals as goal

pub returns-in-Ok-clause-front : goal.returns-in-Ok-clause-front
returns-in-Ok-clause-front c = record {
  stop = ok_stops c.args.format.now c.args.text.now (pos c.in-Ok.value) c.in-Ok.stop c.in-Ok.ensures;
  value = sym c.in-Ok.ensures;
  no_room = not_none c.in-Ok.value;
  within =
      number_within c.front_end.ensures.within c.args.format.now (integer_type 128 false) c.args.text.now
      (pos c.in-Ok.value) c.in-Ok.stop c.in-Ok.ensures;
}
