use Rattle.std.proofs.Common.{Err, ap, sym, ◌∙◌}
use Rattle.lexical_literals.proofs.NumberFaults.{is_fault}
use Rattle.lexical_literals.proofs.NumberStops.{great_stops, great_valid, other_stops}
use Rattle.lexical_literals.proofs.typed.front_at_fault.Goals as goal

pub stop_of_number-requires : goal.stop_of_number-requires
stop_of_number-requires c = record {
  valid =
      great_valid c.args.format.now c.args.text.now c.in-Overflow.field-0
      (ap Err (sym c.in-Overflow.is) ∙ c.requires);
}

pub returns-in-Overflow-clause-front : goal.returns-in-Overflow-clause-front
returns-in-Overflow-clause-front c = record {
  stop =
      great_stops c.args.format.now c.args.text.now c.in-Overflow.field-0 c.stop_of_number.result
      (ap Err (sym c.in-Overflow.is) ∙ c.requires) c.stop_of_number.ensures.stop;
  value = _;
  no_room = λ none. is_fault (sym c.requires);
  within = c.stop_of_number.ensures.within;
}

pub returns-in_default : goal.returns-in_default
returns-in_default c = record {
  front = _;
  fault = other_stops c.args.format.now c.args.text.now c.args.error c.in_default.not-Overflow c.requires;
}
