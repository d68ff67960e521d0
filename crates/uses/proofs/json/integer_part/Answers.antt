use Rattle.std.proofs.Common.{refl, sym, true}
use Rattle.lexical_util.specs.Format.{json}
use Rattle.lexical_util.specs.Number.{integer_type}
use Rattle.uses.proofs.Settled.{final_behind}
use Rattle.uses.proofs.json.integer_part.Goals as goal

pub returns-then-stops_after_digit-clause-settled : goal.returns-then-stops_after_digit-clause-settled
returns-then-stops_after_digit-clause-settled c =
    final_behind c.args.read.now c.in-Ok.value c.in-Ok.end
    (c.locality.ensures json (integer_type 64 true) refl refl) (sym c.in-Ok.ensures)
    c.if-end-read.true

pub returns-else-stops_after_digit-clause-settled : goal.returns-else-stops_after_digit-clause-settled
returns-else-stops_after_digit-clause-settled c =
    final_behind c.args.read.now c.in-Ok.value c.in-Ok.end
    (c.locality.ensures json (integer_type 64 true) refl refl) (sym c.in-Ok.ensures)
    c.if-end-read.true
