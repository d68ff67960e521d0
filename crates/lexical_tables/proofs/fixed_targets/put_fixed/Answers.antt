use Rattle.std.proofs.Common.{◌∙◌, Some, ap, map}
use Rattle.std.proofs.lemmas.List.{map-set}
use Rattle.lexical_fields.specs.Places.{in_text}
use Rattle.lexical_tables.specs.Targets.{error_in, with_number}
use Rattle.lexical_tables.proofs.fixed_targets.put_fixed.Goals as goal

pub returns-in-Ok : goal.returns-in-Ok
returns-in-Ok g c =
    let number = g.T.Integer.number in
    let told = ap (in_text c.args.start) c.in-Ok.ensures in
    record {
      fault = ap error_in told;
      numbers =
          map-set number c.args.values.now c.args.row c.in-Ok.value
          ∙ ap (λ a. with_number c.args.row a (map number c.args.values.now)) told;
    }

pub returns-in-Err : goal.returns-in-Err
returns-in-Err g c =
    let number = g.T.Integer.number in
    let told = ap (in_text c.args.start) c.in-Err.ensures in
    record {
      fault = ap Some c.error_in_text.ensures ∙ ap error_in told;
      numbers = ap (λ a. with_number c.args.row a (map number c.args.values.now)) told;
    }
