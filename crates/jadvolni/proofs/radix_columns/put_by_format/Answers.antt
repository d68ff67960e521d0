use Rattle.std.proofs.Common.{◌∙◌, Ok, Err, Some, ap, map}
use Rattle.std.proofs.lemmas.List.{map-set}
use Rattle.lexical_util.specs.Validity.{fault}
use Rattle.lexical_fields.specs.ReadFields.{field_answer}
use Rattle.lexical_fields.proofs.FieldAnswers.{answered}
use Rattle.lexical_fixed.proofs.Valid.{is_none}
use Rattle.lexical_tables.specs.Targets.{error_in, with_number}
use Rattle.jadvolni.proofs.radix_columns.put_by_format.Goals as goal

pub returns-in-Ok : goal.returns-in-Ok
returns-in-Ok g c =
    let number = g.T.Integer.number in
    let told = answered c.valid_format.result g.T.Integer.TYPE c.args.start c.args.text.now (Ok (number c.in-Ok.value))
    (is_none _ (ap fault c.valid_format.ensures ∙ c.requires.valid)) c.in-Ok.ensures
    ∙ ap (λ it. field_answer it g.T.Integer.TYPE (record { start = c.args.start; text = c.args.text.now })) c.valid_format.ensures in
    record {
      fault = ap error_in told;
      numbers =
          map-set number c.args.values.now c.args.row c.in-Ok.value
          ∙ ap (λ a. with_number c.args.row a (map number c.args.values.now)) told;
    }

pub returns-in-Err : goal.returns-in-Err
returns-in-Err g c =
    let number = g.T.Integer.number in
    let told = answered c.valid_format.result g.T.Integer.TYPE c.args.start c.args.text.now (Err c.in-Err.error)
    (is_none _ (ap fault c.valid_format.ensures ∙ c.requires.valid)) c.in-Err.ensures
    ∙ ap (λ it. field_answer it g.T.Integer.TYPE (record { start = c.args.start; text = c.args.text.now })) c.valid_format.ensures in
    record {
      fault = ap Some c.error_in_text.ensures ∙ ap error_in told;
      numbers = ap (λ a. with_number c.args.row a (map number c.args.values.now)) told;
    }
