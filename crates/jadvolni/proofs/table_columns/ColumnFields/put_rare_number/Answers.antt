use Rattle.std.proofs.Common.{◌∙◌, ap, not, sym}
use Rattle.std.specs.Prelude.{is_some}
use Rattle.jadvolni.specs.Tables.{target_of}
use Rattle.jadvolni.proofs.TableBits.{number_kept}
use Rattle.jadvolni.proofs.table_columns.ColumnFields.put_rare_number.Goals as goal

pub returns-then-self-ne0-clause-kept : goal.returns-then-self-ne0-clause-kept
returns-then-self-ne0-clause-kept c = λ no.
    number_kept c.args.row (record { start = 0; text = c.args.text.now }) (target_of c.put_in_groups.new.self)
    (target_of c.put_fixed_parsed.new.self)
    (ap is_some (sym c.put_fixed_parsed.ensures.fault) ∙ c.is_none.ensures ∙ ap not no) c.put_fixed_parsed.ensures.target
    ∙ c.put_in_groups.ensures.kept c.if-put_in_groups.false

pub returns-clause-kept : goal.returns-clause-kept
returns-clause-kept c = λ no.
    number_kept c.args.row (record { start = 0; text = c.args.text.now }) (target_of c.args.self.now)
    (target_of c.put_by_format.new.self)
    (ap is_some (sym c.put_by_format.ensures.fault) ∙ c.is_none-2.ensures ∙ ap not no) c.put_by_format.ensures.target
