use Rattle.std.proofs.Common.{◌+◌, ◌∙◌, sym}
use Rattle.lexical_fields.specs.Fields.{FieldView}
use Rattle.jadvolni.specs.Tables.{target_of}
use Rattle.jadvolni.proofs.TableBits.{no_fault, number_failed, number_read, number_usable, whole_put}
use Rattle.jadvolni.proofs.table_columns.ColumnFieldsTableColumn.read_left.Goals as goal

pub returns-then-is_text-clause-fault : goal.returns-then-is_text-clause-fault
returns-then-is_text-clause-fault c =
    no_fault (record { start = c.args.start; text = c.args.text.now }) (target_of c.args.self.now)
    (sym c.is_text.ensures ∙ c.if-is_text.true)

pub returns-then-is_text-clause-target : goal.returns-then-is_text-clause-target
returns-then-is_text-clause-target c =
    let text : FieldView = record { start = c.args.start; text = c.args.text.now } in
    let before = target_of c.args.self.now in
    c.put_whole_text.ensures
    ∙ whole_put c.args.row text before (sym c.is_text.ensures ∙ c.if-is_text.true)

pub returns-in-Some-clause-target : goal.returns-in-Some-clause-target
returns-in-Some-clause-target c =
    number_failed c.args.row (record { start = c.args.start; text = c.args.text.now }) (target_of c.args.self.now)
    (target_of c.put_parsed_number.new.self) c.in-Some.error c.in-Some.ensures.fault c.in-Some.ensures.target

pub put_presence-requires : goal.put_presence-requires
put_presence-requires c = record {
  usable = number_usable (c.args.row + 1) c.args.row (record { start = c.args.start; text = c.args.text.now })
      (target_of c.args.self.now) (target_of c.put_parsed_number.new.self) c.requires.usable c.in_default.ensures.target;
}

pub returns-clause-target : goal.returns-clause-target
returns-clause-target c =
    number_read c.args.row (record { start = c.args.start; text = c.args.text.now }) (target_of c.args.self.now)
    (target_of c.put_parsed_number.new.self) (target_of c.put_presence.new.self) c.in_default.ensures.fault
    c.in_default.ensures.target c.put_presence.ensures
