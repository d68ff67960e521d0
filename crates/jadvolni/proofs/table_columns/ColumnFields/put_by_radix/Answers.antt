use Rattle.std.proofs.Common.{◌≡◌, ◌∙◌, false, refl, sym}
use Rattle.lexical_util.specs.Format.{Format, standard}
use Rattle.lexical_fields.specs.Fields.{FieldView}
use Rattle.lexical_fields.specs.ReadFields.{field_answer}
use Rattle.lexical_tables.specs.Targets.{keeps_text}
use Rattle.jadvolni.specs.FormatFields.{format_of}
use Rattle.jadvolni.specs.Tables.{target_of}
use Rattle.jadvolni.proofs.ColumnNumbers.{fault_there, format_answer, kept_there, no_texts_there, put_there, room_for}
use Rattle.jadvolni.proofs.table_columns.ColumnFields.put_by_radix.Goals as goal

pub put_in_radix-requires : goal.put_in_radix-requires
put_in_radix-requires c = record {
  numbers = sym c.number_type.ensures ∙ c.in-Some.is;
  room = room_for c.args.self.now c.args.row c.requires.usable;
}

pub returns : goal.returns
returns c =
    let column = c.args.self.now in
    let format : Format = record standard { mantissa_radix = column.description.integer.mantissa_radix } in
    let is : format_of column.description.integer ≡ format = c.requires.standard in
    let numbers : keeps_text (target_of column) ≡ false = no_texts_there column _ (sym c.number_type.ensures ∙ c.in-Some.is) in
    record {
      fault = λ did start.
          let text : FieldView = record { start = start; text = c.args.text.now } in
          sym (fault_there column c.put_in_radix.new.self numbers c.args.row text (λ type. field_answer format type text)
          (λ type. format_answer column.description type text format c.requires.integers is))
          ∙ c.put_in_radix.ensures.fault did start;
      target = λ did start.
          let text : FieldView = record { start = start; text = c.args.text.now } in
          put_there column c.put_in_radix.new.self numbers c.args.row text (λ type. field_answer format type text)
          (λ type. format_answer column.description type text format c.requires.integers is)
          (c.put_in_radix.ensures.numbers did start);
      kept = λ did_not. kept_there column c.put_in_radix.new.self numbers (c.put_in_radix.ensures.kept did_not);
      description = refl;
    }
