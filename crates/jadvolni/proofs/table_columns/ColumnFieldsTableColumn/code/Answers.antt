use Rattle.std.proofs.Common.{◌≡◌, ◌∙◌, ap, arith, sym}
use Rattle.std.proofs.lemmas.Bool.Decides.{nat_tests}
use Rattle.lexical_tables.specs.Codes.{IsCode, coded_type}
use Rattle.lexical_tables.specs.Readings.{Integers}
use Rattle.jadvolni.proofs.ColumnCodes.{format_said}
use Rattle.jadvolni.proofs.table_columns.ColumnFieldsTableColumn.code.Goals as goal

pub returns : goal.returns
returns c =
    let integers : c.args.self.now.description.places ≡ 0 = grind (arith, nat_tests) in
    format_said c.args.self.now c.in-Some.numbers c.standard_code-code.result (sym c.number_type.ensures ∙ c.in-Some.is)
    integers c.standard_code-code.ensures.column c.standard_code-code.ensures.bits (IsCode c.under_format.result)
    (λ target same bits. c.under_format.ensures target
    (same ∙ ap (λ format. Integers format (coded_type c.standard_code-code.result)) (sym c.decimal_format.ensures)) bits)
