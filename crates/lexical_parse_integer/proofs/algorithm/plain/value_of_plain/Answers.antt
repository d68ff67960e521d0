use Rattle.std.proofs.Common.{sym, ◌∙◌, arith}
use Rattle.lexical_util.specs.Digit.{IsRadix}
use Rattle.lexical_digits.proofs.LongNumbers.{if_found}
use Rattle.lexical_parse_integer.proofs.plain.DigitsByTable.{some_bytes, table_read}
use Rattle.lexical_parse_integer.proofs.reading.FormatBytes.{fits}
use Rattle.lexical_parse_integer.proofs.algorithm.plain.value_of_plain.Goals as goal

pub returns-then-radix-eq16 : goal.returns-then-radix-eq16
returns-then-radix-eq16 g c =
    let some = some_bytes _ _ c.is_empty.ensures c.if-is_empty.false in
    let rule = sym c.keeps_zero_rule.ensures ∙ c.if-not-keeps_zero_rule.false in
    if_found c.value_of_nibbles.result
    (λ v s. table_read _ _ 16 _ c.args.bytes.now _ _ c.requires.plain (sym c.mantissa_radix-radix.ensures ∙ c.if-radix-eq16.true) (record { low = omega arith; high = omega arith }) c.behind_minus-is_negative.ensures.behind some rule s) c.value_of_nibbles.ensures

pub value_by_table-requires-clause-radix : goal.value_by_table-requires-clause-radix
value_by_table-requires-clause-radix g c =
    let radix = (fits c.args.format.now c.requires.valid).is_radix in
    rw c.mantissa_radix-radix.ensures radix

pub returns : goal.returns
returns g c =
    let is_radix : IsRadix c.mantissa_radix-radix.result = let radix = (fits c.args.format.now c.requires.valid).is_radix in rw c.mantissa_radix-radix.ensures radix in
    let some = some_bytes _ _ c.is_empty.ensures c.if-is_empty.false in
    let rule = sym c.keeps_zero_rule.ensures ∙ c.if-not-keeps_zero_rule.false in
    if_found c.value_by_table.result
    (λ v s. table_read _ _ c.mantissa_radix-radix.result _ c.args.bytes.now _ _ c.requires.plain (sym c.mantissa_radix-radix.ensures) is_radix c.behind_minus-is_negative.ensures.behind some rule s) c.value_by_table.ensures
