use Rattle.std.proofs.Common.{sym, ◌∙◌, arith}
use Rattle.lexical_digits.proofs.LongNumbers.{if_found}
use Rattle.lexical_parse_integer.proofs.plain.DigitsByTable.{some_bytes, table_read}
use Rattle.lexical_parse_integer.proofs.algorithm.plain.value_of_many.Goals as goal

pub returns : goal.returns
returns g c =
    let some = some_bytes _ _ c.is_empty.ensures c.if-is_empty.false in
    let rule = sym c.keeps_zero_rule.ensures ∙ c.if-not-keeps_zero_rule.false in
    if_found c.value_from_17.result
    (λ v s. table_read _ _ 10 _ c.args.bytes.now _ _ c.requires.plain c.requires.decimal (record { low = omega arith; high = omega arith }) c.behind_minus-is_negative.ensures.behind some rule s) c.value_from_17.ensures
