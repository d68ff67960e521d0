use Rattle.std.proofs.Common.{refl}
use Rattle.lexical_digits.proofs.LongNumbers.{if_found}
use Rattle.lexical_parse_integer.proofs.punctuated.PunctuatedAnswers.{digits_read, fits_head, head_signed}
use Rattle.lexical_parse_integer.proofs.algorithm.punctuated.value_behind.Goals as goal

pub value_of_digits-requires-clause-minus : goal.value_of_digits-requires-clause-minus
value_of_digits-requires-clause-minus g c = head_signed _ _ c.args.bytes.now _ c.requires.head

pub value_of_nibbles-requires-clause-minus : goal.value_of_nibbles-requires-clause-minus
value_of_nibbles-requires-clause-minus g c = head_signed _ _ c.args.bytes.now _ c.requires.head

pub value_by_table-requires-clause-radix : goal.value_by_table-requires-clause-radix
value_by_table-requires-clause-radix g c = let fit = fits_head _ _ c.args.bytes.now _ c.requires.valid c.requires.head in fit.is_radix

pub value_by_table-requires-clause-minus : goal.value_by_table-requires-clause-minus
value_by_table-requires-clause-minus g c = head_signed _ _ c.args.bytes.now _ c.requires.head

pub returns-in-10 : goal.returns-in-10
returns-in-10 g c =
    if_found c.value_of_digits.result
    (λ v stands. digits_read _ _ c.args.bytes.now _ _ 10 c.requires.valid c.requires.head c.in-10.is c.requires.some c.requires.rule stands)
    c.value_of_digits.ensures

pub returns-in-16 : goal.returns-in-16
returns-in-16 g c =
    if_found c.value_of_nibbles.result
    (λ v stands. digits_read _ _ c.args.bytes.now _ _ 16 c.requires.valid c.requires.head c.in-16.is c.requires.some c.requires.rule stands)
    c.value_of_nibbles.ensures

pub returns-in_default : goal.returns-in_default
returns-in_default g c =
    if_found c.value_by_table.result
    (λ v stands. digits_read _ _ c.args.bytes.now _ _ _ c.requires.valid c.requires.head refl c.requires.some c.requires.rule stands)
    c.value_by_table.ensures
