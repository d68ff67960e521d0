use Rattle.std.proofs.Common.{arith}
use Rattle.std.proofs.lemmas.Bool.{and_parts}
use Rattle.lexical_digits.proofs.ShiftedWords.{front_written, taken_digits}
use Rattle.lexical_digits.proofs.WordsOfDigits.{both_write}
use Rattle.lexical_digits.proofs.digits.numbers_to_16.Goals as goal

pub number_of_front-high-requires-clause-digits : goal.number_of_front-high-requires-clause-digits
number_of_front-high-requires-clause-digits c = taken_digits _ _ (c.is_8digits.ensures.0 (and_parts _ _ c.if-not-is_8digits.false).0)

pub number_of_digits-requires : goal.number_of_digits-requires
number_of_digits-requires c = c.is_8digits-2.ensures.0 (and_parts _ _ c.if-not-is_8digits.false).1

pub returns-clause-writes : goal.returns-clause-writes
returns-clause-writes c =
    let both = and_parts _ _ c.if-not-is_8digits.false in
    let front = front_written _ _ _ c.args.text.now (omega arith) (omega arith) (λ k. let f = c.type_inv.text k in omega arith) c.word_at-first.ensures (c.is_8digits.ensures.0 both.0) c.number_of_front-high.ensures.value in
    both_write _ _ _ c.args.text.now c.requires.some (λ k. let f = c.type_inv.text k in omega arith) front c.word_at-last.ensures (c.is_8digits-2.ensures.0 both.1) c.number_of_digits.ensures.value
