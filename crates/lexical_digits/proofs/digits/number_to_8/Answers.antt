use Rattle.std.proofs.Common.{arith}
use Rattle.std.proofs.lemmas.Bool.{and_parts}
use Rattle.lexical_digits.proofs.ShiftedWords.{text_written}
use Rattle.lexical_digits.proofs.digits.number_to_8.Goals as goal

pub number_of_first_of_four-front-requires-clause-digits : goal.number_of_first_of_four-front-requires-clause-digits
number_of_first_of_four-front-requires-clause-digits c = c.is_4digits.ensures.0 (and_parts _ _ c.if-not-is_4digits.false).0

pub number_of_4digits-requires : goal.number_of_4digits-requires
number_of_4digits-requires c = c.is_4digits-2.ensures.0 (and_parts _ _ c.if-not-is_4digits.false).1

pub returns-clause-writes : goal.returns-clause-writes
returns-clause-writes c =
    let both = and_parts _ _ c.if-not-is_4digits.false in
    text_written c.args.text.now _ _ _ _ c.requires.some c.requires.few (λ k. let f = c.type_inv.text k in omega arith) c.half_at-first.ensures c.half_at-last.ensures (c.is_4digits.ensures.0 both.0) (c.is_4digits-2.ensures.0 both.1) c.number_of_first_of_four-front.ensures.value c.number_of_4digits.ensures.value
