use Rattle.std.proofs.Common.{◌<◌, arith, length, sym}
use Rattle.lexical_parse_integer.proofs.grammar.NumeralEnd.{digit_at_within}
use Rattle.lexical_parse_integer.proofs.reading.FrontAnswers.{next_sound, none_first, other_digit_first, zero_alone, zero_before}
use Rattle.lexical_parse_integer.proofs.algorithm.front.zero_before_digit.Goals as goal

pub returns-in_default-clause-none : goal.returns-in_default-clause-none
returns-in_default-clause-none c = λ _. none_first _ _ c.args.bytes.now _ _ _ _ c.requires.sound c.in_default.ensures

pub returns-then-digit-ne0-clause-none : goal.returns-then-digit-ne0-clause-none
returns-then-digit-ne0-clause-none c = λ _. other_digit_first _ _ c.args.bytes.now _ _ _ c.in-Digit.place _ c.requires.sound c.in-Digit.ensures c.if-digit-ne0.true

pub overflow_add-place : goal.overflow_add-place
overflow_add-place c =
    let inside : c.in-Digit.place < length c.args.bytes.now = digit_at_within _ _ _ _ c.in-Digit.ensures.3 in
    omega arith

pub seek-requires-2-clause-within : goal.seek-requires-2-clause-within
seek-requires-2-clause-within c = (next_sound _ _ c.args.bytes.now _ _ _ _ c.in-Digit.place _ c.requires.sound c.in-Digit.ensures).within

pub returns-in-Digit-seek-clause-some : goal.returns-in-Digit-seek-clause-some
returns-in-Digit-seek-clause-some c =
    zero_before _ _ c.args.bytes.now _ _ _ c.in-Digit.place _ _ _ c.requires.sound c.in-Digit.ensures c.if-digit-ne0.false c.in-Digit-seek.ensures (sym c.if-not-no_integer_leading_zeros.ensures) (sym c.if-chooses_radix.ensures)

pub returns-in-End-clause-none : goal.returns-in-End-clause-none
returns-in-End-clause-none c = λ _. zero_alone _ _ c.args.bytes.now _ _ _ c.in-Digit.place _ _ c.requires.sound c.in-Digit.ensures c.in-End.ensures
