use Rattle.std.proofs.Common.{◌∙◌, refl, sym}
use Rattle.lexical_parse_integer.proofs.Folds.{fact_of}
use Rattle.lexical_parse_integer.proofs.reading.Soundness.{none_from_IsNone}
use Rattle.lexical_parse_integer.proofs.reading.FirstDigit.{look_byte, look_end, look_step, step_count}
use Rattle.lexical_parse_integer.proofs.reading.NumeralSteps.{goes_on_none}
use Rattle.lexical_parse_integer.proofs.algorithm.counted.zeros.has_more.Goals as goal

pub returns-in-Some-clause-answer : goal.returns-in-Some-clause-answer
returns-in-Some-clause-answer c =
    let none = none_from_IsNone _ (c.is_contiguous.ensures.0 c.if-is_contiguous.true) in
    rw c.char_is_digit.ensures (rw c.radix.ensures (look_byte c.args.c.now c.in-Some.byte (fact_of c.requires.sound) c.requires.open none (sym c.in-Some.ensures)))

pub returns-in-None-clause-answer : goal.returns-in-None-clause-answer
returns-in-None-clause-answer c =
    let none = none_from_IsNone _ (c.is_contiguous.ensures.0 c.if-is_contiguous.true) in
    look_end c.args.c.now (fact_of c.requires.sound) c.requires.open none (sym c.in-None.ensures)

pub returns-else-is_contiguous-clause-answer : goal.returns-else-is_contiguous-clause-answer
returns-else-is_contiguous-clause-answer c =
    c.is_some.ensures ∙ look_step c.read_digit.result c.args.c.now c.read_digit.new.self (fact_of c.requires.sound) c.requires.open c.read_digit.ensures.step

pub returns-else-is_contiguous-clause-count : goal.returns-else-is_contiguous-clause-count
returns-else-is_contiguous-clause-count c = λ low. step_count c.read_digit.result c.args.c.now c.read_digit.new.self (fact_of c.requires.sound) c.requires.open c.read_digit.ensures.step

pub char_is_digit-requires : goal.char_is_digit-requires
char_is_digit-requires c = rw c.radix.ensures (fact_of c.requires.sound).radix

pub returns-in-Some-clause-goes_on : goal.returns-in-Some-clause-goes_on
returns-in-Some-clause-goes_on c = goes_on_none c.args.c.now c.requires.sound c.requires.open

pub returns-in-Some-clause-digits : goal.returns-in-Some-clause-digits
returns-in-Some-clause-digits c = λ _. refl

pub returns-in-Some-clause-turns : goal.returns-in-Some-clause-turns
returns-in-Some-clause-turns c = refl

pub returns-in-Some-clause-count : goal.returns-in-Some-clause-count
returns-in-Some-clause-count c = λ low. low

pub returns-in-Some-clause-stays : goal.returns-in-Some-clause-stays
returns-in-Some-clause-stays c = λ _. refl
