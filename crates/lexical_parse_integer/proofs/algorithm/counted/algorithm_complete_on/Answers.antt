use Rattle.std.proofs.Common.{sym}
use Rattle.lexical_parse_integer.proofs.Folds.{fact_of}
use Rattle.lexical_parse_integer.proofs.reading.ParserAnswers.{at_stop_read, before_end, complete_stops, complete_empty, complete_value}
use Rattle.lexical_parse_integer.proofs.algorithm.counted.algorithm_complete_on.Goals as goal

-- ---- a fault that both parsers have

pub returns-in_err-value-clause-over : goal.returns-in_err-value-clause-over
returns-in_err-value-clause-over g c = fact_of c.in_err-value.ensures.over

pub returns-in_err-value-clause-few : goal.returns-in_err-value-clause-few
returns-in_err-value-clause-few g c = rw (← c.get_no_multi_digit.ensures) (fact_of c.in_err-value.ensures.few)

-- ---- more text behind the numeral

pub returns-then-not-is_buffer_empty-clause-answer : goal.returns-then-not-is_buffer_empty-clause-answer
returns-then-not-is_buffer_empty-clause-answer g c =
    let within = (fact_of c.in_ok-value.ensures.over).sound.within in
    let l = before_end _ _ _ c.is_buffer_empty.ensures c.if-not-is_buffer_empty.true within in
    rw c.place.ensures (sym (complete_stops _ _ _ _ c.read.new.c (fact_of c.in_ok-value.ensures.found) l))

pub returns-then-not-is_buffer_empty-clause-over : goal.returns-then-not-is_buffer_empty-clause-over
returns-then-not-is_buffer_empty-clause-over g c = fact_of c.in_ok-value.ensures.over

pub returns-then-not-is_buffer_empty-clause-few : goal.returns-then-not-is_buffer_empty-clause-few
returns-then-not-is_buffer_empty-clause-few g c = rw (← c.get_no_multi_digit.ensures) (fact_of c.in_ok-value.ensures.few)

-- ---- no digit where one is asked for

pub returns-then-lacks_digits-clause-answer : goal.returns-then-lacks_digits-clause-answer
returns-then-lacks_digits-clause-answer g c =
    sym (complete_empty _ _ _ _ c.read.new.c _ (fact_of c.in_ok-value.ensures.found) (c.is_buffer_empty.ensures.0 c.if-not-is_buffer_empty.false) c.buffer_length.ensures c.if-lacks_digits.ensures)

pub returns-then-lacks_digits-clause-over : goal.returns-then-lacks_digits-clause-over
returns-then-lacks_digits-clause-over g c = fact_of c.in_ok-value.ensures.over

pub returns-then-lacks_digits-clause-few : goal.returns-then-lacks_digits-clause-few
returns-then-lacks_digits-clause-few g c = rw (← c.get_no_multi_digit.ensures) (fact_of c.in_ok-value.ensures.few)

-- ---- the integer

pub returns-clause-answer : goal.returns-clause-answer
returns-clause-answer g c =
    sym (complete_value _ _ _ _ c.read.new.c (fact_of c.in_ok-value.ensures.found) (c.is_buffer_empty.ensures.0 c.if-not-is_buffer_empty.false) c.if-lacks_digits.ensures)

pub returns-clause-over : goal.returns-clause-over
returns-clause-over g c = fact_of c.in_ok-value.ensures.over

pub returns-clause-at_stop : goal.returns-clause-at_stop
returns-clause-at_stop g c = at_stop_read _ _ _ _ _ (fact_of c.in_ok-value.ensures.found)

pub returns-clause-each : goal.returns-clause-each
returns-clause-each g c = rw (← c.get_no_multi_digit.ensures) (fact_of c.in_ok-value.ensures.each)

pub returns-clause-few : goal.returns-clause-few
returns-clause-few g c = rw (← c.get_no_multi_digit.ensures) (fact_of c.in_ok-value.ensures.few)
