use Rattle.std.proofs.Common.{sym}
use Rattle.lexical_parse_integer.proofs.Folds.{fact_of}
use Rattle.lexical_parse_integer.proofs.reading.ParserAnswers.{at_stop_read, partial_empty, partial_value, partial_goes_on}
use Rattle.lexical_parse_integer.proofs.algorithm.counted.algorithm_partial_on.Goals as goal

-- ---- a fault that both parsers have

pub returns-in_err-front-clause-over : goal.returns-in_err-front-clause-over
returns-in_err-front-clause-over g c = fact_of c.in_err-front.ensures.over

pub returns-in_err-front-clause-few : goal.returns-in_err-front-clause-few
returns-in_err-front-clause-few g c = rw (← c.get_no_multi_digit.ensures) (fact_of c.in_err-front.ensures.few)

-- ---- no digit where one is asked for

pub returns-then-reports_empty-clause-answer : goal.returns-then-reports_empty-clause-answer
returns-then-reports_empty-clause-answer g c =
    rw c.place.ensures (sym (partial_empty _ _ _ _ c.read.new.c (fact_of c.in_ok-front.ensures.found) c.if-lacks_digits.ensures c.if-reports_empty.ensures))

pub returns-then-reports_empty-clause-over : goal.returns-then-reports_empty-clause-over
returns-then-reports_empty-clause-over g c = fact_of c.in_ok-front.ensures.over

pub returns-then-reports_empty-clause-few : goal.returns-then-reports_empty-clause-few
returns-then-reports_empty-clause-few g c = rw (← c.get_no_multi_digit.ensures) (fact_of c.in_ok-front.ensures.few)

pub returns-then-lacks_digits-clause-answer : goal.returns-then-lacks_digits-clause-answer
returns-then-lacks_digits-clause-answer g c =
    rw c.place-then-lacks_digits.ensures (sym (partial_goes_on _ _ _ _ c.read.new.c (fact_of c.in_ok-front.ensures.found) c.if-lacks_digits.ensures c.if-reports_empty.ensures))

pub returns-then-lacks_digits-clause-over : goal.returns-then-lacks_digits-clause-over
returns-then-lacks_digits-clause-over g c = fact_of c.in_ok-front.ensures.over

pub returns-then-lacks_digits-clause-at_stop : goal.returns-then-lacks_digits-clause-at_stop
returns-then-lacks_digits-clause-at_stop g c = at_stop_read _ _ _ _ _ (fact_of c.in_ok-front.ensures.found)

pub returns-then-lacks_digits-clause-each : goal.returns-then-lacks_digits-clause-each
returns-then-lacks_digits-clause-each g c = rw (← c.get_no_multi_digit.ensures) (fact_of c.in_ok-front.ensures.each)

pub returns-then-lacks_digits-clause-few : goal.returns-then-lacks_digits-clause-few
returns-then-lacks_digits-clause-few g c = rw (← c.get_no_multi_digit.ensures) (fact_of c.in_ok-front.ensures.few)

-- ---- a front

pub returns-clause-answer : goal.returns-clause-answer
returns-clause-answer g c =
    rw c.place-2.ensures (sym (partial_value _ _ _ _ c.read.new.c (fact_of c.in_ok-front.ensures.found) c.if-lacks_digits.ensures))

pub returns-clause-place : goal.returns-clause-place
returns-clause-place g c = sym c.place-2.ensures

pub returns-clause-over : goal.returns-clause-over
returns-clause-over g c = fact_of c.in_ok-front.ensures.over

pub returns-clause-at_stop : goal.returns-clause-at_stop
returns-clause-at_stop g c = at_stop_read _ _ _ _ _ (fact_of c.in_ok-front.ensures.found)

pub returns-clause-each : goal.returns-clause-each
returns-clause-each g c = rw (← c.get_no_multi_digit.ensures) (fact_of c.in_ok-front.ensures.each)

pub returns-clause-few : goal.returns-clause-few
returns-clause-few g c = rw (← c.get_no_multi_digit.ensures) (fact_of c.in_ok-front.ensures.few)
