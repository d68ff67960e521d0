use Rattle.std.proofs.lemmas.Result.{IfErr-weaker, IfOk-weaker, err_from_is_err_and}
use Rattle.lexical_parse_integer.proofs.reading.NumeralSteps.{goes_on_further, reads_all_further}
use Rattle.lexical_parse_integer.proofs.reading.ParserAnswers.{range_behind, reading_behind}
use Rattle.lexical_parse_integer.proofs.bound.NumeralTurns.{turns_behind_first, turns_of_first}
use Rattle.lexical_parse_integer.proofs.algorithm.counted.numeral.read_numeral.Goals as goal

pub read_digits-requires : goal.read_digits-requires
read_digits-requires g c =
    record { ready = reading_behind _ _ _ c.read_first_digit.new.c _ c.requires.minus c.in_ok-first.ensures.ahead.goes_on c.in_ok-first.ensures.first.reads }

pub returns-in_err-first-clause-fault : goal.returns-in_err-first-clause-fault
returns-in_err-first-clause-fault g c =
    let p = err_from_is_err_and c.from_residual.result c.from_residual.ensures.1 in
    rw (p.1, p.2) c.in_err-first.ensures.fault

pub returns-in_err-first-clause-turns : goal.returns-in_err-first-clause-turns
returns-in_err-first-clause-turns g c = turns_of_first _ _ _ _ _ c.requires.front c.in_err-first.ensures.ahead

pub returns-clause-all : goal.returns-clause-all
returns-clause-all g c =
    IfOk-weaker c.read_digits.result _ _ (λ x h. record {
      no_zeros = c.in_ok-first.ensures.first.no_zeros;
      all = reads_all_further _ _ _ _ _ _ c.in_ok-first.ensures.ahead.goes_on h;
    }) c.read_digits.ensures.all

pub returns-clause-fault : goal.returns-clause-fault
returns-clause-fault g c =
    IfErr-weaker c.read_digits.result _ _ (λ e h. range_behind _ _ _ _ _ e c.in_ok-first.ensures.ahead.goes_on c.in_ok-first.ensures.first.no_zeros h) c.read_digits.ensures.leaves

pub returns-clause-goes_on : goal.returns-clause-goes_on
returns-clause-goes_on g c = goes_on_further _ _ _ c.in_ok-first.ensures.ahead.goes_on c.read_digits.ensures.goes_on

pub returns-clause-turns : goal.returns-clause-turns
returns-clause-turns g c =
    turns_behind_first _ _ _ _ _ _ c.requires.front c.in_ok-first.ensures.ahead c.in_ok-first.ensures.first.lone c.read_digits.ensures.turns
