use Rattle.std.proofs.lemmas.Result.{IfErr-weaker, IfOk-weaker}
use Rattle.lexical_parse_integer.proofs.reading.NumeralSteps.{fault_further, goes_on_further, reading_from, reads_all_further}
use Rattle.lexical_parse_integer.proofs.bound.NumeralTurns.{turns_of_rest}
use Rattle.lexical_parse_integer.proofs.algorithm.counted.numeral.read_digits.Goals as goal

pub read_tested-requires : goal.read_tested-requires
read_tested-requires g c = record { ready = reading_from _ _ _ _ _ _ c.requires.ready c.read_front-front.ensures.on }

pub returns-clause-all : goal.returns-clause-all
returns-clause-all g c =
    IfOk-weaker c.read_tested.result _ _ (λ x h. reads_all_further _ _ _ _ _ _ c.read_front-front.ensures.on.goes_on h) c.read_tested.ensures.all

pub returns-clause-leaves : goal.returns-clause-leaves
returns-clause-leaves g c =
    IfErr-weaker c.read_tested.result _ _ (λ e h. fault_further _ _ _ _ e c.read_front-front.ensures.on.goes_on h) c.read_tested.ensures.leaves

pub returns-clause-goes_on : goal.returns-clause-goes_on
returns-clause-goes_on g c = goes_on_further _ _ _ c.read_front-front.ensures.on.goes_on c.read_tested.ensures.goes_on

pub returns-clause-turns : goal.returns-clause-turns
returns-clause-turns g c =
    turns_of_rest _ _ _ _ _ _ c.read_front-front.ensures.on.goes_on c.read_front-front.ensures.on.reads.count c.read_tested.ensures.count c.read_front-front.ensures.turns c.read_tested.ensures.turns
