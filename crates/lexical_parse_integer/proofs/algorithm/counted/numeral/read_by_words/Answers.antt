use Rattle.lexical_parse_integer.proofs.reading.NumeralSteps.{reading_from, reads_further}
use Rattle.lexical_parse_integer.proofs.bound.NumeralTurns.{turns_of_words}
use Rattle.lexical_parse_integer.proofs.algorithm.counted.numeral.read_by_words.Goals as goal

pub read_untested-requires-clause-ready : goal.read_untested-requires-clause-ready
read_untested-requires-clause-ready g c =
    let words = c.read_words-value.ensures.words in
    reading_from _ _ _ _ _ _ c.requires.ready (record { reads = words.reads; goes_on = words.goes_on })

pub returns-clause-on : goal.returns-clause-on
returns-clause-on g c =
    let words = c.read_words-value.ensures.words in
    reads_further _ _ _ _ _ _ _ (record { reads = words.reads; goes_on = words.goes_on }) c.read_untested.ensures.on

pub returns-clause-few : goal.returns-clause-few
returns-clause-few g c =
    turns_of_words g.T.Integer.BITS _ _ _ _ _ _ _ c.read_words-value.ensures.words c.requires.ready.reads.count c.read_untested.ensures.on.reads.count c.read_untested.ensures.turns
