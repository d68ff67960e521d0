use Rattle.std.proofs.Common.{ap, refl, sym, ◌∙◌}
use Rattle.std.proofs.lemmas.Bool.{false≢true}
use Rattle.lexical_util.specs.Number.{overflow_digits}
use Rattle.lexical_parse_integer.proofs.Folds.{fact_of}
use Rattle.lexical_parse_integer.proofs.reading.NumeralSteps.{reads_no_more}
use Rattle.lexical_parse_integer.proofs.bound.NumeralTurns.{turns_where_digits, turns_where_words}
use Rattle.lexical_parse_integer.proofs.algorithm.counted.numeral.read_front.Goals as goal

pub returns-then-takes_words-clause-turns : goal.returns-then-takes_words-clause-turns
returns-then-takes_words-clause-turns g c =
    turns_where_words _ c.overflow_digits-most.result _ _ _ _ (c.takes_words.ensures.0 c.if-takes_words.true).0 (c.overflow_digits-most.ensures.value ∙ ap (overflow_digits g.T.Integer.TYPE) c.radix.ensures) c.read_by_words.ensures.few

pub returns-then-skips_tests-clause-turns : goal.returns-then-skips_tests-clause-turns
returns-then-skips_tests-clause-turns g c =
    turns_where_digits _ _ _ _ _ (λ both. false≢true (sym c.if-takes_words.false ∙ c.takes_words.ensures.1 both)) c.read_untested.ensures.turns

pub returns-clause-turns : goal.returns-clause-turns
returns-clause-turns g c = turns_where_digits _ _ _ _ _ (λ both. false≢true (sym c.if-takes_words.false ∙ c.takes_words.ensures.1 both)) refl

pub returns-clause-on : goal.returns-clause-on
returns-clause-on g c = reads_no_more _ _ _ _ c.requires.ready

pub overflow_digits-most-requires : goal.overflow_digits-most-requires
overflow_digits-most-requires g c = rw c.radix.ensures (fact_of c.requires.ready.sound).radix
