use Rattle.std.proofs.Common.{ap, refl, ◌∙◌}
use Rattle.std.specs.Option.{option_or}
use Rattle.std.proofs.lemmas.Result.{IfOk-weaker, MatchResult-weaker}
use Rattle.lexical_parse_integer.specs.Grammar.{range_fault}
use Rattle.lexical_parse_integer.specs.Numeral.{numeral_in}
use Rattle.lexical_parse_integer.proofs.algorithm.front.read_numeral.Goals as goal

pub returns-in-Some-clause-fault : goal.returns-in-Some-clause-fault
returns-in-Some-clause-fault g c =
    ap (λ z. option_or z (range_fault g.T.Integer.TYPE c.args.head.is_negative (numeral_in c.args.format.now c.args.head.is_prefixed c.args.head.radix c.args.bytes.now c.args.head.start))) c.in-Some.ensures.some

pub returns-clause-all : goal.returns-clause-all
returns-clause-all g c = IfOk-weaker c.read_digits.result _ _ (λ found h. record { no_zeros = c.in_default.ensures.none refl; all = h }) c.read_digits.ensures.all

pub returns-clause-fault : goal.returns-clause-fault
returns-clause-fault g c =
    MatchResult-weaker c.read_digits.result c.read_digits.ensures.leaves (λ found h. h) (λ e h. ap (λ z. option_or z (range_fault g.T.Integer.TYPE c.args.head.is_negative (numeral_in c.args.format.now c.args.head.is_prefixed c.args.head.radix c.args.bytes.now c.args.head.start))) (c.in_default.ensures.none refl) ∙ h)
