use Rattle.std.proofs.Common.{◌^◌, ℕ, false, List, sym, subst, arith}
use Rattle.std.proofs.Math.IntN.{pos}
use Rattle.std.proofs.lemmas.Bool.{lt-ltb}
use Rattle.lexical_util.specs.Number.{IsNumber, integer_type}
use Rattle.lexical_util.specs.Compare.{pos-injective}
use Rattle.lexical_parse_integer.specs.Laws.{IsNumeralOf}
use Rattle.lexical_parse_integer.proofs.ForCallers.{view_same}
use Rattle.library_tests.proofs.tests.parser.laws.read_back.Goals as goal

pub returns : goal.returns
returns c =
    let fits : IsNumber (integer_type 64 false) (pos c.args.value) = lt-ltb c.args.value (2 ^ 64) (omega arith) in
    let written : IsNumeralOf 10 (pos c.args.value) c.args.text.now =
    subst (λ (text : List ℕ). IsNumeralOf 10 (pos c.args.value) text) (sym c.requires)
    (c.numerals.ensures.printed (integer_type 64 false) (pos c.args.value) (omega arith) fits) in
    view_same pos pos-injective _ _ (c.numeral.ensures.law (pos c.args.value) fits written)
