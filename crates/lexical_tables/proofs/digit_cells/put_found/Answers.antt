use Rattle.std.proofs.Common.{subst, take}
use Rattle.std.specs.Prelude.{IfSome}
use Rattle.lexical_util.specs.Format.{Format}
use Rattle.lexical_tables.specs.Codes.{IsDecimal, IsNumeralUnder, has_zero_rule}
use Rattle.lexical_tables.proofs.digit_cells.put_found.Goals as goal

pub returns-clause-put : goal.returns-clause-put
returns-clause-put g c = λ did. record {
  is_negative = c.in-Some.is_negative;
  number = c.in-Some.number;
  numeral = subst (λ found. IfSome found (λ it. (format : Format) → IsDecimal format (has_zero_rule c.args.code)
      → IsNumeralUnder format it.0 it.1 (take c.args.size c.args.ahead.now))) c.in-Some.is c.requires.numeral;
  fits = c.put_number.ensures.fits did;
  minus = c.put_number.ensures.minus did;
  put = c.put_number.ensures.target did;
}
