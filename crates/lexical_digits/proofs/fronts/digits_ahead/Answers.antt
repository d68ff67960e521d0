use Rattle.std.proofs.Common.{arith}
use Rattle.lexical_digits.proofs.AsciiDigits.{digits_from_ascii}
use Rattle.lexical_digits.proofs.DigitStops.{begins_digits}
use Rattle.lexical_digits.proofs.fronts.digits_ahead.Goals as goal

pub returns : goal.returns
returns c =
    let found = begins_digits 8 c.args.word in
    record { few = found.few; digits = digits_from_ascii 10 _ (omega arith) found.digits; stops = found.stops }
