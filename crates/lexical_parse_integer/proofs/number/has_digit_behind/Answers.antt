use Rattle.lexical_parse_integer.proofs.reading.DigitBehindHead.{digit_first, none_first}
use Rattle.lexical_parse_integer.proofs.number.has_digit_behind.Goals as goal

pub returns-in-Digit : goal.returns-in-Digit
returns-in-Digit c = digit_first _ _ c.args.bytes.now _ _ c.requires.sound _ _ c.in-Digit.ensures

pub returns-in-End : goal.returns-in-End
returns-in-End c = none_first _ _ c.args.bytes.now _ _ c.requires.sound _ c.in-End.ensures
