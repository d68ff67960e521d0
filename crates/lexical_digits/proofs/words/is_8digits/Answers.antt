use Rattle.lexical_digits.specs.Words.{word_bytes}
use Rattle.lexical_digits.proofs.AsciiDigits.{ascii_from_digits, digits_from_ascii}
use Rattle.lexical_digits.proofs.DigitTest.{is_digits}
use Rattle.lexical_digits.proofs.words.is_8digits.Goals as goal

pub returns : goal.returns
returns c =
    let told = is_digits c.args.radix 8 c.args.v c.requires.greatest in
    let ten = c.requires.greatest in
    ((λ t. digits_from_ascii c.args.radix (word_bytes 8 c.args.v) ten (told.0 t)), (λ d. told.1 (ascii_from_digits c.args.radix (word_bytes 8 c.args.v) ten d)))
