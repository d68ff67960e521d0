use Rattle.std.proofs.Common.{◌∙◌, arith, rules}
use Rattle.lexical_digits.specs.Words.{word_bytes}
use Rattle.lexical_digits.proofs.AsciiDigits.{ascii_from_digits, ascii_value_is}
use Rattle.lexical_digits.proofs.WordProducts.{parse_4}
use Rattle.lexical_digits.proofs.words.parse_4digits.Goals as goal

pub returns : goal.returns
returns c =
    parse_4 c.args.radix c.args.v c.requires.greatest (omega arith) (ascii_from_digits c.args.radix (word_bytes 4 c.args.v) c.requires.greatest c.requires.digits)
    ∙ ascii_value_is c.args.radix (word_bytes 4 c.args.v)

pub overflow_mul-pairs : goal.overflow_mul-pairs
overflow_mul-pairs c =
    let digits = ascii_from_digits c.args.radix (word_bytes 4 c.args.v) c.requires.greatest c.requires.digits in
    search rules

pub overflow_add-pairs : goal.overflow_add-pairs
overflow_add-pairs c =
    let digits = ascii_from_digits c.args.radix (word_bytes 4 c.args.v) c.requires.greatest c.requires.digits in
    search rules

pub overflow_mul-result-2 : goal.overflow_mul-result-2
overflow_mul-result-2 c =
    let digits = ascii_from_digits c.args.radix (word_bytes 4 c.args.v) c.requires.greatest c.requires.digits in
    search rules

pub overflow_add-result : goal.overflow_add-result
overflow_add-result c =
    let digits = ascii_from_digits c.args.radix (word_bytes 4 c.args.v) c.requires.greatest c.requires.digits in
    search rules
