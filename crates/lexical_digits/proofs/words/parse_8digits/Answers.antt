use Rattle.std.proofs.Common.{◌∙◌, ◌-◌, ◌≤◌, arith}
use Rattle.std.proofs.lemmas.Nat.{mul-le}
use Rattle.lexical_digits.specs.Words.{word_bytes}
use Rattle.lexical_digits.proofs.AsciiDigits.{ascii_from_digits, ascii_value_is}
use Rattle.lexical_digits.proofs.WordProducts.{parse_8}
use Rattle.lexical_digits.proofs.words.parse_8digits.Goals as goal

pub returns : goal.returns
returns c =
    parse_8 c.args.radix c.args.v c.requires.greatest (omega arith) (ascii_from_digits c.args.radix (word_bytes 8 c.args.v) c.requires.greatest c.requires.digits)
    ∙ ascii_value_is c.args.radix (word_bytes 8 c.args.v)

pub overflow_mul-pairs : goal.overflow_mul-pairs
overflow_mul-pairs c =
    let digits = ascii_from_digits c.args.radix (word_bytes 8 c.args.v) c.requires.greatest c.requires.digits in
    let small : c.args.v - 3472328296227680304 ≤ 651061555542690057 = omega arith in
    let most = mul-le (c.args.v - 3472328296227680304) c.args.radix 651061555542690057 10 small c.requires.greatest in
    record { fits = omega arith }

pub overflow_add-pairs : goal.overflow_add-pairs
overflow_add-pairs c =
    let digits = ascii_from_digits c.args.radix (word_bytes 8 c.args.v) c.requires.greatest c.requires.digits in
    let small : c.args.v - 3472328296227680304 ≤ 651061555542690057 = omega arith in
    let most = mul-le (c.args.v - 3472328296227680304) c.args.radix 651061555542690057 10 small c.requires.greatest in
    record { fits = omega arith }
