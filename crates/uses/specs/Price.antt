-- Prices in front of texts: which text has which amount in cents, and what stands behind it.
use Rattle.std.specs.Prelude.{ℕ, true, false, List, drop, ℤ, Some, Result}
use Rattle.lexical_util.specs.Ascii.{full_stop}
use Rattle.lexical_util.specs.declared.error.Error.{Error}
use Rattle.lexical_util.specs.Format.{standard}
use Rattle.lexical_util.specs.Number.{integer_type}
use Rattle.lexical_parse_integer.specs.Answer.{view_of}
use Rattle.lexical_fixed.specs.Fixed.{Fixed}
use Rattle.lexical_fixed.specs.Grammar.{partial_fixed}
use Rattle.uses.specs.declared.price.Price.{Price}

-- amounts with two places behind a `,` (44), and a `.` between groups of digits
abbrev pub amounts : Fixed
amounts = record {
  integer = record standard {
    digit_separator = Some full_stop;
    integer_internal_digit_separator = true;
  };
  point = 44;
  places = 2;
  takes_fewer = false;
}

-- the amount that a text begins with, and what stands behind it
abbrev pub price_in : List ℕ → Result (ℤ × List ℕ) Error
price_in text =
    view_of (λ found. (found.0, drop found.1 text))
    (partial_fixed amounts (integer_type 64 true) text)

-- a price as the program has it
abbrev pub view_of_price : Price → ℤ × List ℕ
view_of_price price = (price.cents, price.rest.now)
