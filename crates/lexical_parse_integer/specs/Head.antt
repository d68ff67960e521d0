-- What stands before a numeral: its sign and its prefix.
use Rattle.std.specs.Prelude.{ℕ, ◌+◌, Bool, true, false, ◌&&◌, ◌||◌, if◌then◌else◌, ◌==◌, List, slice_get, Option, Some, None, Result, Ok, Err}
use Rattle.lexical_util.specs.Ascii.{minus, plus}
use Rattle.lexical_util.specs.declared.error.Error.{Error}
use Rattle.lexical_util.specs.declared.error.Error.TheVariants.{MissingSign, InvalidPositiveSign}
use Rattle.lexical_util.specs.Format.{Format}
use Rattle.lexical_util.specs.Number.{IntegerType}
use Rattle.lexical_parse_integer.specs.Affixes.{bare_radix, octal_zero_at, prefix_radix}

-- what a text without a sign gives
abbrev pub no_sign : Format → Result (Bool × ℕ) Error
no_sign format = if format.required_mantissa_sign then Err (MissingSign 0) else Ok (false, 0)

-- what the first byte of a text says of its sign
abbrev pub sign_by : Format → IntegerType → Option ℕ → Result (Bool × ℕ) Error
sign_by format type None = no_sign format
sign_by format type (Some byte) =
    if byte == plus
    then (if format.no_positive_mantissa_sign then Err (InvalidPositiveSign 0) else Ok (false, 1))
    else (if (byte == minus) && type.is_signed then Ok (true, 1) else no_sign format)

-- whether a text has a minus, and how many bytes its sign has: the first byte alone decides
unfoldable pub sign : Format → IntegerType → List ℕ → Result (Bool × ℕ) Error
sign format type text = sign_by format type (slice_get text 0)

-- Whether a text has a minus, whether a prefix or an octal zero stands behind its sign, where the region of its numeral
-- starts, and the effective radix there.
pub record Head : Type 0 where
  pub is_negative : Bool
  pub is_prefixed : Bool
  pub is_octal : Bool
  pub start : ℕ
  pub radix : ℕ

-- whether the text chooses its radix: by a prefix, or by an octal zero
abbrev pub chooses_radix : Head → Bool
chooses_radix head = head.is_prefixed || head.is_octal

-- the head of a text with this sign, and with a prefix that puts an effective radix, or none
abbrev pub head_behind : Format → List ℕ → Bool × ℕ → Option ℕ → Head
head_behind format text sign_read None = record {
  is_negative = sign_read.0;
  is_prefixed = false;
  is_octal = octal_zero_at format text sign_read.1;
  start = sign_read.1;
  radix = bare_radix format text sign_read.1;
}
head_behind format text sign_read (Some radix) = record {
  is_negative = sign_read.0;
  is_prefixed = true;
  is_octal = false;
  start = sign_read.1 + 2;
  radix = radix;
}

-- the head of a text by what its sign is
abbrev pub head_after : Format → List ℕ → Result (Bool × ℕ) Error → Result Head Error
head_after format text (Ok sign_read) =
    Ok (head_behind format text sign_read (prefix_radix format text sign_read.1))
head_after format text (Err error) = Err error

-- what stands before the numeral of a text, or the fault of its sign
unfoldable pub head_of : Format → IntegerType → List ℕ → Result Head Error
head_of format type text = head_after format text (sign format type text)
