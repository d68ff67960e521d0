-- Formats that read decimal digits alone as the standard one does.
use Rattle.std.specs.Prelude.{◌≡◌, ◌&&◌, ◌||◌, ◌==◌, ℕ, Bool, List, false, None, is_some, slice_index}
use Rattle.lexical_util.specs.Ascii.{digit_zero}
use Rattle.lexical_util.specs.Format.{Format}
use Rattle.lexical_parse_integer.specs.Runs.{digit_at, separator_at}

-- A format in radix 10 that asks for no sign, and has no prefix of its own and no suffix. It may forbid a zero in front
-- of another digit, or read it as octal; it may have a separator, and literal prefixes.
pub record ReadsDecimals (format : Format) : Type 0 where
  pub radix : format.mantissa_radix ≡ 10
  pub no_sign : format.required_mantissa_sign ≡ false
  pub no_prefix : format.base_prefix ≡ None
  pub no_suffix : format.base_suffix ≡ None

-- whether a text begins with a zero in front of another digit or a separator, and the format has a rule for zeros in
-- front: it forbids them, or reads them as octal
abbrev pub zero_leads : Format → List ℕ → Bool
zero_leads format text =
    ((slice_index text 0 == digit_zero)
    && (format.no_integer_leading_zeros || format.literal_octal_zero))
    && (is_some (digit_at 10 text 1) || separator_at format text 1)
