-- Prefix, octal zero and suffix of a numeral.
use Rattle.std.specs.Prelude.{ℕ, ◌+◌, Bool, false, ◌&&◌, ◌==◌, nat_lt, if◌then◌else◌, List, length, Option, Some, None, slice_get}
use Rattle.lexical_util.specs.Ascii.{digit_zero, letter_b, letter_o, letter_x}
use Rattle.lexical_util.specs.Format.{Format}
use Rattle.lexical_util.specs.Validity.{lower_case}
use Rattle.lexical_parse_integer.specs.Runs.{are_same, end_of, places}

-- whether a byte matches a prefix or suffix, with or without regard to ASCII case
unfoldable pub matches : Bool → ℕ → ℕ → Bool
matches is_case_sensitive affix byte =
    if is_case_sensitive then byte == affix
    else lower_case byte == lower_case affix

-- whether a prefix or suffix is set, and the byte that stands there matches it
unfoldable pub is_affix : Bool → Option ℕ → Option ℕ → Bool
is_affix is_case_sensitive (Some affix) (Some byte) = matches is_case_sensitive affix byte
is_affix is_case_sensitive (Some affix) None = false
is_affix is_case_sensitive None byte = false

-- the effective radix behind the letter of a literal prefix: 16 for `x`, 8 for `o` and 2 for `b`
unfoldable pub literal_radix : Bool → Option ℕ → Option ℕ
literal_radix is_case_sensitive byte =
    if is_affix is_case_sensitive (Some letter_x) byte then Some 16
    else (if is_affix is_case_sensitive (Some letter_o) byte then Some 8
    else (if is_affix is_case_sensitive (Some letter_b) byte then Some 2
    else None))

-- the effective radix behind a zero and a byte, where the two are a prefix: the format's own leaves its radix
unfoldable pub named_radix : Format → Option ℕ → Option ℕ
named_radix format byte =
    if is_affix format.case_sensitive_base_prefix format.base_prefix byte
    then Some format.mantissa_radix
    else (if format.literal_prefixes then literal_radix format.case_sensitive_base_prefix byte
    else None)

-- the effective radix behind the prefix at a place, where one stands there: a zero, and the byte directly behind it
unfoldable pub prefix_radix : Format → List ℕ → ℕ → Option ℕ
prefix_radix format text place =
    if are_same (Some digit_zero) (slice_get text place)
    then named_radix format (slice_get text (place + 1)) else None

-- whether a zero stands at a place, and the format says that one in front makes a numeral octal
unfoldable pub octal_zero_at : Format → List ℕ → ℕ → Bool
octal_zero_at format text place =
    format.literal_octal_zero && are_same (Some digit_zero) (slice_get text place)

-- the effective radix in a region without a prefix: 8 where an octal zero stands at its start, and else the format's
abbrev pub bare_radix : Format → List ℕ → ℕ → ℕ
bare_radix format text start = if octal_zero_at format text start then 8 else format.mantissa_radix

-- whether the suffix stands at a place
unfoldable pub suffix_at : Format → List ℕ → ℕ → Bool
suffix_at format text place =
    is_affix format.case_sensitive_base_suffix format.base_suffix (slice_get text place)

-- where reading stops: at the numeral's end, or behind the suffix there where the numeral has a digit
unfoldable pub numeral_stop : Format → Bool → ℕ → List ℕ → ℕ → ℕ
numeral_stop format is_prefixed radix text start =
    if nat_lt 0 (length (places format is_prefixed radix text start))
    && suffix_at format text (end_of format is_prefixed radix text start)
    then end_of format is_prefixed radix text start + 1
    else end_of format is_prefixed radix text start
