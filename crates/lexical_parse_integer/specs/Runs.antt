-- Digits and separators in a text: which separators pass, where the numeral ends, and where its digits stand.
-- The radix is the effective one. The numeral's region goes from start to the text's end, and `is_prefixed` says
-- whether it lies behind a prefix.
use Rattle.std.specs.Prelude.{ℕ, ◌+◌, ◌-◌, Bool, true, false, ◌&&◌, ◌||◌, ◌==◌, nat_lt, List, length, filter, Option, Some, None, option_and_then, is_some, slice_get}
use Rattle.std.specs.List.{range_with_len, prefix_len, suffix_len}
use Rattle.lexical_util.specs.Format.{Format}
use Rattle.lexical_util.specs.Digit.{digit}

-- ---- stretches of places

-- the greatest place, at most `to`, such that all places from `from` to before it pass
abbrev pub stop_of : (ℕ → Bool) → ℕ → ℕ → ℕ
stop_of passes from to = from + prefix_len passes (range_with_len from (to - from))

-- the least place, at least `from`, such that all places from it to before `to` pass
unfoldable pub begin_of : (ℕ → Bool) → ℕ → ℕ → ℕ
begin_of passes from to = to - suffix_len passes (range_with_len from (to - from))

-- ---- digits and separators

-- the value of the digit at a place
unfoldable pub digit_at : ℕ → List ℕ → ℕ → Option ℕ
digit_at radix text place = option_and_then (λ byte. digit radix byte) (slice_get text place)

-- a byte is wanted, and it is the one that stands there
unfoldable pub are_same : Option ℕ → Option ℕ → Bool
are_same (Some wanted) (Some byte) = byte == wanted
are_same (Some wanted) None = false
are_same None byte = false

-- whether a separator stands at a place
unfoldable pub separator_at : Format → List ℕ → ℕ → Bool
separator_at format text place = are_same format.digit_separator (slice_get text place)

-- ---- runs of separators

-- where the run of the separator at a place begins: the run is the longest stretch of separators in the region
-- that holds the place
abbrev pub run_begin : Format → List ℕ → ℕ → ℕ → ℕ
run_begin format text start place = begin_of (separator_at format text) start place

-- the place behind that run
abbrev pub run_stop : Format → List ℕ → ℕ → ℕ
run_stop format text place = stop_of (separator_at format text) place (length text)

-- whether leading runs may stand in a region: everywhere by the one flag, and behind a prefix by the other too
abbrev pub admits_leading : Format → Bool → Bool
admits_leading format is_prefixed =
    format.integer_leading_digit_separator || (format.integer_prefix_digit_separator && is_prefixed)

-- the flag that a run needs, by whether a digit stands before it in the region, and whether one stands behind it
unfoldable pub flag_for : Format → Bool → Bool → Bool → Bool
flag_for format is_prefixed true true = format.integer_internal_digit_separator
flag_for format is_prefixed false true = admits_leading format is_prefixed
flag_for format is_prefixed true false = format.integer_trailing_digit_separator
flag_for format is_prefixed false false =
    admits_leading format is_prefixed || format.integer_trailing_digit_separator

-- whether the run from one place to before another passes: it is one separator long or more are allowed, and the
-- flag that its neighbours ask for is set
unfoldable pub run_passes : Format → Bool → ℕ → List ℕ → ℕ → ℕ → ℕ → Bool
run_passes format is_prefixed radix text start from to =
    (format.integer_consecutive_digit_separator || (to == from + 1))
    && flag_for format is_prefixed (nat_lt start from && is_some (digit_at radix text (from - 1)))
    (is_some (digit_at radix text to))

-- whether the run of the separator at a place passes
abbrev pub is_in_passing_run : Format → Bool → ℕ → List ℕ → ℕ → ℕ → Bool
is_in_passing_run format is_prefixed radix text start place =
    run_passes format is_prefixed radix text start (run_begin format text start place)
    (run_stop format text place)

-- ---- the numeral's end, and its digits

-- whether a place holds a digit, or a separator whose run passes
unfoldable pub is_in_numeral : Format → Bool → ℕ → List ℕ → ℕ → ℕ → Bool
is_in_numeral format is_prefixed radix text start place =
    is_some (digit_at radix text place)
    || (separator_at format text place
    && is_in_passing_run format is_prefixed radix text start place)

-- the numeral's end: the greatest place such that each place from start to before it belongs
unfoldable pub end_of : Format → Bool → ℕ → List ℕ → ℕ → ℕ
end_of format is_prefixed radix text start =
    stop_of (is_in_numeral format is_prefixed radix text start) start (length text)

-- the places of digits from one place to before another, in rising order
unfoldable pub digits_between : ℕ → List ℕ → ℕ → ℕ → List ℕ
digits_between radix text from to =
    filter (λ place. is_some (digit_at radix text place)) (range_with_len from (to - from))

-- the places of the numeral's digits
abbrev pub places : Format → Bool → ℕ → List ℕ → ℕ → List ℕ
places format is_prefixed radix text start =
    digits_between radix text start (end_of format is_prefixed radix text start)
