-- A grammar that makes integers: which texts are integers of a type under a format, and of which values.
-- Nothing here looks for a place in a text. A text is an integer where there are four parts that it is made of.
use Rattle.std.specs.Prelude.{◌≡◌, ◌≢◌, ◌<◌, ◌++◌, ◌||◌, ℕ, Bool, true, false, not, List, [], ◌∷◌, filter, map, replicate, Some, ℤ}
use Rattle.lexical_util.specs.Ascii.{digit_zero, minus, plus}
use Rattle.lexical_util.specs.Digit.{digit}
use Rattle.lexical_util.specs.Format.{Format}
use Rattle.lexical_util.specs.Number.{IntegerType, IsNumber}
use Rattle.lexical_parse_integer.specs.Affixes.{bare_radix, is_affix, named_radix, octal_zero_at}
use Rattle.lexical_parse_integer.specs.Runs.{are_same}
use Rattle.lexical_parse_integer.specs.Value.{positional_value, with_sign}

-- what may stand as a sign, and whether it is a minus
pub data IsSign (format : Format) (type : IntegerType) : List ℕ → Bool → Type 0 where
  no_sign : format.required_mantissa_sign ≡ false → IsSign format type [] false
  a_plus : format.no_positive_mantissa_sign ≡ false → IsSign format type (plus ∷ []) false
  a_minus : type.is_signed ≡ true → IsSign format type (minus ∷ []) true

-- what may stand as a prefix of a body, and the radix behind it
pub data IsPrefix (format : Format) (body : List ℕ) : List ℕ → ℕ → Type 0 where
  no_prefix : IsPrefix format body [] (bare_radix format body 0)
  a_prefix : (byte radix : ℕ) → named_radix format (Some byte) ≡ Some radix → body ≢ []
      → IsPrefix format body (digit_zero ∷ byte ∷ []) radix

-- what may stand as a suffix behind digits
pub data IsSuffix (format : Format) (digits : List ℕ) : List ℕ → Type 0 where
  no_suffix : IsSuffix format digits []
  a_suffix : (byte : ℕ) → digits ≢ []
      → is_affix format.case_sensitive_base_suffix format.base_suffix (Some byte) ≡ true
      → IsSuffix format digits (byte ∷ [])

-- whether a byte is the separator
abbrev pub is_separator : Format → ℕ → Bool
is_separator format byte = are_same format.digit_separator (Some byte)

-- A body has a run of `count` separators between two parts, and no other separator next to the run.
pub record HasRun (format : Format) (body before : List ℕ) (count : ℕ) (behind : List ℕ)
    : Type 0 where
  pub separator : ℕ
  pub is_set : format.digit_separator ≡ Some separator
  pub parts : body ≡ before ++ (replicate count separator ++ behind)
  pub some : 0 < count
  pub none_before : (front : List ℕ) → before ≢ front ++ separator ∷ []
  pub none_behind : (rest : List ℕ) → behind ≢ separator ∷ rest

-- whether leading separators may stand behind a prefix, or where there is none
abbrev pub may_lead : Format → List ℕ → Bool
may_lead format [] = format.integer_leading_digit_separator
may_lead format (byte ∷ prefix) =
    format.integer_leading_digit_separator || format.integer_prefix_digit_separator

-- whether separators may stand between two parts of the body behind a prefix
abbrev pub may_part : Format → List ℕ → List ℕ → List ℕ → Bool
may_part format prefix [] [] = may_lead format prefix || format.integer_trailing_digit_separator
may_part format prefix [] (byte ∷ behind) = may_lead format prefix
may_part format prefix (byte ∷ before) [] = format.integer_trailing_digit_separator
may_part format prefix (byte ∷ before) (other ∷ behind) = format.integer_internal_digit_separator

-- A body is digits of the radix, and behind a prefix runs of separators that may stand between them.
pub record IsBody (format : Format) (prefix : List ℕ) (radix : ℕ) (body digits : List ℕ) : Type 0
  where
    -- what is no separator is a digit
    pub bytes : map (λ byte. digit radix byte)
        (filter (λ byte. not (is_separator format byte)) body) ≡ map Some digits
    -- each run may stand where it is, and is of one separator where no more may follow each other
    pub runs : (before behind : List ℕ) (count : ℕ) → HasRun format body before count behind
        → may_part format prefix before behind ≡ true
    pub single : (before behind : List ℕ) (count : ℕ) → HasRun format body before count behind
        → format.integer_consecutive_digit_separator ≡ false → count ≡ 1

-- A text is an integer of a type under a format: a sign, a prefix, a body and a suffix, each of which may stand there.
pub record IsInteger (format : Format) (type : IntegerType) (text : List ℕ) (value : ℤ) : Type 0
  where
    pub sign : List ℕ
    pub prefix : List ℕ
    pub body : List ℕ
    pub suffix : List ℕ
    pub is_negative : Bool
    pub radix : ℕ
    pub digits : List ℕ
    pub parts : text ≡ sign ++ (prefix ++ (body ++ suffix))
    pub sign_may : IsSign format type sign is_negative
    pub prefix_may : IsPrefix format body prefix radix
    pub body_may : IsBody format prefix radix body digits
    pub suffix_may : IsSuffix format digits suffix
    -- a digit is there, where one has to be
    pub enough : (format.required_integer_digits || format.required_mantissa_digits) ≡ true
        → digits ≢ []
    -- no zero is in front of another digit, where that is forbidden and nothing names the radix
    pub zeros : format.no_integer_leading_zeros ≡ true → prefix ≡ []
        → octal_zero_at format body 0 ≡ false → (digit : ℕ) (rest : List ℕ)
        → digits ≢ 0 ∷ digit ∷ rest
    pub worth : value ≡ with_sign is_negative (positional_value radix digits)
    pub fits : IsNumber type value
