-- The tokens of a source: numbers, words and single bytes.
use Rattle.std.specs.Prelude.{◌≡◌, ℕ, zero, suc, ◌+◌, ◌-◌, ◌<◌, ◌≤◌, Bool, true, false, ◌||◌, ◌==◌, if◌then◌else◌, List, [], ◌∷◌, length, take, drop, slice_range, slice_index, Some, is_some, Result, Ok, Err, nat_abs}
use Rattle.std.specs.Char.{is_ascii_alphanumeric}
use Rattle.std.specs.List.{prefix_len}
use lib.IntN.{ℤ}
use Rattle.lexical_util.specs.Ascii.{carriage_return, line_feed, space, tab, underscore}
use Rattle.lexical_util.specs.declared.error.Error.{Error}
use Rattle.lexical_util.specs.Digit.{digit}
use Rattle.lexical_util.specs.Format.{Format, standard}
use Rattle.lexical_util.specs.Number.{integer_type}
use Rattle.lexical_util.specs.Validity.{fault}
use Rattle.lexical_parse_integer.specs.Grammar.{if_valid, partial}
use Rattle.lexical_literals.specs.declared.Kind.{Kind}
use Rattle.lexical_literals.specs.declared.Kind.TheVariants.{Number, Word, Byte, Fault}
use Rattle.lexical_literals.specs.declared.Token.{Token}

-- ---- bytes

-- whether a byte is skipped between tokens: a tab, a line feed, a carriage return or a space
abbrev pub is_skipped : ℕ → Bool
is_skipped byte =
    ((byte == tab) || (byte == line_feed)) || ((byte == carriage_return) || (byte == space))

-- whether a byte is one of a word: an ASCII letter, `0` to `9` or `_`
abbrev pub is_word_byte : ℕ → Bool
is_word_byte byte = is_ascii_alphanumeric byte || (byte == underscore)

-- ---- one token

-- the format of literals: in radix 10, or in the one that `0x`, `0o` or `0b` chooses, with any number of `_` between
-- two digits
abbrev pub literals : Format
literals = record standard {
  digit_separator = Some underscore;
  integer_internal_digit_separator = true;
  integer_consecutive_digit_separator = true;
  literal_prefixes = true;
}

-- how many bytes of a word a text begins with
abbrev pub word_length : List ℕ → ℕ
word_length text = prefix_len is_word_byte text

-- the number or the fault that a text begins with, by how its front is parsed, and how many bytes
-- that has: a fault goes over the bytes of a word
abbrev pub number_by : List ℕ → Result (ℤ × ℕ) Error → Kind × ℕ
number_by text (Ok found) = (Number (nat_abs found.0), found.1)
number_by text (Err fault) = (Fault fault, word_length text)

-- what a text begins with whose first byte is a digit of the format's radix, and how many bytes that has
unfoldable pub number_of : Format → List ℕ → Kind × ℕ
number_of format text = number_by text (partial format (integer_type 128 false) text)

-- what a text begins with, by its first byte, and how many bytes that has: a number begins with a digit of the format's
-- radix, and with nothing else
abbrev pub front_of : Format → List ℕ → Kind × ℕ
front_of format text =
    if is_some (digit format.mantissa_radix (slice_index text 0)) then number_of format text
    else (if is_word_byte (slice_index text 0) then (Word, word_length text)
    else (Byte, 1))

-- A token: what it is, the place at which it starts, the place behind it, and its bytes.
pub record TokenView : Type 0 where
  pub kind : Kind
  pub start : ℕ
  pub stop : ℕ
  pub text : List ℕ

-- the token that the first `size` bytes of a text are, where the text stands at `start`
abbrev pub token_of : ℕ → List ℕ → Kind × ℕ → TokenView
token_of start text (kind, size) =
    record { kind = kind; start = start; stop = start + size; text = take size text }

-- the token that a text begins with under a format, where the text stands at a place
abbrev pub token_at : Format → ℕ → List ℕ → TokenView
token_at format start text = token_of start text (front_of format text)

-- ---- all tokens

-- the tokens of a text that stands at `start`, whose first `taken` bytes belong to the token before
-- it
abbrev pub tokens_from : Format → ℕ → ℕ → List ℕ → List TokenView
tokens_from format start taken [] = []
tokens_from format start (suc taken) (byte ∷ rest) = tokens_from format (start + 1) taken rest
tokens_from format start zero (byte ∷ rest) =
    if is_skipped byte then tokens_from format (start + 1) 0 rest
    else token_at format start (byte ∷ rest)
    ∷ tokens_from format (start + 1) ((front_of format (byte ∷ rest)).1 - 1) rest

-- the tokens of a source under a format
abbrev pub tokens_under : Format → List ℕ → List TokenView
tokens_under format source = tokens_from format 0 0 source

-- the tokens of a source, with the numbers of literals
abbrev pub tokens : List ℕ → List TokenView
tokens source = tokens_under literals source

-- the tokens of a source where the format is valid, and else the fault of its first broken rule
abbrev pub tokens_if_valid : Format → List ℕ → Result (List TokenView) Error
tokens_if_valid format source = if_valid (fault format) (Ok (tokens_under format source))

-- a token as the program has it, with its bytes
abbrev pub view_of_token : Token → TokenView
view_of_token token =
    record { kind = token.kind; start = token.start; stop = token.stop; text = token.text.now }

-- ---- what the tokens of a source are

-- all bytes of a source from one place to before another are skipped
abbrev pub AreSkipped : List ℕ → ℕ → ℕ → Type 0
AreSkipped source from to =
    (place : ℕ) → from ≤ place → place < to → is_skipped (slice_index source place) ≡ true

-- A token begins at the first place from `from` on whose byte isn't skipped, and is what the source
-- begins with there.
pub record BeginsNext (format : Format) (source : List ℕ) (from : ℕ) (token : TokenView)
    : Type 0 where
  pub behind : from ≤ token.start
  pub between : AreSkipped source from token.start
  pub here : is_skipped (slice_index source token.start) ≡ false
  pub token_is : token ≡ token_at format token.start (drop token.start source)

-- from a place of a source on, each token begins next after the one before it, and after the last one all is skipped
abbrev pub FollowUnder : Format → List ℕ → ℕ → List TokenView → Type 0
FollowUnder format source from [] = AreSkipped source from (length source)
FollowUnder format source from (token ∷ more) =
    BeginsNext format source from token × FollowUnder format source token.stop more

-- each token begins next after the one before it, with the numbers of literals
abbrev pub FollowInTurn : List ℕ → ℕ → List TokenView → Type 0
FollowInTurn source from tokens = FollowUnder literals source from tokens

-- a token isn't empty, and its bytes are the source from its start to before its stop
pub record IsPartOf (source : List ℕ) (token : TokenView) : Type 0 where
  pub some : token.start < token.stop
  pub within : token.stop ≤ length source
  pub bytes : token.text ≡ slice_range source token.start token.stop
