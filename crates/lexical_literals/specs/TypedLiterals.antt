-- Literals whose suffix names their type: `300u8`, `1_000i64`, `0xFFull`.
use Rattle.std.specs.Prelude.{◌≡◌, ◌≤◌, ℕ, ◌+◌, ◌==◌, ℤ, pos, nat_abs, List, [], ◌∷◌, drop, length, take, Option, Some, None, IfSome, IsNone, Result, Ok, Err, if◌then◌else◌, false, true}
use Rattle.std.specs.Result.{IsErr}
use Rattle.std.specs.Str.{bytes_eq}
use Rattle.lexical_util.specs.Format.{Format}
use Rattle.lexical_util.specs.Number.{IntegerType, integer_type}
use Rattle.lexical_util.specs.Validity.{fault}
use Rattle.lexical_util.specs.declared.error.Error.{Error}
use Rattle.lexical_util.specs.declared.error.Error.TheVariants.{Empty, InvalidDigit}
use Rattle.lexical_parse_integer.specs.CursorView.{CursorView, numeral_end}
use Rattle.lexical_parse_integer.specs.Fronts.{number_in_front_if_valid}
use Rattle.lexical_parse_integer.specs.Grammar.{after_head, fault_if, first_fault_or, if_valid, prefix_fault, zero_fault}
use Rattle.lexical_parse_integer.specs.Head.{Head, chooses_radix, head_of}
use Rattle.lexical_parse_integer.specs.Numeral.{digit_count, numeral_behind}
use Rattle.lexical_literals.specs.Groups.{has_digit}
use Rattle.lexical_literals.specs.Tokens.{word_length}
use Rattle.lexical_literals.specs.declared.suffixes.IntegerKind.{IntegerKind}
use Rattle.lexical_literals.specs.declared.suffixes.IntegerKind.TheVariants.{U8, U16, U32, U64, U128, Usize, I8, I16, I32, I64, I128, Isize}
use Rattle.lexical_literals.specs.declared.typed.Front.{Front}
use Rattle.lexical_literals.specs.declared.typed.LiteralError.{LiteralError}
use Rattle.lexical_literals.specs.declared.typed.LiteralError.TheVariants.{Number, UnknownSuffix}
use Rattle.lexical_literals.specs.declared.typed.TypedLiteral.{TypedLiteral}

-- ---- tables of suffixes

-- the width and the sign of a kind of integers
abbrev pub type_of : IntegerKind → IntegerType
type_of U8 = integer_type 8 false
type_of U16 = integer_type 16 false
type_of U32 = integer_type 32 false
type_of U64 = integer_type 64 false
type_of U128 = integer_type 128 false
type_of Usize = integer_type 64 false
type_of I8 = integer_type 8 true
type_of I16 = integer_type 16 true
type_of I32 = integer_type 32 true
type_of I64 = integer_type 64 true
type_of I128 = integer_type 128 true
type_of Isize = integer_type 64 true

-- An entry of a table: a suffix, and the kind of integers that it names.
pub record SuffixView : Type 0 where
  pub text : List ℕ
  pub kind : IntegerKind

-- the first entry with a suffix, byte for byte: its number, where entries are counted from an index on, and its kind
abbrev pub entry_from : List ℕ → ℕ → List SuffixView → Option (ℕ × IntegerKind)
entry_from suffix index [] = None
entry_from suffix index (entry ∷ more) =
    if bytes_eq entry.text suffix then Some (index, entry.kind)
    else entry_from suffix (index + 1) more

-- the first entry of a table with a suffix
abbrev pub entry_of : List ℕ → List SuffixView → Option (ℕ × IntegerKind)
entry_of suffix table = entry_from suffix 0 table

-- ---- where a number stops

-- where the numeral behind a head stops; or its fault, which is that of each type that it may be read as
abbrev pub stop_behind : Format → List ℕ → Head → Result ℕ Error
stop_behind format text head =
    let numeral = numeral_behind format text head in
    first_fault_or
    (prefix_fault text head ∷ zero_fault format (chooses_radix head) numeral
    ∷ fault_if (digit_count numeral == 0) (Empty numeral.stop) ∷ [])
    numeral.stop

-- where the number in front of a text stops, whatever its size
unfoldable pub number_stop : Format → List ℕ → Result ℕ Error
number_stop format text =
    after_head (head_of format (integer_type 128 false) text) (stop_behind format text)

-- where the number in front of a text stops, where the format is valid
abbrev pub number_stop_if_valid : Format → List ℕ → Result ℕ Error
number_stop_if_valid format text = if_valid (fault format) (number_stop format text)

-- the number in front of a text of up to 128 bits
abbrev pub wide_number : Format → List ℕ → Result (ℤ × ℕ) Error
wide_number format text = number_in_front_if_valid format (integer_type 128 false) text

-- What is known of the number in front of a text: where it stops, and its value, or that 128 bits have no room for it.
pub record IsFront (format : Format) (text : List ℕ) (front : Front) : Type 0 where
  pub stop : number_stop_if_valid format text ≡ Ok front.stop
  pub value : IfSome front.value (λ value. wide_number format text ≡ Ok (pos value, front.stop))
  pub no_room : IsNone front.value → IsErr (wide_number format text)
  pub within : front.stop ≤ length text

-- ---- cursors over a number

-- A cursor stands behind the head of a text, before all digits.
pub record StandsBehindHead (format : Format) (text : List ℕ) (cursor : CursorView) : Type 0 where
  pub head : Head
  pub head_is : head_of format (integer_type 128 false) text ≡ Ok head
  pub bytes : cursor.bytes ≡ text
  pub under : cursor.format ≡ format
  pub prefixed : cursor.is_prefixed ≡ head.is_prefixed
  pub radix : cursor.radix ≡ head.radix
  pub start : cursor.start ≡ head.start
  pub still_open : cursor.closed ≡ false

-- A cursor has gone on to the end of its numeral.
pub record StandsAtEnd (old new : CursorView) : Type 0 where
  pub bytes : new.bytes ≡ old.bytes
  pub under : new.format ≡ old.format
  pub prefixed : new.is_prefixed ≡ old.is_prefixed
  pub radix : new.radix ≡ old.radix
  pub start : new.start ≡ old.start
  pub still_open : new.closed ≡ false
  pub at_end : new.position ≡ numeral_end new

-- ---- literals

-- the suffix that stands behind a number: the bytes of a word there
abbrev pub suffix_at : List ℕ → ℕ → List ℕ
suffix_at text stop = take (word_length (drop stop text)) (drop stop text)

-- a literal of an entry's kind, by what the number in front is as an integer of that kind
abbrev pub typed_by : List ℕ → ℕ → ℕ × IntegerKind → Result (ℤ × ℕ) Error
    → Result TypedLiteral LiteralError
typed_by text stop (entry, kind) (Ok found) = Ok (record {
  value = nat_abs found.0;
  kind = kind;
  entry = entry;
  number_stop = stop;
  stop = stop + word_length (drop stop text);
})
typed_by text stop entry (Err error) = Err (Number error)

-- a literal by the entry of its suffix: the entry's kind judges the number's range
abbrev pub typed_as : Format → List ℕ → ℕ → Option (ℕ × IntegerKind)
    → Result TypedLiteral LiteralError
typed_as format text stop None = Err (UnknownSuffix stop)
typed_as format text stop (Some entry) =
    typed_by text stop entry (number_in_front_if_valid format (type_of entry.1) text)

-- a literal of a text by a table: no decimal digit stands directly behind its number, and its suffix has an entry
abbrev pub typed_literal : Format → List SuffixView → List ℕ → ℕ → Result TypedLiteral LiteralError
typed_literal format table text stop =
    if has_digit 10 text stop then Err (Number (InvalidDigit stop))
    else typed_as format text stop (entry_of (suffix_at text stop) table)

-- what follows the place where a number stops, or the number's fault
abbrev pub after_number : Result ℕ Error → (ℕ → Result TypedLiteral LiteralError)
    → Result TypedLiteral LiteralError
after_number (Ok stop) typed = typed stop
after_number (Err error) typed = Err (Number error)

-- the literal in front of a text with its type, where the format is valid
abbrev pub typed_literal_if_valid : Format → List SuffixView → List ℕ
    → Result TypedLiteral LiteralError
typed_literal_if_valid format table text =
    after_number (number_stop_if_valid format text) (typed_literal format table text)
