-- How far a parser has come in a text.
use Rattle.std.specs.Prelude.{◌≡◌, ◌⊎◌, ℕ, ◌+◌, ◌-◌, ◌*◌, ◌≤◌, ◌<◌, Bool, true, false, List, ℤ, None, IsNone, IsTrue, Ok}
use Rattle.lexical_util.specs.Format.{Format}
use Rattle.lexical_util.specs.Number.{IntegerType, is_number, overflow_digits}
use Rattle.lexical_parse_integer.specs.CursorView.{CursorView, IsSound, numeral_of}
use Rattle.lexical_parse_integer.specs.Folded.{Folded}
use Rattle.lexical_parse_integer.specs.Grammar.{prefix_fault, zero_fault, range_fault}
use Rattle.lexical_parse_integer.specs.Head.{Head, chooses_radix, head_of}
use Rattle.lexical_parse_integer.specs.Numeral.{Numeral, numeral_behind, digit_count, front_value, numeral_value}
use Rattle.lexical_parse_integer.specs.Turns.{AsksWords, turns_bound, digits_per_word}

-- a cursor in a numeral that is read up to a position, one digit after another
abbrev pub view_at : Format → Bool → ℕ → List ℕ → ℕ → ℕ → ℕ → CursorView
view_at format is_prefixed radix text start position digits = record {
  bytes = text;
  format = format;
  is_prefixed = is_prefixed;
  radix = radix;
  start = start;
  position = position;
  digits = digits;
  closed = false;
  turns = digits;
  identity = 0;
}

-- the values of the first `count` fronts are numbers of the type
abbrev pub FrontsFit : IntegerType → Bool → Numeral → ℕ → Type 0
FrontsFit type is_negative numeral count =
    (index : ℕ) → index < count
    → is_number type (front_value is_negative numeral (index + 1)) ≡ true

-- a value is that of the first `read` digits, and each front so far is a number of the type
pub record Reads (type : IntegerType) (is_negative : Bool) (numeral : Numeral) (read : ℕ)
    (value : ℤ) : Type 0 where
  pub count : read ≤ digit_count numeral
  pub front : value ≡ front_value is_negative numeral read
  pub fit : FrontsFit type is_negative numeral read

-- a cursor has gone on in its numeral
pub record MovesOn (old new : CursorView) : Type 0 where
  pub bytes : new.bytes ≡ old.bytes
  pub format : new.format ≡ old.format
  pub prefixed : new.is_prefixed ≡ old.is_prefixed
  pub radix : new.radix ≡ old.radix
  pub start : new.start ≡ old.start
  pub identity : new.identity ≡ old.identity
  pub closed : new.closed ≡ false
  pub sound : Folded (IsSound new)

-- a value is that of the digits read so far, and more of them may follow
pub record IsReading (type : IntegerType) (is_negative : Bool) (cursor : CursorView) (value : ℤ)
    : Type 0 where
  pub still_open : cursor.closed ≡ false
  pub sound : Folded (IsSound cursor)
  pub minus : is_negative ≡ true → type.is_signed ≡ true
  pub reads : Reads type is_negative (numeral_of cursor) cursor.digits value

-- a cursor has gone on, and a value is that of the digits read so far
pub record ReadsOn (type : IntegerType) (is_negative : Bool) (old new : CursorView) (value : ℤ)
    : Type 0 where
  pub reads : Reads type is_negative (numeral_of old) new.digits value
  pub goes_on : MovesOn old new

-- no digit of a numeral was read yet
pub record IsAtNumeral (cursor : CursorView) : Type 0 where
  pub still_open : cursor.closed ≡ false
  pub sound : Folded (IsSound cursor)
  pub none : cursor.digits ≡ 0

-- a cursor looked for the first digit, and took digits where it had to: one turn a digit, and
-- without a separator at most one
pub record LooksAhead (old new : CursorView) : Type 0 where
  pub goes_on : MovesOn old new
  pub turns : new.turns ≡ old.turns + new.digits
  pub count : new.digits ≤ digit_count (numeral_of old)
  pub one : IsNone old.format.digit_separator → new.digits ≤ 1

-- no zero in front is at fault, and a value is that of the digits read so far: without a separator these are none, or
-- all, which are one at most
pub record ReadsFirst (type : IntegerType) (is_negative radix_chosen : Bool) (old new : CursorView)
    (value : ℤ) : Type 0 where
  pub reads : Reads type is_negative (numeral_of old) new.digits value
  pub no_zeros : zero_fault old.format radix_chosen (numeral_of old) ≡ None
  pub lone : IsNone old.format.digit_separator
      → (new.digits ≡ 0) ⊎ (digit_count (numeral_of old) ≤ 1)

-- words of `word` digits are read while there is room for them, one turn a word: then there is no
-- room for another word, or none is left
pub record ReadsWords (type : IntegerType) (is_negative : Bool) (word room : ℕ)
    (old new : CursorView) (value : ℤ) : Type 0 where
  pub reads : Reads type is_negative (numeral_of old) new.digits value
  pub goes_on : MovesOn old new
  pub turns : new.digits + word * old.turns ≡ old.digits + word * new.turns
  pub within : (new.digits ≡ old.digits) ⊎ (new.digits ≤ room)
  pub ended : (room < new.digits + word) ⊎ (digit_count (numeral_of old) < new.digits + word)

-- all digits are read, their value is a number of the type, and a cursor stands at the numeral's end
pub record ReadsAll (type : IntegerType) (is_negative : Bool) (old new : CursorView) (value : ℤ)
    : Type 0 where
  pub value_is : value ≡ numeral_value is_negative (numeral_of old)
  pub fits : range_fault type is_negative (numeral_of old) ≡ None
  pub at_end : new.position ≡ (numeral_of old).ends
  pub all : new.digits ≡ digit_count (numeral_of old)

-- all digits are read, and no zero in front is at fault
pub record ReadsNumeral (type : IntegerType) (is_negative radix_chosen : Bool)
    (old new : CursorView) (value : ℤ) : Type 0 where
  pub no_zeros : zero_fault old.format radix_chosen (numeral_of old) ≡ None
  pub all : ReadsAll type is_negative old new value

-- where no digit was read before, or the numeral has at most one, a turn for each digit that is
-- left stays within the bound for words that are taken from the first `room` digits
pub record LeavesFewTurns (bits room : ℕ) (old new : CursorView) : Type 0 where
  pub few : old.turns ≡ old.digits → (old.digits ≡ 0) ⊎ (digit_count (numeral_of old) ≤ 1)
      → new.turns + (digit_count (numeral_of old) - new.digits)
      ≤ turns_bound (digits_per_word bits) room (digit_count (numeral_of old))

-- one turn a digit where no words may be taken; where they are asked for, few turns, with one more
-- for each digit that is left
pub record LeavesTurns (bits : ℕ) (type : IntegerType) (no_multi_digit : Bool)
    (old new : CursorView) : Type 0 where
  pub each : IsTrue no_multi_digit → new.turns + old.digits ≡ old.turns + new.digits
  pub few : AsksWords bits no_multi_digit old.format → old.radix ≤ 10
      → LeavesFewTurns bits (overflow_digits type old.radix) old new

-- once no digit is left: one turn a digit where no words may be taken, and few turns where they are asked for
pub record KeepsTurns (bits : ℕ) (type : IntegerType) (no_multi_digit : Bool)
    (old new : CursorView) : Type 0 where
  pub each : IsTrue no_multi_digit → new.turns + old.digits ≡ old.turns + new.digits
  pub few : AsksWords bits no_multi_digit old.format → old.radix ≤ 10
      → old.turns ≡ old.digits → (old.digits ≡ 0) ⊎ (digit_count (numeral_of old) ≤ 1)
      → new.turns ≤ turns_bound (digits_per_word bits) (overflow_digits type old.radix)
      (digit_count (numeral_of old))

-- a cursor is over this text and under this format, and what is true of each cursor is true of it
pub record IsOver (text : List ℕ) (under : Format) (cursor : CursorView) : Type 0 where
  pub bytes : cursor.bytes ≡ text
  pub format : cursor.format ≡ under
  pub sound : IsSound cursor

-- sign and prefix are read, or it is known that an octal zero stands there
pub record IsAtHead (under : Format) (type : IntegerType) (text : List ℕ)
    (is_negative is_prefixed is_octal : Bool) (cursor : CursorView) : Type 0 where
  pub head_is : head_of under type text
      ≡ Ok (record {
        is_negative = is_negative;
        is_prefixed = is_prefixed;
        is_octal = is_octal;
        start = cursor.start;
        radix = cursor.radix;
      })
  pub prefixed : cursor.is_prefixed ≡ is_prefixed
  pub bytes : cursor.bytes ≡ text
  pub format : cursor.format ≡ under
  pub at_start : cursor.position ≡ cursor.start
  pub closed : cursor.closed ≡ false
  pub no_digit : cursor.digits ≡ 0
  pub no_turn : cursor.turns ≡ 0
  pub minus : is_negative ≡ true → type.is_signed ≡ true

-- sign, prefix, numeral and suffix are read, and there was no fault
pub record IsRead (under : Format) (type : IntegerType) (text : List ℕ) (value : ℤ)
    (cursor : CursorView) : Type 0 where
  pub head : Head
  pub head_is : head_of under type text ≡ Ok head
  pub no_prefix_fault : prefix_fault text head ≡ None
  pub no_zero_fault : zero_fault under (chooses_radix head) (numeral_behind under text head)
      ≡ None
  pub no_range_fault : range_fault type head.is_negative (numeral_behind under text head)
      ≡ None
  pub value_is : value ≡ numeral_value head.is_negative (numeral_behind under text head)
  pub bytes : cursor.bytes ≡ text
  pub format : cursor.format ≡ under
  pub at_stop : cursor.position ≡ (numeral_behind under text head).stop
  pub all_digits : cursor.digits ≡ digit_count (numeral_behind under text head)

-- a cursor stands where the reading of its text stops, with all digits counted
pub record StandsAtStop (format : Format) (type : IntegerType) (text : List ℕ)
    (cursor : CursorView) : Type 0 where
  pub head : Head
  pub head_is : head_of format type text ≡ Ok head
  pub at_stop : cursor.position ≡ (numeral_behind format text head).stop
  pub all_digits : cursor.digits ≡ digit_count (numeral_behind format text head)
