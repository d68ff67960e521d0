-- What reading a literal does: what is answered, and the number and the places that the caller then has.
use Rattle.std.specs.Prelude.{ℕ, ℤ, Bool, ◌==◌, ◌&&◌, pos, List, [], ◌∷◌, find, is_some, map, Result, Ok, Err, Option, if◌then◌else◌}
use Rattle.std.specs.List.{list_all}
use Rattle.std.specs.Option.{unwrap_or}
use Rattle.lexical_util.specs.Faults.{place_of}
use Rattle.lexical_util.specs.declared.error.Error.{Error}
use Rattle.lexical_literals.specs.Literals.{literal_in_front_if_valid}
use Rattle.lexical_literals.specs.TypedLiterals.{SuffixView, typed_literal_if_valid}
use Rattle.lexical_literals.specs.declared.literal.Literal.{Literal}
use Rattle.lexical_literals.specs.declared.suffixes.IntegerKind.{IntegerKind}
use Rattle.lexical_literals.specs.declared.suffixes.IntegerKind.TheVariants.{U8, U16, U32, U64, U128, Usize, I8, I16, I32, I64, I128, Isize}
use Rattle.lexical_literals.specs.declared.typed.LiteralError.{LiteralError}
use Rattle.lexical_literals.specs.declared.typed.LiteralError.TheVariants.{Number, UnknownSuffix}
use Rattle.lexical_literals.specs.declared.typed.TypedLiteral.{TypedLiteral}
use Rattle.jadvolni.specs.Effect.{fault_place, fault_status, unknown_field}
use Rattle.jadvolni.specs.FormatFields.{are_known, format_of}
use Rattle.jadvolni.specs.declared.format.FormatFields.{FormatFields}
use Rattle.jadvolni.specs.declared.literals.SuffixFields.{SuffixFields}
use Rattle.jadvolni.specs.declared.outcome.Outcome.{Outcome}

-- A status, a place, and what the caller has afterwards: the number, and where the suffix begins.
pub record LiteralEffect : Type 0 where
  pub status : ℕ
  pub place : ℕ
  pub number : ℤ
  pub suffix : ℕ

-- what a call did, by its result and by what is behind the two pointers
abbrev pub literal_effect : Outcome → ℤ → ℕ → LiteralEffect
literal_effect result number suffix =
    record { status = result.status; place = result.place; number = number; suffix = suffix }

-- the effect of a literal, and of a fault, which leaves what was there before
abbrev pub effect_of_literal : ℤ → ℕ → Result Literal Error → LiteralEffect
effect_of_literal number suffix (Ok literal) = record {
  status = 0;
  place = literal.stop;
  number = pos literal.value;
  suffix = literal.number_stop;
}
effect_of_literal number suffix (Err error) = record {
  status = fault_status error;
  place = fault_place (place_of error);
  number = number;
  suffix = suffix;
}

-- reading the literal in front of a text under a format, where these were there
abbrev pub literal_call : FormatFields → List ℕ → ℤ → ℕ → LiteralEffect
literal_call fields text number suffix =
    if are_known fields
    then effect_of_literal number suffix (literal_in_front_if_valid (format_of fields) text)
    else record { status = unknown_field; place = 0; number = number; suffix = suffix }

-- ---- tables of suffixes

-- the code of a kind of integers
abbrev pub code_of : IntegerKind → ℕ
code_of U8 = 1
code_of U16 = 2
code_of U32 = 3
code_of U64 = 4
code_of U128 = 5
code_of Usize = 6
code_of I8 = 7
code_of I16 = 8
code_of I32 = 9
code_of I64 = 10
code_of I128 = 11
code_of Isize = 12

-- every kind of integers
abbrev pub kinds : List IntegerKind
kinds = U8 ∷ U16 ∷ U32 ∷ U64 ∷ U128 ∷ Usize ∷ I8 ∷ I16 ∷ I32 ∷ I64 ∷ I128 ∷ Isize ∷ []

-- the kind with a code
abbrev pub kind_coded : ℕ → Option IntegerKind
kind_coded code = find (λ kind. code == code_of kind) kinds

-- an entry names a type, and its bytes that are kept for later versions are 0
abbrev pub is_suffix_known : SuffixFields → Bool
is_suffix_known entry = is_some (kind_coded entry.code) && (entry.reserved == 0)

-- each entry of a table is known
abbrev pub are_suffixes_known : List SuffixFields → Bool
are_suffixes_known table = list_all is_suffix_known table

-- an entry as the library sees it; one without a type is never asked for it
abbrev pub suffix_view : SuffixFields → SuffixView
suffix_view entry =
    record { text = entry.text.now; kind = unwrap_or (kind_coded entry.code) U8 }

-- ---- literals with a type

-- the status of a suffix that no entry has
abbrev pub unknown_suffix : ℕ
unknown_suffix = 23

-- the status of a table of which an entry isn't known
abbrev pub invalid_suffix_table : ℕ
invalid_suffix_table = 24

-- the status of a fault of a literal
abbrev pub status_of_literal : LiteralError → ℕ
status_of_literal (Number error) = fault_status error
status_of_literal (UnknownSuffix place) = unknown_suffix

-- its place, and 0 where it has none
abbrev pub place_of_literal : LiteralError → ℕ
place_of_literal (Number error) = fault_place (place_of error)
place_of_literal (UnknownSuffix place) = place

-- A status, a place, and what the caller has afterwards: the number, where the suffix begins, and the index of the
-- table's entry with that suffix.
pub record TypedEffect : Type 0 where
  pub status : ℕ
  pub place : ℕ
  pub number : ℤ
  pub suffix : ℕ
  pub entry : ℕ

-- what a call did, by its result and by what is behind the three pointers
abbrev pub typed_effect : Outcome → ℤ → ℕ → ℕ → TypedEffect
typed_effect result number suffix entry = record {
  status = result.status;
  place = result.place;
  number = number;
  suffix = suffix;
  entry = entry;
}

-- a status and a place, where what was there before is left
abbrev pub leaves_typed : ℕ → ℕ → ℤ → ℕ → ℕ → TypedEffect
leaves_typed status place number suffix entry =
    record { status = status; place = place; number = number; suffix = suffix; entry = entry }

-- the effect of a literal with a type, and of a fault, which leaves what was there before
abbrev pub effect_of_typed : ℤ → ℕ → ℕ → Result TypedLiteral LiteralError → TypedEffect
effect_of_typed number suffix entry (Ok literal) = record {
  status = 0;
  place = literal.stop;
  number = pos literal.value;
  suffix = literal.number_stop;
  entry = literal.entry;
}
effect_of_typed number suffix entry (Err error) =
    leaves_typed (status_of_literal error) (place_of_literal error) number suffix entry

-- reading the literal in front of a text with the type that its suffix names in a table, where these were there
abbrev pub typed_call : FormatFields → List SuffixFields → List ℕ → ℤ → ℕ → ℕ → TypedEffect
typed_call fields table text number suffix entry =
    if are_known fields
    then (if are_suffixes_known table
    then effect_of_typed number suffix entry
    (typed_literal_if_valid (format_of fields) (map suffix_view table) text)
    else leaves_typed invalid_suffix_table 0 number suffix entry)
    else leaves_typed unknown_field 0 number suffix entry
