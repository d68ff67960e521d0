-- What a line asks for.
use Rattle.std.specs.Prelude.{ℕ, ◌+◌, Bool, true, false, List, [], ◌∷◌, codes, Option, None, Some, if◌then◌else◌, ◌==◌, take, drop, find, option_and_then, option_map, position}
use Rattle.std.specs.Str.{bytes_eq}
use Rattle.lexical_util.specs.Ascii.{space}
use Rattle.lexical_util.specs.Number.{IntegerType, integer_type}
use Rattle.answer_lines.specs.Field.{change_in, field_named}
use Rattle.answer_lines.specs.declared.command.TypeName.{TypeName}
use Rattle.answer_lines.specs.declared.command.TypeName.TheVariants.{U8, U16, U32, U64, U128, Usize, I8, I16, I32, I64, I128, Isize}
use Rattle.answer_lines.specs.declared.field.Change.{Change}

-- ---- the integer types

-- the name of an integer type
abbrev pub type_name : TypeName → List ℕ
type_name U8 = codes "u8"
type_name U16 = codes "u16"
type_name U32 = codes "u32"
type_name U64 = codes "u64"
type_name U128 = codes "u128"
type_name Usize = codes "usize"
type_name I8 = codes "i8"
type_name I16 = codes "i16"
type_name I32 = codes "i32"
type_name I64 = codes "i64"
type_name I128 = codes "i128"
type_name Isize = codes "isize"

-- every integer type
abbrev pub type_names : List TypeName
type_names = U8 ∷ U16 ∷ U32 ∷ U64 ∷ U128 ∷ Usize ∷ I8 ∷ I16 ∷ I32 ∷ I64 ∷ I128 ∷ Isize ∷ []

-- the integer type of a name
abbrev pub type_named : List ℕ → Option TypeName
type_named name = find (λ type. bytes_eq name (type_name type)) type_names

-- its width and sign
abbrev pub type_of : TypeName → IntegerType
type_of U8 = integer_type 8 false
type_of U16 = integer_type 16 false
type_of U32 = integer_type 32 false
type_of U64 = integer_type 64 false
type_of U128 = integer_type 128 false
type_of Usize = integer_type 64 false
type_of I8 = integer_type 8 true
type_of I16 = integer_type 16 true
type_of I32 = integer_type 32 true
type_of I64 = integer_type 64 true
type_of I128 = integer_type 128 true
type_of Isize = integer_type 64 true

-- ---- lines

-- What a line asks for: a complete or a partial parse of a text, its tokens, a change of the
-- settings, or the standard ones.
pub data Command : Type 0 where
  parse_complete : TypeName → List ℕ → Command
  parse_partial : TypeName → List ℕ → Command
  list_tokens : List ℕ → Command
  change : Change → Command
  reset : Command

-- whether a byte is a space
abbrev pub is_space : ℕ → Bool
is_space byte = byte == space

-- a text cut at its first space, which is in neither part
abbrev pub parts : List ℕ → Option (List ℕ × List ℕ)
parts text = option_map (λ end. (take end text, drop (end + 1) text)) (position is_space text)

-- the integer type that a text names, and what comes after the name and a space
abbrev pub type_and_text : List ℕ → Option (TypeName × List ℕ)
type_and_text text =
    option_and_then (λ (name, rest). option_map (λ type. (type, rest)) (type_named name))
    (parts text)

-- a parse of that text as that type
abbrev pub parse_in : (TypeName → List ℕ → Command) → List ℕ → Option Command
parse_in parse text = option_map (λ (type, rest). parse type rest) (type_and_text text)

-- the change of the field that a text names, to the value that stands behind the name and a space
abbrev pub change_named : List ℕ → Option Change
change_named text =
    option_and_then (λ (name, value).
    option_and_then (λ field. change_in field value) (field_named name)) (parts text)

-- what a letter and the text behind it and a space ask for
abbrev pub command_of : List ℕ × List ℕ → Option Command
command_of (letter, text) =
    if bytes_eq letter (codes "c") then parse_in parse_complete text
    else (if bytes_eq letter (codes "p") then parse_in parse_partial text
    else (if bytes_eq letter (codes "t") then Some (list_tokens text)
    else (if bytes_eq letter (codes "f") then option_map change (change_named text)
    else None)))

-- what a line asks for, where it is one of the kinds of line
abbrev pub command_in : List ℕ → Option Command
command_in line =
    if bytes_eq line (codes "r") then Some reset else option_and_then command_of (parts line)
