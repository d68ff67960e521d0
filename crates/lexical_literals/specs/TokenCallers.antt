-- What callers ask of the tokens of a source.
use Rattle.std.specs.Prelude.{ℕ, Bool, true, false, List, Option, find, option_map}
use Rattle.lexical_literals.specs.Tokens.{TokenView, tokens}
use Rattle.lexical_literals.specs.declared.Kind.{Kind}
use Rattle.lexical_literals.specs.declared.Kind.TheVariants.{Number, Word, Byte, Fault}

-- whether a kind is a number
abbrev pub is_number_kind : Kind → Bool
is_number_kind (Number value) = true
is_number_kind Word = false
is_number_kind Byte = false
is_number_kind (Fault fault) = false

-- whether a token is a number
abbrev pub is_number_token : TokenView → Bool
is_number_token token = is_number_kind token.kind

-- whether a kind is a fault
abbrev pub is_fault_kind : Kind → Bool
is_fault_kind (Number value) = false
is_fault_kind Word = false
is_fault_kind Byte = false
is_fault_kind (Fault fault) = true

-- the place of the first token that is a fault
abbrev pub first_fault_place : List TokenView → Option ℕ
first_fault_place tokens =
    option_map (λ token. token.start) (find (λ token. is_fault_kind token.kind) tokens)
