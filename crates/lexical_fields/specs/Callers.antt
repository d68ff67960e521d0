-- What callers of fields and columns answer.
use Rattle.std.specs.Prelude.{ℕ, false, List, map, sum, nat_abs, Result}
use Rattle.lexical_util.specs.Format.{standard}
use Rattle.lexical_util.specs.Number.{integer_type}
use Rattle.lexical_parse_integer.specs.Answer.{view_of}
use Rattle.lexical_fields.specs.Columns.{answer_of, numbers_of}
use Rattle.lexical_fields.specs.ReadFields.{ReadField, read_fields}
use Rattle.lexical_fields.specs.declared.columns.ColumnError.{ColumnError}

-- the fields of a text with the numbers of `u64` that they stand for
abbrev pub plain_fields : ℕ → List ℕ → List ReadField
plain_fields separator text = read_fields standard (integer_type 64 false) separator text

-- the sum of a column's numbers, as far as there is room for them
abbrev pub total : ℕ → ℕ → List ℕ → Result ℕ ColumnError
total room separator text =
    view_of (λ column. sum
    (map nat_abs (numbers_of standard (integer_type 64 false) room separator text)))
    (answer_of standard (integer_type 64 false) room separator text)
