-- Rows of columns of fixed width.
use Rattle.std.specs.Prelude.{ℕ, ◌+◌, true, if◌then◌else◌, ◌==◌, List, length, take, map, slice_range, sum, ℤ, Result, Err}
use Rattle.std.specs.List.{range_with_len}
use Rattle.std.specs.Result.{result_map_both}
use Rattle.lexical_util.specs.Format.{standard}
use Rattle.lexical_util.specs.Number.{integer_type}
use Rattle.lexical_util.specs.declared.error.Error.{Error}
use Rattle.lexical_parse_integer.specs.Grammar.{complete}
use Rattle.uses.specs.Each.{each}
use Rattle.uses.specs.declared.fixed_width.RowError.{RowError}
use Rattle.uses.specs.declared.fixed_width.RowError.TheVariants.{Length, Column}

-- where a column starts: behind those before it
abbrev pub start_of : List ℕ → ℕ → ℕ
start_of widths column = sum (take column widths)

-- what a column of a row stands for
abbrev pub column_number : List ℕ → List ℕ → ℕ → Result ℤ Error
column_number widths row column =
    complete standard (integer_type 64 true)
    (slice_range row (start_of widths column) (start_of widths (column + 1)))

-- what the columns of a row stand for
abbrev pub numbers_in : List ℕ → List ℕ → List (Result ℤ Error)
numbers_in widths row = map (column_number widths row) (range_with_len 0 (length widths))

-- the numbers of all columns, or the first column that isn't read, with where it starts
abbrev pub values_or_fault : List ℕ → Result (List ℤ) (ℕ × Error) → Result (List ℤ) RowError
values_or_fault widths answer =
    result_map_both (λ values. values) (λ fault. Column fault.0 (start_of widths fault.0) fault.1)
    answer

-- the numbers in a row that is as long as its columns
abbrev pub values_in : List ℕ → List ℕ → Result (List ℤ) RowError
values_in widths row =
    if length row == sum widths then values_or_fault widths (each (numbers_in widths row))
    else Err (Length (sum widths) (length row))
