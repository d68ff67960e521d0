-- The numbers in the columns of a row, one column at a time.
use Rattle.std.proofs.Common.{◌≡◌, ◌∙◌, ℕ, ◌+◌, ◌<◌, List, length, get_or, take, refl, sym, ap, add-one, zero-add, Ok, Err, Some, arith}
use Rattle.std.proofs.Math.IntN.{ℤ}
use Rattle.std.proofs.lemmas.List.{take_all, take_more_set}
use Rattle.std.proofs.lemmas.List.FromFn.{get_or-range_with_len, length-map-range_with_len, length-range_with_len}
use Rattle.std.proofs.lemmas.List.Sums.{sum_by_more}
use Rattle.std.proofs.lemmas.Option.{slice_get-get_or, slice_get-map}
use Rattle.std.proofs.Math.ListN.{set}
use Rattle.std.specs.Prelude.{option_map, slice_get}
use Rattle.std.specs.List.{range_with_len}
use Rattle.lexical_util.specs.declared.error.Error.{Error}
use Rattle.uses.specs.Each.{each}
use Rattle.uses.specs.FixedWidth.{column_number, numbers_in, values_or_fault, start_of}
use Rattle.uses.specs.declared.fixed_width.RowError.TheVariants.{Column}
use Rattle.uses.proofs.EachLemmas.{each_fault, each_more}

-- the columns before this one are read, and hold these first values
abbrev pub AreRead : List ℕ → List ℕ → ℕ → List ℤ → Type 0
AreRead widths row column values = each (take column (numbers_in widths row)) ≡ Ok (take column values)

-- the next column starts where this one ends
pub start_more : (widths : List ℕ) (column : ℕ) → column < length widths
    → start_of widths (column + 1) ≡ start_of widths column + get_or widths column 0
start_more widths column inside = sum_by_more (λ x. x) widths column 0 inside

number_at : (widths row : List ℕ) (column : ℕ) → column < length widths
    → slice_get (numbers_in widths row) column ≡ Some (column_number widths row column)
number_at widths row column inside =
    let size = length-range_with_len 0 (length widths) in
    let there : slice_get (range_with_len 0 (length widths)) column ≡ Some column =
    slice_get-get_or (range_with_len 0 (length widths)) column 0 (omega arith)
    ∙ ap Some (get_or-range_with_len 0 (length widths) column 0 inside ∙ zero-add column) in
    slice_get-map (column_number widths row) (range_with_len 0 (length widths)) column
    ∙ ap (option_map (column_number widths row)) there

pub read_more : (widths row : List ℕ) (column : ℕ) (values : List ℤ) (value put : ℤ)
    → AreRead widths row column values → column < length widths → column < length values
    → column_number widths row column ≡ Ok value → put ≡ value
    → AreRead widths row (column + 1) (set values column put)
read_more widths row column values value put read inside room e same =
    let more = each_more (numbers_in widths row) column (take column values) value read
    (number_at widths row column inside ∙ ap Some e) in
    let front = take_more_set values column value room in
    rw (same, front, add-one) more

pub read_fault : (widths row : List ℕ) (column start : ℕ) (values : List ℤ) (e : Error)
    → AreRead widths row column values → column < length widths → start ≡ start_of widths column
    → column_number widths row column ≡ Err e
    → values_or_fault widths (each (numbers_in widths row)) ≡ Err (Column column start e)
read_fault widths row column start values e read inside at fault =
    let first = each_fault (numbers_in widths row) column (take column values) e read
    (number_at widths row column inside ∙ ap Some fault) in
    rw (first, at) refl

pub read_all : (widths row : List ℕ) (column : ℕ) (values : List ℤ)
    → AreRead widths row column values → column ≡ length widths → length values ≡ length widths
    → values_or_fault widths (each (numbers_in widths row)) ≡ Ok values
read_all widths row column values read last size =
    let numbers = length-map-range_with_len (column_number widths row) 0 (length widths) in
    let whole : take column (numbers_in widths row) ≡ numbers_in widths row = take_all _ _ (omega arith) in
    let all : take column values ≡ values = take_all _ values (omega arith) in
    let found : each (numbers_in widths row) ≡ Ok values = sym (ap each whole) ∙ read ∙ ap Ok all in
    ap (values_or_fault widths) found
