-- Ledgers: lines of a name, a space or a tab, and an amount in cents.
use Rattle.std.specs.Prelude.{ℕ, ◌+◌, Bool, true, ◌||◌, ◌==◌, List, [], ◌∷◌, take, drop, map, fold, position, ℤ, pos, ◌+ℤ◌, Option, Some, None, Result, Ok, Err}
use Rattle.std.specs.Option.{ok_or}
use Rattle.std.specs.Result.{result_map_both}
use Rattle.std.specs.Str.Lines.{lines}
use Rattle.lexical_util.specs.Ascii.{space, tab}
use Rattle.lexical_util.specs.Format.{standard}
use Rattle.lexical_util.specs.Number.{number_if_fits, integer_type}
use Rattle.lexical_parse_integer.specs.Grammar.{complete}
use Rattle.uses.specs.Each.{each}
use Rattle.uses.specs.declared.ledger.Entry.{Entry}
use Rattle.uses.specs.declared.ledger.LineError.{LineError}
use Rattle.uses.specs.declared.ledger.LineError.TheVariants.{NoAmount, Amount}
use Rattle.uses.specs.declared.ledger.LedgerError.{LedgerError}
use Rattle.uses.specs.declared.ledger.LedgerError.TheVariants.{Line, OutOfRange}

-- ---- lines

-- whether a byte is a space or a tab
abbrev pub is_blank : ℕ → Bool
is_blank byte = (byte == space) || (byte == tab)

-- the name and the amount of a line whose first blank stands at this place
abbrev pub entry_by : List ℕ → Option ℕ → Result (List ℕ × ℤ) LineError
entry_by line None = Err NoAmount
entry_by line (Some end) =
    result_map_both (λ cents. (take end line, cents)) (Amount (end + 1))
    (complete standard (integer_type 64 true) (drop (end + 1) line))

-- the name and the amount of a line
abbrev pub entry_in : List ℕ → Result (List ℕ × ℤ) LineError
entry_in line = entry_by line (position is_blank line)

-- an entry as the program has it
abbrev pub view_of_entry : Entry → List ℕ × ℤ
view_of_entry entry = (entry.name.now, entry.cents)

-- ---- the total

-- what a line adds to the total: nothing where it is empty
abbrev pub cents_in : List ℕ → Result ℤ LineError
cents_in [] = Ok (pos 0)
cents_in (byte ∷ bytes) = result_map_both (λ entry. entry.1) (λ e. e) (entry_in (byte ∷ bytes))

-- the sum of amounts, where it is a number of `i64`, or the first line that has none
abbrev pub total_of : Result (List ℤ) (ℕ × LineError) → Result ℤ LedgerError
total_of (Ok amounts) =
    ok_or (number_if_fits (integer_type 64 true) (fold ◌+ℤ◌ (pos 0) amounts)) OutOfRange
total_of (Err fault) = Err (Line fault.0 fault.1)

-- the sum of the amounts of a ledger
abbrev pub total_in : List ℕ → Result ℤ LedgerError
total_in text = total_of (each (map cents_in (lines text)))
