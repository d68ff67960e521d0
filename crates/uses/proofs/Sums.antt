-- The total of a ledger, one line at a time.
use Rattle.std.proofs.Common.{◌≡◌, ◌∙◌, ℕ, ◌+◌, ◌<◌, ◌≤◌, ◌==◌, List, ◌∷◌, [], ◌++◌, length, get_or, take, map, fold, pos, ◌+ℤ◌, refl, sym, ap, add-one, zero-add, Result, Ok, Err, Some, true, arith}
use Rattle.std.proofs.Math.IntN.{ℤ}
use Rattle.std.proofs.lemmas.List.{length-map, take_all}
use Rattle.std.proofs.lemmas.List.FromFn.{get_or-enumerate_from, length-enumerate_from}
use Rattle.std.proofs.lemmas.List.Splits.{length-slice_split}
use Rattle.std.proofs.lemmas.List.Sums.{count_by-le-length, fold-append}
use Rattle.std.proofs.lemmas.Bool.Decides.{nat_tests}
use Rattle.std.proofs.lemmas.Option.{slice_get-get_or, slice_get-map}
use Rattle.std.specs.Prelude.{IsOkAnd, option_map, slice_get}
use Rattle.std.specs.List.{enumerate_from, slice_split}
use Rattle.std.specs.Option.{ok_or}
use Rattle.std.specs.Str.Lines.{lines, lines_of_parts}
use Rattle.lexical_util.specs.Number.{number_if_fits, integer_type}
use Rattle.uses.specs.Each.{each}
use Rattle.uses.specs.Ledger.{cents_in, total_in, total_of}
use Rattle.uses.specs.declared.ledger.LedgerError.{LedgerError}
use Rattle.uses.specs.declared.ledger.LineError.{LineError}
use Rattle.uses.specs.declared.ledger.LedgerError.TheVariants.{Line, OutOfRange}
use Rattle.uses.proofs.EachLemmas.{each_fault, each_more}

-- the first `count` lines of a ledger can be read, and their amounts add up to `sum`
abbrev pub IsSum : List ℕ → ℕ → ℤ → Type 0
IsSum text count sum =
    IsOkAnd (each (take count (map cents_in (lines text))))
    (λ amounts. sum ≡ fold ◌+ℤ◌ (pos 0) amounts)

-- an item of numbered lines has its number, and is the line of that number
pub numbered : (all : List (List ℕ)) (n number : ℕ) (line : List ℕ)
    → (n < length (enumerate_from 0 all))
    × ((number, line) ≡ get_or (enumerate_from 0 all) n (number, line))
    → (number ≡ n) × (slice_get all n ≡ Some line)
numbered all n number line turn =
    let size = length-enumerate_from 0 all in
    let inside : n < length all = omega arith in
    let item : (number, line) ≡ (0 + n, get_or all n line) =
    turn.1 ∙ get_or-enumerate_from 0 all n (number, line) inside in
    let first : number ≡ 0 + n = ap (λ (p : ℕ × List ℕ). p.0) item in
    let second : line ≡ get_or all n line = ap (λ (p : ℕ × List ℕ). p.1) item in
    (first ∙ zero-add n, slice_get-get_or all n line inside ∙ ap Some (sym second))

answer_at : (text : List ℕ) (n : ℕ) (line : List ℕ) → slice_get (lines text) n ≡ Some line
    → slice_get (map cents_in (lines text)) n ≡ Some (cents_in line)
answer_at text n line there = slice_get-map cents_in (lines text) n ∙ ap (option_map cents_in) there

sum_by : (found : Result (List ℤ) (ℕ × LineError)) (sum : ℤ)
    → IsOkAnd found (λ amounts. sum ≡ fold ◌+ℤ◌ (pos 0) amounts)
    → (amounts : List ℤ) × (found ≡ Ok amounts) × (sum ≡ fold ◌+ℤ◌ (pos 0) amounts)
sum_by (Ok amounts) sum h = (amounts, refl, h)
sum_by (Err fault) sum h = absurd h

-- one more line that is read
pub sum_more : (text : List ℕ) (n number : ℕ) (line : List ℕ) (sum cents : ℤ) → IsSum text n sum
    → (n < length (enumerate_from 0 (lines text)))
    × ((number, line) ≡ get_or (enumerate_from 0 (lines text)) n (number, line))
    → cents_in line ≡ Ok cents → IsSum text (n + 1) (sum +ℤ cents)
sum_more text n number line sum cents h turn read =
    let told = sum_by _ sum h in
    let there = numbered (lines text) n number line turn in
    let more = each_more (map cents_in (lines text)) n told.0 cents told.1
    (answer_at text n line there.1 ∙ ap Some read) in
    let total : sum +ℤ cents ≡ fold ◌+ℤ◌ (pos 0) (told.0 ++ cents ∷ []) =
    ap (λ s. s +ℤ cents) told.2 ∙ sym (fold-append ◌+ℤ◌ (pos 0) told.0 (cents ∷ [])) in
    rw (add-one, more) total

-- the first line that isn't read
pub sum_fault : (text : List ℕ) (n number : ℕ) (line : List ℕ) (sum : ℤ) (e : LineError)
    → IsSum text n sum → (n < length (enumerate_from 0 (lines text)))
    × ((number, line) ≡ get_or (enumerate_from 0 (lines text)) n (number, line))
    → cents_in line ≡ Err e → Err (Line number e) ≡ total_in text
sum_fault text n number line sum e h turn read =
    let told = sum_by _ sum h in
    let there = numbered (lines text) n number line turn in
    let fault = each_fault (map cents_in (lines text)) n told.0 e told.1
    (answer_at text n line there.1 ∙ ap Some read) in
    rw (fault, there.0) refl

-- the same number of lines, and the same sum
pub sum_same : (text : List ℕ) (n m : ℕ) (sum other : ℤ) → IsSum text n sum → n ≡ m → other ≡ sum → IsSum text m other
sum_same text n m sum other h e e' = rw (← e, e') h

-- all lines are read
pub sum_end : (text : List ℕ) (n : ℕ) (sum : ℤ) (answer : Result ℤ LedgerError) → IsSum text n sum
    → n ≡ length (enumerate_from 0 (lines text))
    → answer ≡ ok_or (number_if_fits (integer_type 64 true) sum) OutOfRange → answer ≡ total_in text
sum_end text n sum answer h all e =
    let size = length-enumerate_from 0 (lines text) in
    let whole : take n (map cents_in (lines text)) ≡ map cents_in (lines text) =
    take_all n _ (omega (arith, length-map (lines text) cents_in)) in
    let told = sum_by _ sum h in
    let found : each (map cents_in (lines text)) ≡ Ok told.0 = sym (ap each whole) ∙ told.1 in
    e ∙ ap (λ total. ok_or (number_if_fits (integer_type 64 true) total) OutOfRange) told.2 ∙ sym (ap total_of found)

-- parts between line feeds are no fewer than lines
parts_most : (parts : List (List ℕ)) → length (lines_of_parts parts) ≤ length parts
parts_most [] = omega arith
parts_most (part ∷ []) = grind (arith, nat_tests)
parts_most (part ∷ next ∷ more) = let rest = parts_most (next ∷ more) in omega arith

-- a text has at most one line more than bytes
pub lines_most : (text : List ℕ) → length (lines text) ≤ length text + 1
lines_most text =
    omega (
      arith,
      parts_most (slice_split (λ b. b == 10) text),
      length-slice_split (λ (b : ℕ). b == 10) text,
      count_by-le-length (λ (b : ℕ). b == 10) text,
    )
