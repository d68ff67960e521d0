-- Targets, with one number more.
use Rattle.std.proofs.Common.{◌≡◌, ◌∙◌, ℕ, zero, suc, ◌<◌, ◌≤◌, List, [], ◌∷◌, ◌++◌, length, take, drop, set, get_or, Result, Option, Some, None, Ok, Err, refl, Bool, ap, ap₂, sym, arith, length-set}
use Rattle.std.specs.Prelude.{◌*◌, ◌/◌, ◌%◌, IfSome, is_some, option_map, unwrap_or}
use Rattle.lexical_fields.specs.Fields.{FieldView}
use Rattle.lexical_tables.specs.ByColumn.{AreUsable, IsUsable, answer_at, cell_answers, kind_of, kinds_of, put_read_at, put_read, put_row}
use Rattle.lexical_tables.specs.Cells.{Kind, answer_as}
use Rattle.lexical_tables.specs.Readings.{Value, blank}
use Rattle.lexical_tables.specs.Targets.{TargetView, with_bit, with_row_bit}
use Rattle.lexical_tables.specs.declared.answers.CellFault.{CellFault}
use Rattle.lexical_tables.specs.declared.dialect.Dialect.{Dialect}

-- a target that is set as the answer says
pub set_as_put : (row column : ℕ) (answer : Result (Option Value) CellFault) (targets : List (Option TargetView))
    (x d : Option TargetView) → column < length targets
    → option_map (put_read row answer) (get_or targets column d) ≡ x
    → set targets column x ≡ put_read_at row column answer targets
set_as_put row zero answer [] x d low is = absurd (omega arith)
set_as_put row (suc column) answer [] x d low is = absurd (omega arith)
set_as_put row zero answer (t ∷ ts) x d low is = ap (λ y. y ∷ ts) (sym is)
set_as_put row (suc column) answer (t ∷ ts) x d low is =
    ap (λ l. t ∷ l) (set_as_put row column answer ts x d (omega arith) is)

-- nothing is put: by a fault, without a target, and behind all of them
fault_puts : (row : ℕ) (fault : CellFault) (t : Option TargetView) → option_map (put_read row (Err fault)) t ≡ t
fault_puts row fault None = refl
fault_puts row fault (Some target) = refl

pub put_nothing : (row column : ℕ) (fault : CellFault) (targets : List (Option TargetView))
    → put_read_at row column (Err fault) targets ≡ targets
put_nothing row column fault [] = refl
put_nothing row zero fault (t ∷ ts) = ap (λ x. x ∷ ts) (fault_puts row fault t)
put_nothing row (suc column) fault (t ∷ ts) = ap (λ l. t ∷ l) (put_nothing row column fault ts)

pub put_unread : (row column : ℕ) (answer : Result (Option Value) CellFault) (targets : List (Option TargetView))
    (d : Option TargetView) → column < length targets → get_or targets column d ≡ None
    → put_read_at row column answer targets ≡ targets
put_unread row column answer [] d low is = refl
put_unread row zero answer (t ∷ ts) d low is = ap (λ x. x ∷ ts) (ap (option_map (put_read row answer)) is ∙ sym is)
put_unread row (suc column) answer (t ∷ ts) d low is = ap (λ l. t ∷ l) (put_unread row column answer ts d (omega arith) is)

pub put_beyond : (row column : ℕ) (answer : Result (Option Value) CellFault) (targets : List (Option TargetView))
    → length targets ≤ column → put_read_at row column answer targets ≡ targets
put_beyond row column answer [] high = refl
put_beyond row zero answer (t ∷ ts) high = absurd (omega arith)
put_beyond row (suc column) answer (t ∷ ts) high = ap (λ l. t ∷ l) (put_beyond row column answer ts (omega arith))

-- what the cell of a column stands for
module _ (dialect : Dialect) where
  pub answer_is : (kinds : List (Option Kind)) (column : ℕ) (cell : FieldView) (d : Option Kind) → column < length kinds
      → answer_at dialect kinds column cell ≡ answer_as dialect (get_or kinds column d) cell
  answer_is [] zero cell d low = absurd (omega arith)
  answer_is [] (suc column) cell d low = absurd (omega arith)
  answer_is (k ∷ ks) zero cell d low = refl
  answer_is (k ∷ ks) (suc column) cell d low = answer_is ks column cell d (omega arith)

  pub answer_beyond : (kinds : List (Option Kind)) (column : ℕ) (cell : FieldView) → length kinds ≤ column
      → answer_at dialect kinds column cell ≡ answer_as dialect None cell
  answer_beyond [] column cell high = refl
  answer_beyond (k ∷ ks) zero cell high = absurd (omega arith)
  answer_beyond (k ∷ ks) (suc column) cell high = answer_beyond ks column cell (omega arith)

  -- the cells from a column on
  pub answers_go : (kinds : List (Option Kind)) (column : ℕ) (cell : FieldView) (more : List FieldView)
      → cell_answers dialect (drop column kinds) (cell ∷ more)
      ≡ answer_at dialect kinds column cell ∷ cell_answers dialect (drop (suc column) kinds) more
  answers_go [] zero cell more = refl
  answers_go [] (suc column) cell more = refl
  answers_go (k ∷ ks) zero cell more = refl
  answers_go (k ∷ ks) (suc column) cell more = answers_go ks column cell more

-- what is put changes no kind
there_still : (f : List ℕ → List ℕ) (present : Option (List ℕ)) → is_some (option_map f present) ≡ is_some present
there_still f None = refl
there_still f (Some bytes) = refl

same_kind : (row : ℕ) (answer : Result (Option Value) CellFault) (target : Option TargetView)
    → option_map kind_of (option_map (put_read row answer) target) ≡ option_map kind_of target
same_kind row answer None = refl
same_kind row (Err fault) (Some target) = refl
same_kind row (Ok value) (Some target) =
    ap (λ may. Some (record (kind_of target) { may_miss = may }))
    (there_still (with_row_bit row (is_some value)) target.present)

pub kinds_put : (row column : ℕ) (answer : Result (Option Value) CellFault) (targets : List (Option TargetView))
    → kinds_of (put_read_at row column answer targets) ≡ kinds_of targets
kinds_put row column answer [] = refl
kinds_put row zero answer (t ∷ ts) = ap (λ k. k ∷ kinds_of ts) (same_kind row answer t)
kinds_put row (suc column) answer (t ∷ ts) =
    ap (λ l. option_map kind_of t ∷ l) (kinds_put row column answer ts)

pub kinds_put_row : (row : ℕ) (values : List (Option Value)) (targets : List (Option TargetView))
    → kinds_of (put_row row values targets) ≡ kinds_of targets
kinds_put_row row [] targets = refl
kinds_put_row row (v ∷ vs) [] = refl
kinds_put_row row (v ∷ vs) (t ∷ ts) = ap₂ (λ k l. k ∷ l) (same_kind row (Ok v) t) (kinds_put_row row vs ts)

-- a target stays usable
bits_stay : (room row : ℕ) (is_there : Bool) (present : Option (List ℕ))
    → IfSome present (λ bytes. room ≤ 8 * length bytes)
    → IfSome (option_map (with_row_bit row is_there) present) (λ bytes. room ≤ 8 * length bytes)
bits_stay room row is_there None enough = tt
bits_stay room row is_there (Some bytes) enough =
    omega (arith, enough, length-set bytes (row / 8) (with_bit (row % 8) is_there (get_or bytes (row / 8) 0)))

same_use : (room row : ℕ) (answer : Result (Option Value) CellFault) (target : Option TargetView) → IsUsable room target
    → IsUsable room (option_map (put_read row answer) target)
same_use room row answer None usable = tt
same_use room row (Err fault) (Some target) usable = usable
same_use room row (Ok value) (Some target) usable = (
  usable.0,
  omega (arith, usable.1, length-set target.values row (unwrap_or value (blank target.reading))),
  bits_stay room row (is_some value) target.present usable.2,
)

pub use_put : (room row column : ℕ) (answer : Result (Option Value) CellFault) (targets : List (Option TargetView))
    → AreUsable room targets → AreUsable room (put_read_at row column answer targets)
use_put room row column answer [] usable = usable
use_put room row zero answer (t ∷ ts) usable = (same_use room row answer t usable.0, usable.1)
use_put room row (suc column) answer (t ∷ ts) usable = (usable.0, use_put room row column answer ts usable.1)

pub use_put_row : (room row : ℕ) (values : List (Option Value)) (targets : List (Option TargetView)) → AreUsable room targets
    → AreUsable room (put_row row values targets)
use_put_row room row [] targets usable = usable
use_put_row room row (v ∷ vs) [] usable = usable
use_put_row room row (v ∷ vs) (t ∷ ts) usable =
    (same_use room row (Ok v) t usable.0, use_put_row room row vs ts usable.1)

fewer_bits : (less room : ℕ) (present : Option (List ℕ)) → less ≤ room
    → IfSome present (λ bytes. room ≤ 8 * length bytes) → IfSome present (λ bytes. less ≤ 8 * length bytes)
fewer_bits less room None low enough = tt
fewer_bits less room (Some bytes) low enough = omega (arith, enough)

less_use : (less room : ℕ) (target : Option TargetView) → less ≤ room → IsUsable room target → IsUsable less target
less_use less room None low usable = tt
less_use less room (Some target) low usable =
    (usable.0, omega (arith, low, usable.1), fewer_bits less room target.present low usable.2)

pub use_less : (less room : ℕ) (targets : List (Option TargetView)) → less ≤ room → AreUsable room targets
    → AreUsable less targets
use_less less room [] low usable = tt
use_less less room (t ∷ ts) low usable = (less_use less room t low usable.0, use_less less room ts low usable.1)

pub use_at : (room column : ℕ) (targets : List (Option TargetView)) (d : Option TargetView) → column < length targets
    → AreUsable room targets → IsUsable room (get_or targets column d)
use_at room zero [] d low usable = absurd (omega arith)
use_at room (suc column) [] d low usable = absurd (omega arith)
use_at room zero (t ∷ ts) d low usable = usable.0
use_at room (suc column) (t ∷ ts) d low usable = use_at room column ts d (omega arith) usable.1

-- a row's number is put, and those behind it are left to put
put_row_none : (row : ℕ) (values : List (Option Value)) → put_row row values [] ≡ []
put_row_none row [] = refl
put_row_none row (v ∷ vs) = refl

pub row_goes : (row column : ℕ) (value : Option Value) (values : List (Option Value)) (targets : List (Option TargetView))
    → take column targets ++ put_row row (value ∷ values) (drop column targets)
    ≡ take (suc column) (put_read_at row column (Ok value) targets)
    ++ put_row row values (drop (suc column) (put_read_at row column (Ok value) targets))
row_goes row zero value values [] = sym (put_row_none row values)
row_goes row (suc column) value values [] = sym (put_row_none row values)
row_goes row zero value values (t ∷ ts) = refl
row_goes row (suc column) value values (t ∷ ts) = ap (λ l. t ∷ l) (row_goes row column value values ts)
