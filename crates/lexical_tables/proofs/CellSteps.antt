-- The cell of a column that is read.
use Rattle.std.proofs.Common.{◌≡◌, ◌∙◌, ℕ, zero, suc, ◌<◌, ◌≤◌, List, [], ◌∷◌, length, set, get_or, map, false, Option, Some, None, Ok, refl, ap, sym, subst, arith}
use Rattle.std.specs.Prelude.{is_some, option_map}
use Rattle.std.proofs.lemmas.List.{length-map, map-set}
use Rattle.lexical_fields.specs.Fields.{FieldView}
use Rattle.lexical_tables.specs.Amounts.{IsAmountsIn}
use Rattle.lexical_tables.specs.ByColumn.{AreUsable, IsUsable, answer_at, fault_in, kind_of, kinds_of, put_read, put_read_at}
use Rattle.lexical_tables.specs.Cells.{Kind, answer_as, quote_fault, unless}
use Rattle.lexical_tables.specs.Codes.{AreCodes, IsCodeIn}
use Rattle.lexical_tables.specs.Targets.{TargetView}
use Rattle.lexical_tables.specs.declared.answers.CellFault.{CellFault}
use Rattle.lexical_tables.specs.declared.dialect.Dialect.{Dialect}
use Rattle.lexical_tables.proofs.PutSteps.{answer_beyond, answer_is, put_beyond, put_unread, set_as_put, use_at}

at_map : {X Y : Type 0} (f : X → Y) (xs : List X) (i : ℕ) (d : X) → get_or (map f xs) i (f d) ≡ f (get_or xs i d)
at_map f [] i d = refl
at_map f (x ∷ xs) zero d = refl
at_map f (x ∷ xs) (suc i) d = at_map f xs i d

abbrev kind_in : Option TargetView → Option Kind
kind_in target = option_map kind_of target

-- what is told of a cell that isn't read
quotes_told : (found : Option CellFault) → found ≡ fault_in (unless found (Ok None))
quotes_told None = refl
quotes_told (Some fault) = refl

none_of : (target : Option TargetView) → is_some target ≡ false → target ≡ None
none_of None none = refl
none_of (Some target) none = absurd cc

-- a target that is put where it stands
set_same : {X : Type 0} (xs : List X) (i : ℕ) (d : X) → i < length xs → set xs i (get_or xs i d) ≡ xs
set_same [] i d low = refl
set_same (x ∷ xs) zero d low = refl
set_same (x ∷ xs) (suc i) d low = ap (λ l. x ∷ l) (set_same xs i d (omega arith))

-- what has a place is there, whatever stands for what has none
default_is : {X : Type 0} (xs : List (Option X)) (i : ℕ) (d : Option X) → i < length xs → get_or xs i None ≡ get_or xs i d
default_is [] i d low = absurd (omega arith)
default_is (x ∷ xs) zero d low = refl
default_is (x ∷ xs) (suc i) d low = default_is xs i d (omega arith)

-- a column that has a place among the targets
module _ {C : Type 0} (target_of : C → Option TargetView) (d : Dialect) (targets : List C) (column : ℕ) (cell : FieldView)
    (low : column < length targets) (e : C) where
  abbrev targets_seen : List (Option TargetView)
  targets_seen = map target_of targets

  low_seen : column < length targets_seen
  low_seen = omega (arith, low, length-map targets target_of)

  target_is : get_or targets_seen column (target_of e) ≡ target_of (get_or targets column e)
  target_is = at_map target_of targets column e

  pub usable_at : (room : ℕ) → AreUsable room targets_seen → IsUsable room (target_of (get_or targets column e))
  usable_at room usable = subst (IsUsable room) target_is (use_at room column targets_seen (target_of e) low_seen usable)

  pub answer_told : answer_as d (kind_in (target_of (get_or targets column e))) cell
      ≡ answer_at d (kinds_of targets_seen) column cell
  answer_told = sym (answer_is d (kinds_of targets_seen) column cell (kind_in (target_of e))
      (omega (arith, low_seen, length-map targets_seen kind_in))
      ∙ ap (λ k. answer_as d k cell) (at_map kind_in targets_seen column (target_of e) ∙ ap kind_in target_is))

  pub targets_told : (row : ℕ) (new : C) → target_of new
      ≡ option_map (put_read row (answer_as d (kind_in (target_of (get_or targets column e))) cell)) (target_of (get_or targets column e))
      → map target_of (set targets column new)
      ≡ put_read_at row column (answer_at d (kinds_of targets_seen) column cell) targets_seen
  targets_told row new told =
      map-set target_of targets column new
      ∙ set_as_put row column (answer_at d (kinds_of targets_seen) column cell) targets_seen (target_of new)
      (target_of e) low_seen
      (ap (option_map (put_read row (answer_at d (kinds_of targets_seen) column cell))) target_is
      ∙ ap (λ a. option_map (put_read row a) (target_of (get_or targets column e))) (sym answer_told) ∙ sym told)

  -- whose target stays
  pub same_told : (new : C) → target_of new ≡ target_of (get_or targets column e) → map target_of (set targets column new) ≡ targets_seen
  same_told new same =
      map-set target_of targets column new ∙ ap (set targets_seen column) (same ∙ sym target_is)
      ∙ set_same targets_seen column (target_of e) low_seen

  -- that has a code
  pub code_told : (codes : List ℕ) → column < length codes → AreCodes d codes targets_seen
      → IsCodeIn d (get_or codes column 0) (target_of (get_or targets column e))
  code_told codes coded are =
      subst (IsCodeIn d (get_or codes column 0)) (default_is targets_seen column (target_of e) low_seen ∙ target_is)
      (are column coded low_seen)

  -- or one that is known to be right for it
  pub known_told : (code : ℕ) → IsCodeIn d code (get_or targets_seen column None)
      → IsCodeIn d code (target_of (get_or targets column e))
  known_told code is = subst (IsCodeIn d code) (default_is targets_seen column (target_of e) low_seen ∙ target_is) is

  -- that has amounts
  pub amounts_told : IsAmountsIn d (get_or targets_seen column None) → IsAmountsIn d (target_of (get_or targets column e))
  amounts_told is = subst (IsAmountsIn d) (default_is targets_seen column (target_of e) low_seen ∙ target_is) is

  -- that isn't read
  pub unread_fault : is_some (target_of (get_or targets column e)) ≡ false
      → quote_fault d.has_quotes false cell ≡ fault_in (answer_at d (kinds_of targets_seen) column cell)
  unread_fault none =
      quotes_told (quote_fault d.has_quotes false cell)
      ∙ ap (λ t. fault_in (answer_as d (kind_in t) cell)) (sym (none_of (target_of (get_or targets column e)) none))
      ∙ ap fault_in answer_told

  pub unread_same : (row : ℕ) → is_some (target_of (get_or targets column e)) ≡ false
      → targets_seen ≡ put_read_at row column (answer_at d (kinds_of targets_seen) column cell) targets_seen
  unread_same row none =
      sym (put_unread row column (answer_at d (kinds_of targets_seen) column cell) targets_seen (target_of e) low_seen
      (target_is ∙ none_of (target_of (get_or targets column e)) none))

-- a column behind all targets
module _ (d : Dialect) (targets : List (Option TargetView)) (column : ℕ) (cell : FieldView) (high : length targets ≤ column) where
  pub beyond_fault : quote_fault d.has_quotes false cell ≡ fault_in (answer_at d (kinds_of targets) column cell)
  beyond_fault =
      quotes_told (quote_fault d.has_quotes false cell)
      ∙ ap fault_in (sym (answer_beyond d (kinds_of targets) column cell (omega (arith, high, length-map targets kind_in))))

  pub beyond_same : (row : ℕ) → targets ≡ put_read_at row column (answer_at d (kinds_of targets) column cell) targets
  beyond_same row = sym (put_beyond row column (answer_at d (kinds_of targets) column cell) targets high)

-- a column among the targets that isn't read
module _ (d : Dialect) (targets : List (Option TargetView)) (column : ℕ) (cell : FieldView) (low : column < length targets)
    (none : is_some (get_or targets column None) ≡ false) where
  pub unread_at : quote_fault d.has_quotes false cell ≡ fault_in (answer_at d (kinds_of targets) column cell)
  unread_at =
      quotes_told (quote_fault d.has_quotes false cell)
      ∙ ap (λ t. fault_in (answer_as d (kind_in t) cell)) (sym (none_of (get_or targets column None) none))
      ∙ ap fault_in (sym (answer_is d (kinds_of targets) column cell None (omega (arith, low, length-map targets kind_in))
      ∙ ap (λ k. answer_as d k cell) (at_map kind_in targets column None)))

  pub unread_stays : (row : ℕ) → targets ≡ put_read_at row column (answer_at d (kinds_of targets) column cell) targets
  unread_stays row =
      sym (put_unread row column (answer_at d (kinds_of targets) column cell) targets None low
      (none_of (get_or targets column None) none))
