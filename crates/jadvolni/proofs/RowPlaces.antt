-- Where a row is, as C has it.
use Rattle.std.proofs.Common.{◌≡◌, ◌∙◌, ℕ, ◌+◌, List, length, cond, Bool, true, false, Some, None, ap, ap₂, sym, arith, inl, inr}
use Rattle.std.specs.Prelude.{nat_lt}
use Rattle.std.proofs.lemmas.Bool.{cases_lt, lt-ltb}
use Rattle.std.proofs.lemmas.List.{drop_all}
use Rattle.lexical_tables.specs.Places.{place_of, row_place}
use Rattle.lexical_tables.specs.Rows.{next_start, rows}
use Rattle.lexical_tables.specs.declared.dialect.Dialect.{Dialect}
use Rattle.lexical_tables.specs.declared.places.RowPlace.{RowPlace}

module _ (d : Dialect) (text : List ℕ) (row : ℕ) where
  abbrev there : Bool
  there = nat_lt row (length (rows d text))

  -- a row that the text has
  pub place_there : (place : RowPlace) → row_place d row text ≡ Some place → place_of d text row ≡ place
  unfolding row_place
  place_there place is = by_test there is
    where
      by_test : (t : Bool) → cond t (Some (place_of d text row)) None ≡ Some place → place_of d text row ≡ place
      by_test true is = cc
      by_test false is = absurd cc

  -- one that it hasn't
  pub place_behind : row_place d row text ≡ None → place_of d text row ≡ record { start = length text; stop = length text }
  unfolding row_place
  place_behind is =
      elim (cases_lt row (length (rows d text))) [
        | inl low ↦ absurd (no_more (ap (λ t. cond t (Some (place_of d text row)) None) (sym (lt-ltb row (length (rows d text)) low)) ∙ is))
        | inr high ↦
            ap₂ (λ start stop. record { start = next_start (length text) start; stop = next_start (length text) stop })
            (drop_all row (rows d text) high) (drop_all (row + 1) (rows d text) (omega (arith, high)))
      ]
    where
      no_more : Some (place_of d text row) ≡ None → ⊥
      no_more is = cc
