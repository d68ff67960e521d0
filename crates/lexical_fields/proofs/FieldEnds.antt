-- How a search for a separator goes on by sixteen bytes, and that the first field ends where one is found.
use Rattle.std.proofs.Common.{◌≡◌, ◌≢◌, ◌∙◌, ℕ, ◌+◌, ◌-◌, ◌<◌, ◌≤◌, List, true, false, not, eqb, length, get_or, drop, slice_range, ap, sym, arith, inl, inr, get_or-drop, length-drop, length-take-le}
use Rattle.std.proofs.lemmas.Bool.{cases_lt}
use Rattle.std.proofs.lemmas.Bool.Decides.{eqb_tells}
use Rattle.std.proofs.lemmas.List.{get_or-take}
use Rattle.std.proofs.lemmas.List.Sums.{prefix_len_is}
use Rattle.lexical_fields.specs.Fields.{field_length}

-- no separator stands before a place of the text
pub record NoneBefore (separator : ℕ) (text : List ℕ) (start : ℕ) : Type 0 where
  pub within : start ≤ length text
  pub none : (k : ℕ) → k < start → get_or text k 0 ≢ separator

-- a byte of sixteen
pub byte_of_16 : (text : List ℕ) (start k : ℕ) → k < 16
    → get_or (slice_range text start (start + 16)) k 0 ≡ get_or text (start + k) 0
byte_of_16 text start k low = get_or-take (start + 16 - start) _ k 0 (omega arith) ∙ get_or-drop start text k 0

pub size_of_16 : (text : List ℕ) (start : ℕ) → start + 16 ≤ length text
    → length (slice_range text start (start + 16)) ≡ 16
size_of_16 text start room =
    length-take-le (start + 16 - start) (drop start text) (omega (arith, length-drop start text))
    ∙ omega arith

pub none_more : (s : ℕ) (text : List ℕ) (start place : ℕ) → NoneBefore s text start
    → start + 16 ≤ length text → place ≤ 16
    → ((k : ℕ) → k < place → get_or (slice_range text start (start + 16)) k 0 ≢ s) → NoneBefore s text (start + place)
none_more s text start place so_far room within before = record { within = omega arith; none = none }
  where
    none : (k : ℕ) → k < start + place → get_or text k 0 ≢ s
    none k low =
        elim (cases_lt k start) [
          | inl lt ↦ so_far.none k lt
          | inr ge ↦
              let at : start + (k - start) ≡ k = omega arith in
              λ is. before (k - start) (omega arith)
              (byte_of_16 text start (k - start) (omega arith)
              ∙ ap (λ j. get_or text j 0) at ∙ is)
        ]

other : (x b : ℕ) → x ≢ b → not (eqb x b) ≡ true
other x b apart = elim (eqb_tells x b) [ inl is ↦ absurd (apart is.1) | inr is ↦ ap not is.0 ]

same : (x b : ℕ) → x ≡ b → not (eqb x b) ≡ false
same x b e = elim (eqb_tells x b) [ inl is ↦ ap not is.0 | inr is ↦ absurd (is.1 e) ]

-- the first field ends at the first separator, or with the text
pub field_is : (s : ℕ) (text : List ℕ) (n : ℕ) → n ≤ length text → ((k : ℕ) → k < n → get_or text k 0 ≢ s)
    → (n < length text → get_or text n 0 ≡ s) → n ≡ field_length s text
field_is s text n within before found =
    sym (prefix_len_is (λ byte. not (eqb byte s)) text n 0 within
    (λ k lt. other (get_or text k 0) s (before k lt))
    (λ lt. same (get_or text n 0) s (found lt)))
