-- The lines of a header, stepped over one after another.
use Rattle.std.proofs.Common.{◌≡◌, ◌∙◌, ℕ, zero, suc, ◌+◌, ◌-◌, ◌<◌, ◌≤◌, List, [], ◌∷◌, length, take, drop, get_or, Bool, true, false, inl, inr, ◌⊎◌, refl, ap, sym, arith}
use Rattle.std.proofs.lemmas.List.{drop_all}
use Rattle.std.proofs.Math.Seq.{take-length, take-suc}
use Rattle.lexical_tables.specs.Header.{behind_lines, header_length}
use Rattle.lexical_tables.specs.Quotes.{has_odd_quotes}
use Rattle.lexical_tables.proofs.SeenBytes.{odd_behind, turned}

-- a list of no element
pub none_of : {X : Type 0} (l : List X) → length l ≡ 0 → l ≡ []
none_of [] e = refl
none_of (x ∷ xs) e = absurd (omega arith)

-- ---- quotes that are counted

-- The quotes among the first `place` bytes were counted, and `odd` says whether their number is
-- odd.
pub record IsCounted (text : List ℕ) (place : ℕ) (odd : Bool) : Type 0 where
  pub low : place ≤ length text
  pub odd_is : odd ≡ has_odd_quotes (take place text)

pub count_starts : (text : List ℕ) → IsCounted text 0 false
count_starts text = record { low = omega arith; odd_is = refl }

pub count_goes : (text : List ℕ) (place : ℕ) (odd : Bool) → IsCounted text place odd → place < length text → (now : Bool)
    → now ≡ turned true odd (get_or text place 0) → IsCounted text (place + 1) now
count_goes text place odd counted more now is =
    let byte = get_or text place 0 in
    let plus : suc place ≡ place + 1 = omega arith in
    record {
      low = omega arith;
      odd_is =
          is ∙ ap (λ b. turned true b byte) counted.odd_is ∙ sym (odd_behind (take place text) byte)
          ∙ ap has_odd_quotes (sym (take-suc text place 0 more)) ∙ ap (λ k. has_odd_quotes (take k text)) plus;
    }

pub count_ends : (text : List ℕ) (place : ℕ) (odd : Bool) → IsCounted text place odd → length text ≤ place
    → odd ≡ has_odd_quotes text
count_ends text place odd counted all =
    let end : place ≡ length text = omega (arith, counted.low) in
    counted.odd_is ∙ ap (λ k. has_odd_quotes (take k text)) end ∙ ap has_odd_quotes (take-length text)

-- ---- lines

-- `left` lines of `rest` are still to be stepped over. What is behind them is what is behind the
-- first `count` lines of the text.
pub record IsOnTheWay (q : Bool) (text : List ℕ) (count left : ℕ) (rest : List ℕ) : Type 0 where
  pub within : length rest ≤ length text
  pub behind_is : behind_lines q left rest ≡ behind_lines q count text

pub way_starts : (q : Bool) (text : List ℕ) (count : ℕ) → IsOnTheWay q text count count text
way_starts q text count = record { within = omega arith; behind_is = refl }

pub way_goes : (q : Bool) (text : List ℕ) (count left : ℕ) (rest behind : List ℕ) → IsOnTheWay q text count left rest
    → 0 < left → behind ≡ drop (header_length q rest + 1) rest → length behind ≤ length rest
    → IsOnTheWay q text count (left - 1) behind
way_goes q text count left rest behind way more back shorter =
    let one : left ≡ suc (left - 1) = omega arith in
    record {
      within = omega (arith, way.within);
      behind_is =
          ap (behind_lines q (left - 1)) back ∙ ap (λ n. behind_lines q n rest) (sym one) ∙ way.behind_is;
    }

behind_none : (q : Bool) (count : ℕ) → behind_lines q count [] ≡ []
behind_none q zero = refl
behind_none q (suc count) =
    ap (behind_lines q count) (drop_all (header_length q [] + 1) [] (omega arith)) ∙ behind_none q count

pub way_ends : (q : Bool) (text : List ℕ) (count left : ℕ) (rest : List ℕ) → IsOnTheWay q text count left rest
    → (left ≡ 0) ⊎ (length rest ≡ 0) → length text - length rest ≡ length text - length (behind_lines q count text)
way_ends q text count left rest way (inl done) =
    ap (λ l. length text - length l) (ap (λ n. behind_lines q n rest) (sym done) ∙ way.behind_is)
way_ends q text count left rest way (inr ended) =
    ap (λ l. length text - length l)
    (none_of rest ended ∙ sym (behind_none q left) ∙ ap (behind_lines q left) (sym (none_of rest ended))
    ∙ way.behind_is)
