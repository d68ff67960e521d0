-- The first cell of a text, by the marks of the places where cells end.
use Rattle.std.proofs.Common.{◌≡◌, ◌≢◌, ◌∙◌, ℕ, zero, suc, ◌+◌, ◌-◌, ◌*◌, ◌/◌, ◌%◌, ◌^◌, ◌==◌, ◌<◌, ◌≤◌, ◌⊎◌, not, List, [], ◌∷◌, length, length-drop, drop, get_or, get_or-drop, Bool, true, false, cond, refl, ap, ap₂, subst, sym, arith, inl, inr}
use Rattle.std.specs.Prelude.{◌||◌}
use Rattle.std.specs.Int.{bit_at}
use Rattle.std.proofs.lemmas.Bool.{cases_lt, eqb-false, eqb-true, ne_eqb}
use Rattle.std.proofs.lemmas.Nat.{pow-add}
use Rattle.std.proofs.lemmas.Nat.Bits.{bit_at-zero, bit_at_above}
use native.Mathlib.Nat.{div-div-eq-div-mul}
use Rattle.lexical_fields.specs.Fields.{field_length}
use Rattle.lexical_fields.proofs.FieldEnds.{field_is}
use Rattle.lexical_tables.specs.Ends.{AreEnds, IsFirstEnd, is_end}
use Rattle.lexical_tables.specs.Quotes.{quote, seen}
use Rattle.lexical_tables.specs.Rows.{line_feed}
use Rattle.lexical_tables.proofs.SeenBytes.{marks, quoting, seen_is, seen_long, turned}

-- before the first look no place is marked
pub no_ends : (q : Bool) (s : ℕ) (text : List ℕ) → AreEnds q s text 0
no_ends q s text = record {
  seen = 0;
  few = omega arith;
  room = λ some. absurd (omega arith);
  here = λ k low. absurd (omega arith);
  beyond = λ k high. bit_at-zero k;
}

-- ---- what the search sees behind some bytes

-- whether what is behind the first n bytes stands within quotes, where w says so of the first byte
abbrev pub within_behind : Bool → Bool → ℕ → List ℕ → Bool
within_behind q w zero text = w
within_behind q w (suc n) [] = w
within_behind q w (suc n) (byte ∷ rest) = within_behind q (turned q w byte) n rest

-- by one byte more
within_next : (q w : Bool) (n : ℕ) (text : List ℕ) → n < length text
    → within_behind q w (suc n) text ≡ turned q (within_behind q w n text) (get_or text n 0)
within_next q w n [] low = absurd (omega arith)
within_next q w zero (byte ∷ rest) low = refl
within_next q w (suc n) (byte ∷ rest) low = within_next q (turned q w byte) n rest (omega arith)

-- a byte as the search sees it
marks_at : (q w : Bool) (sought n : ℕ) (text : List ℕ) → n < length text
    → get_or (marks q w sought text) n 0 ≡ cond (within_behind q w n text) (suc sought) (get_or text n 0)
marks_at q w sought n [] low = absurd (omega arith)
marks_at q w sought zero (byte ∷ rest) low = refl
marks_at q w sought (suc n) (byte ∷ rest) low = marks_at q (turned q w byte) sought n rest (omega arith)

-- all that it sees behind some bytes
marks_drop : (q w : Bool) (sought n : ℕ) (text : List ℕ)
    → drop n (marks q w sought text) ≡ marks q (within_behind q w n text) sought (drop n text)
marks_drop q w sought zero text = refl
marks_drop q w sought (suc n) [] = refl
marks_drop q w sought (suc n) (byte ∷ rest) = marks_drop q (turned q w byte) sought n rest

-- the search for a byte that isn't the quote sees these marks
pub seen_marks : (q : Bool) (sought : ℕ) (text : List ℕ) → (q ≡ true → sought ≢ quote)
    → seen q sought text ≡ marks q false sought text
seen_marks q sought text apart = seen_is q sought text ∙ ap (λ t. marks t false sought text) (same q apart)
  where
    same : (q : Bool) → (q ≡ true → sought ≢ quote) → quoting q sought ≡ q
    same true apart = ap not (ne_eqb sought quote (apart refl))
    same false apart = refl

-- a line feed isn't the quote
pub line_apart : (q : Bool) → q ≡ true → line_feed ≢ quote
line_apart q is = λ same. absurd (omega (arith, same))

-- ---- the first field, by the bytes before it

-- behind bytes that are none that is sought, the first field goes on
pub goes_on : (s n : ℕ) (bytes : List ℕ) → n ≤ length bytes → ((k : ℕ) → k < n → get_or bytes k 0 ≢ s)
    → field_length s bytes ≡ n + field_length s (drop n bytes)
goes_on s zero bytes low none = omega arith
goes_on s (suc n) [] low none = absurd (omega arith)
goes_on s (suc n) (byte ∷ rest) low none =
    ap (λ t. cond (not t) (1 + field_length s rest) 0) (ne_eqb byte s (none 0 (omega arith)))
    ∙ ap (λ i. 1 + i) (goes_on s n rest (omega arith) (λ k less. none (suc k) (omega arith)))
    ∙ omega arith

-- ---- tests of a place

-- a bit that is set tells that its test holds
set_true : (t : Bool) → cond {A = ℕ} t 1 0 ≡ 1 → t ≡ true
set_true true is = refl
set_true false is = absurd (omega (arith, is))

-- one that isn't tells that it doesn't
set_false : (t : Bool) → cond {A = ℕ} t 1 0 ≡ 0 → t ≡ false
set_false true is = absurd (omega (arith, is))
set_false false is = refl

-- where not one of two tests holds, neither does
neither : (a b : Bool) → (a || b) ≡ false → (a ≡ false) × (b ≡ false)
neither true b none = absurd cc
neither false b none = (refl, none)

-- where one of two holds, which one
one_of : (a b : Bool) → (a || b) ≡ true → (a ≡ true) ⊎ (b ≡ true)
one_of true b some = inl refl
one_of false b some = inr some

-- a byte within quotes is none that is sought
never : (s : ℕ) → (suc s == s) ≡ false
never s = ne_eqb (suc s) s (λ same. omega (arith, same))

-- a test that only holds outside quotes tells both
both : (w t : Bool) → cond w false t ≡ true → (w ≡ false) × (t ≡ true)
both true t is = absurd cc
both false t is = (refl, is)

-- an end stands outside quotes, and is one of the two
pub end_by : (q : Bool) (s : ℕ) (text : List ℕ) → (q ≡ true → s ≢ quote) → (k : ℕ) → k < length text
    → is_end q s text k
    ≡ cond (within_behind q false k text) false ((get_or text k 0 == s) || (get_or text k 0 == line_feed))
end_by q s text apart k low =
    ap₂ (λ a b. (get_or a k 0 == s) || (get_or b k 0 == line_feed)) (seen_marks q s text apart)
    (seen_marks q line_feed text (line_apart q))
    ∙ ap₂ (λ x y. (x == s) || (y == line_feed)) (marks_at q false s k text low) (marks_at q false line_feed k text low)
    ∙ by_within (within_behind q false k text) (get_or text k 0)
  where
    by_within : (w : Bool) (x : ℕ) → ((cond w (suc s) x == s) || (cond w (suc line_feed) x == line_feed))
        ≡ cond w false ((x == s) || (x == line_feed))
    by_within true x = ap (λ t. t || (suc line_feed == line_feed)) (never s)
    by_within false x = refl

-- the bits of a number that is shifted
shifted_bit : (m r k : ℕ) → bit_at (m / 2 ^ r) k ≡ bit_at m (r + k)
shifted_bit m r k = ap (λ n. n % 2) (div-div-eq-div-mul m (2 ^ r) (2 ^ k) ∙ ap (λ n. m / n) (sym (pow-add 2 r k)))

-- two shifts are one
pub shifted_twice : (m r : ℕ) → m / 2 ^ r / 2 ≡ m / 2 ^ (r + 1)
shifted_twice m r =
    let power : 2 ^ r * 2 ≡ 2 ^ (r + 1) = sym (pow-add 2 r 1) in
    div-div-eq-div-mul m (2 ^ r) 2 ∙ ap (λ n. m / n) power

-- ---- the first end

module _ (q : Bool) (s : ℕ) (text : List ℕ) (r : ℕ) (apart : q ≡ true → s ≢ quote) (room : r + 17 ≤ length text)
    (no_end : (k : ℕ) → k < r → is_end q s text k ≡ false) (here : is_end q s text r ≡ true) where
  -- no separator outside quotes stands before it
  no_part : (k : ℕ) → k < r → get_or (seen q s text) k 0 ≢ s
  no_part k less =
      eqb-false (get_or (seen q s text) k 0) s
      (neither (get_or (seen q s text) k 0 == s) (get_or (seen q line_feed text) k 0 == line_feed) (no_end k less)).0

  -- and no line feed
  no_line : (k : ℕ) → k < r → get_or (seen q line_feed text) k 0 ≢ line_feed
  no_line k less =
      eqb-false (get_or (seen q line_feed text) k 0) line_feed
      (neither (get_or (seen q s text) k 0 == s) (get_or (seen q line_feed text) k 0 == line_feed) (no_end k less)).1

  -- its own place is outside quotes, and one of the two
  here_both : (within_behind q false r text ≡ false) × (((get_or text r 0 == s) || (get_or text r 0 == line_feed)) ≡ true)
  here_both =
      both (within_behind q false r text) ((get_or text r 0 == s) || (get_or text r 0 == line_feed))
      (sym (end_by q s text apart r (omega (arith, room))) ∙ here)

  -- each search sees the byte there
  here_seen : (sought : ℕ) → (q ≡ true → sought ≢ quote) → get_or (seen q sought text) r 0 ≡ get_or text r 0
  here_seen sought other =
      ap (λ l. get_or l r 0) (seen_marks q sought text other) ∙ marks_at q false sought r text (omega (arith, room))
      ∙ ap (λ w. cond w (suc sought) (get_or text r 0)) here_both.0

  -- which byte that is
  here_byte : (get_or text r 0 ≡ s) ⊎ (get_or text r 0 ≡ line_feed)
  here_byte = elim (one_of (get_or text r 0 == s) (get_or text r 0 == line_feed) here_both.1) [
    | inl is ↦ inl (eqb-true (get_or text r 0) s is)
    | inr is ↦ inr (eqb-true (get_or text r 0) line_feed is)
  ]

  -- it is no quote
  here_apart : q ≡ true → get_or text r 0 ≢ quote
  here_apart is = elim here_byte [
    | inl part ↦ λ same. apart is (sym part ∙ same)
    | inr line ↦ λ same. line_apart q is (sym line ∙ same)
  ]

  -- what is behind it stands outside quotes
  outside : within_behind q false (r + 1) text ≡ false
  outside =
      let next : r + 1 ≡ suc r = omega arith in
      ap (λ n. within_behind q false n text) next ∙ within_next q false r text (omega (arith, room))
      ∙ ap (λ w. turned q w (get_or text r 0)) here_both.0 ∙ no_turn q (get_or text r 0) here_apart
    where
      no_turn : (q : Bool) (byte : ℕ) → (q ≡ true → byte ≢ quote) → turned q false byte ≡ false
      no_turn true byte other = ap (λ t. cond t true false) (ne_eqb byte quote (other refl))
      no_turn false byte other = refl

  -- a search sees what is behind as a text of its own
  behind_seen : (sought : ℕ) → (q ≡ true → sought ≢ quote)
      → drop (r + 1) (seen q sought text) ≡ seen q sought (drop (r + 1) text)
  behind_seen sought other =
      ap (drop (r + 1)) (seen_marks q sought text other) ∙ marks_drop q false sought (r + 1) text
      ∙ ap (λ w. marks q w sought (drop (r + 1) text)) outside
      ∙ sym (seen_marks q sought (drop (r + 1) text) other)

  -- a byte behind it, by its place in the text
  moved : (sought : ℕ) → (q ≡ true → sought ≢ quote) → (k : ℕ)
      → get_or (seen q sought text) (r + 1 + k) 0 ≡ get_or (seen q sought (drop (r + 1) text)) k 0
  moved sought other k =
      sym (get_or-drop (r + 1) (seen q sought text) k 0) ∙ ap (λ l. get_or l k 0) (behind_seen sought other)

  -- no line feed up to a separator
  no_line_to : get_or text r 0 ≢ line_feed → (k : ℕ) → k < r + 1 → get_or (seen q line_feed text) k 0 ≢ line_feed
  no_line_to other k less = elim (cases_lt k r) [
    | inl lt ↦ no_line k lt
    | inr ge ↦
        let at : r ≡ k = omega (arith, ge, less) in
        λ is. other (sym (here_seen line_feed (line_apart q)) ∙ ap (λ j. get_or (seen q line_feed text) j 0) at ∙ is)
  ]

  -- an end that is no line feed is a separator
  part_here : get_or text r 0 ≢ line_feed → get_or text r 0 ≡ s
  part_here other = elim here_byte [ inl is ↦ is | inr is ↦ absurd (other is) ]

  -- what the first end tells
  pub end_is : IsFirstEnd q s text r
  end_is =
      let long = seen_long q s text in
      let line_long = seen_long q line_feed text in record {
        room = room;
        line = λ is. sym (field_is line_feed (seen q line_feed text) r (omega (arith, room, line_long)) no_line
            (λ some. here_seen line_feed (line_apart q) ∙ is));
        last = λ is. omega (arith, goes_on s r (seen q s text) (omega (arith, room, long)) no_part);
        cell = λ other. sym (field_is s (seen q s text) r (omega (arith, room, long)) no_part
            (λ some. here_seen s apart ∙ part_here other));
        parts = part_here;
        before = λ other.
            omega (arith, goes_on line_feed (r + 1) (seen q line_feed text) (omega (arith, room, line_long)) (no_line_to other));
        behind = λ other.
            goes_on line_feed (r + 1) (seen q line_feed text) (omega (arith, room, line_long)) (no_line_to other)
            ∙ ap (λ l. r + 1 + field_length line_feed l) (behind_seen line_feed (line_apart q));
      }

  -- a place behind it is an end of the text, or none, as of what is behind
  pub end_behind : (k : ℕ) → is_end q s text (r + 1 + k) ≡ is_end q s (drop (r + 1) text) k
  end_behind k = ap₂ (λ x y. (x == s) || (y == line_feed)) (moved s apart k) (moved line_feed (line_apart q) k)

-- ---- the lowest mark of a look

-- Of the `seen` bytes of a text from a place on, at most so many, a bit of m marks each at which a cell ends, and no
-- other bit is set.
pub record AreEndsFrom (q : Bool) (s : ℕ) (text : List ℕ) (most place m : ℕ) : Type 0 where
  pub seen : ℕ
  pub few : seen ≤ most
  pub room : 0 < seen → place + seen + 16 ≤ length text
  pub here : (k : ℕ) → k < seen → bit_at m k ≡ cond (is_end q s text (place + k)) 1 0
  pub beyond : (k : ℕ) → seen ≤ k → bit_at m k ≡ 0

-- What the lowest mark tells, if no cell ends before the place: where the first one ends, and the ends behind that.
pub record LowestEnd (q : Bool) (s : ℕ) (text : List ℕ) (most m r end : ℕ) : Type 0 where
  pub few : r < most
  pub first : IsFirstEnd q s text end
  pub ends : AreEnds q s (drop (end + 1) text) (m / 2 ^ (r + 1))

pub lowest_end : (q : Bool) (s : ℕ) (text : List ℕ) (most place m r : ℕ) → most ≤ 64 → (q ≡ true → s ≢ quote)
    → AreEndsFrom q s text most place m → ((k : ℕ) → k < place → is_end q s text k ≡ false)
    → bit_at m r ≡ 1 → ((k : ℕ) → k < r → bit_at m k ≡ 0) → LowestEnd q s text most m r (place + r)
lowest_end q s text most place m r fits apart a none set below = by_order (cases_lt r a.seen)
  where
    by_order : (r < a.seen) ⊎ (a.seen ≤ r) → LowestEnd q s text most m r (place + r)
    by_order (inr high) = let wrong : 0 ≡ 1 = sym (a.beyond r high) ∙ set in absurd (omega (arith, wrong))
    by_order (inl low) =
        let least = a.few in
        let all = a.room (omega (arith, low)) in
        let room : place + r + 17 ≤ length text = omega (arith, low, all) in
        let here : is_end q s text (place + r) ≡ true =
        set_true (is_end q s text (place + r)) (sym (a.here r low) ∙ set) in record {
          few = omega (arith, low, least);
          first = end_is q s text (place + r) apart room no_end here;
          ends = record {
            seen = a.seen - (r + 1);
            few = omega (arith, least, fits);
            room = λ some. omega (arith, some, all, length-drop (place + r + 1) text);
            here = λ k less.
                let at : place + (r + 1 + k) ≡ place + r + 1 + k = omega arith in
                shifted_bit m (r + 1) k ∙ a.here (r + 1 + k) (omega (arith, less))
                ∙ ap (λ i. cond {A = ℕ} (is_end q s text i) 1 0) at
                ∙ ap (λ t. cond {A = ℕ} t 1 0) (end_behind q s text (place + r) apart room no_end here k);
            beyond = λ k more. shifted_bit m (r + 1) k ∙ a.beyond (r + 1 + k) (omega (arith, more));
          };
        }
      where
        no_end : (k : ℕ) → k < place + r → is_end q s text k ≡ false
        no_end k less = elim (cases_lt k place) [
          | inl before ↦ none k before
          | inr behind ↦
              let at : place + (k - place) ≡ k = omega (arith, behind) in
              let low_there : k - place < a.seen = omega (arith, less, behind, low) in
              ap (is_end q s text) (sym at)
              ∙ set_false (is_end q s text (place + (k - place)))
              (sym (a.here (k - place) low_there) ∙ below (k - place) (omega (arith, less, behind)))
        ]

-- of the marks in front of a text
pub first_end : (q : Bool) (s : ℕ) (text : List ℕ) (m r : ℕ) → AreEnds q s text m → (q ≡ true → s ≢ quote)
    → bit_at m r ≡ 1 → ((k : ℕ) → k < r → bit_at m k ≡ 0) → LowestEnd q s text 63 m r r
first_end q s text m r a apart set below =
    let at : 0 + r ≡ r = omega arith in
    subst (LowestEnd q s text 63 m r) at (lowest_end q s text 63 0 m r (omega arith) apart (record {
      seen = a.seen;
      few = a.few;
      room = λ some. omega (arith, a.room some);
      here = λ k low.
          let same : k ≡ 0 + k = omega arith in
          a.here k low ∙ ap (λ i. cond {A = ℕ} (is_end q s text i) 1 0) same;
      beyond = a.beyond;
    }) (λ k low. absurd (omega (arith, low))) set below)

-- of a look at 64 bytes from a place on, behind which sixteen more stand
pub far_end : (q : Bool) (s : ℕ) (text : List ℕ) (place m r : ℕ) → (q ≡ true → s ≢ quote) → place + 80 ≤ length text
    → m < 2 ^ 64 → ((k : ℕ) → k < 64 → bit_at m k ≡ cond (is_end q s text (place + k)) 1 0)
    → ((k : ℕ) → k < place → is_end q s text k ≡ false) → bit_at m r ≡ 1 → ((k : ℕ) → k < r → bit_at m k ≡ 0)
    → LowestEnd q s text 64 m r (place + r)
far_end q s text place m r apart long fits here none set below =
    lowest_end q s text 64 place m r (omega arith) apart (record {
      seen = 64;
      few = omega arith;
      room = λ some. omega (arith, long);
      here = here;
      beyond = λ k high. bit_at_above m 64 k fits high;
    }) none set below

-- where a look marks none, no cell ends up to the next one
pub none_to : (q : Bool) (s : ℕ) (text : List ℕ) (place m : ℕ) → m ≡ 0
    → ((k : ℕ) → k < 64 → bit_at m k ≡ cond (is_end q s text (place + k)) 1 0)
    → ((k : ℕ) → k < place → is_end q s text k ≡ false) → (k : ℕ) → k < place + 64 → is_end q s text k ≡ false
none_to q s text place m empty here none k less = elim (cases_lt k place) [
  | inl before ↦ none k before
  | inr behind ↦
      let at : place + (k - place) ≡ k = omega (arith, behind) in
      ap (is_end q s text) (sym at)
      ∙ set_false (is_end q s text (place + (k - place)))
      (sym (here (k - place) (omega (arith, less, behind))) ∙ ap (λ n. bit_at n (k - place)) empty ∙ bit_at-zero (k - place))
]
