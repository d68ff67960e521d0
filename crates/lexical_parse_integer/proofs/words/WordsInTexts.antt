-- Words in a text: their bytes are the text's, and their digits the numeral's. For `algorithm::counted::multi`.
use Rattle.std.proofs.Common.{◌≡◌, ℕ, zero, suc, ◌+◌, ◌-◌, ◌^◌, ◌≤◌, ◌<◌, Bool, true, false, List, [], ◌∷◌, length, get_or, take, drop, is_some, Some, None, sym, ap, ◌∙◌, subst, arith}
use Rattle.std.specs.Prelude.{pos, slice_get, slice_range, option_and_then, IsSome}
use Rattle.std.proofs.Math.Nat.{pow-le-pow_left}
use Rattle.std.proofs.Math.Seq.{take-length}
use Rattle.std.proofs.lemmas.Bool.{lt-ltb, false≢true}
use Rattle.std.proofs.lemmas.List.{get_or-take, get_or-drop, length-drop, length-take-le}
use Rattle.std.proofs.lemmas.Option.{slice_get-get_or}
use Rattle.lexical_parse_integer.specs.Runs.{digit_at}
use Rattle.lexical_digits.specs.Words.{AreDigits, word_value}
use Rattle.lexical_digits.proofs.AsciiDigits.{AreAsciiDigits, IsAsciiDigit, ascii_from_digits, ascii_value_is, digit_from, digit_to, digits_from_ascii, word_below}
use Rattle.lexical_util.specs.Digit.{digit}
use Rattle.lexical_util.specs.Number.{IsNumber, IsWidth, integer_type}
use Rattle.lexical_util.specs.Number.IsWidth.{w8, w16, w32, w64, w128}
use Rattle.lexical_parse_integer.proofs.grammar.NumeralEnd.{digit_at_past}

-- ---- the bytes of a word

pub length-ahead : (b : List ℕ) (p n : ℕ) → p + n ≤ length b → length (slice_range b p (p + n)) ≡ n
length-ahead b p n within =
    let size = length-drop p b in
    let e : p + n - p ≡ n = omega arith in
    ap (λ m. length (take m (drop p b))) e ∙ length-take-le n (drop p b) (omega arith)

-- a slice of all of it
pub slice_all : (xs : List ℕ) (n : ℕ) → length xs ≡ n → slice_range xs 0 n ≡ xs
slice_all xs n e = let m : n - 0 ≡ length xs = omega arith in ap (λ k. take k xs) m ∙ take-length xs

-- the bytes stand in the text
pub record StandsAt (b bs : List ℕ) (p : ℕ) : Type 0 where
  pub within : p + length bs ≤ length b
  pub byte : (i k : ℕ) → p + i ≡ k → i < length bs → slice_get b k ≡ Some (get_or bs i 0)

pub stands_ahead : (b : List ℕ) (p n : ℕ) → p + n ≤ length b → StandsAt b (slice_range b p (p + n)) p
stands_ahead b p n within =
    let size = length-ahead b p n within in
    let e : p + n - p ≡ n = omega arith in
    record {
      within = omega arith;
      byte = λ i k at l.
          slice_get-get_or b k 0 (omega arith) ∙ ap Some (ap (λ j. get_or b j 0) (sym at) ∙ sym (get_or-drop p b i 0) ∙ sym (get_or-take (p + n - p) (drop p b) i 0 (omega arith)));
    }

stands_rest : (b : List ℕ) (c : ℕ) (cs : List ℕ) (p : ℕ) → StandsAt b (c ∷ cs) p → StandsAt b cs (p + 1)
stands_rest b c cs p s = let w = s.within in record { within = omega arith; byte = λ i k at l. s.byte (suc i) k (omega arith) (omega arith) }

-- ---- digits of a radix up to 10

digit_here : (r : ℕ) (b : List ℕ) (k c : ℕ) → slice_get b k ≡ Some c → IsAsciiDigit r c → r ≤ 10 → digit_at r b k ≡ Some (c - 48)
unfolding digit_at
digit_here r b k c e d ten = ap (option_and_then (λ x. digit r x)) e ∙ digit_from r c d ten

byte_here : (r : ℕ) (b : List ℕ) (k c : ℕ) → slice_get b k ≡ Some c → is_some (digit_at r b k) ≡ true → r ≤ 10 → IsAsciiDigit r c
unfolding digit_at
byte_here r b k c e t ten = digit_to r c (ap (λ o. is_some (option_and_then (λ x. digit r x) o)) (sym e) ∙ t) ten

-- each digit of a word by its place
pub word_digit : (r : ℕ) (b bs : List ℕ) (p : ℕ) → r ≤ 10 → StandsAt b bs p → AreAsciiDigits r bs → (i k : ℕ) → p + i ≡ k → i < length bs → digit_at r b k ≡ Some (get_or bs i 0 - 48)
word_digit r b [] p ten s d i k at l = absurd (omega arith)
word_digit r b (c ∷ cs) p ten s d zero k at l = digit_here r b k c (s.byte 0 k at l) d.0 ten
word_digit r b (c ∷ cs) p ten s d (suc i) k at l = word_digit r b cs (p + 1) ten (stands_rest b c cs p s) d.1 i k (omega arith) (omega arith)

pub are_digits : (r : ℕ) (b bs : List ℕ) (p : ℕ) → r ≤ 10 → StandsAt b bs p → ((k : ℕ) → p ≤ k → k < p + length bs → is_some (digit_at r b k) ≡ true) → AreAsciiDigits r bs
are_digits r b [] p ten s all = tt
are_digits r b (c ∷ cs) p ten s all =
    (byte_here r b p c (s.byte 0 p (omega arith) (omega arith)) (all p (omega arith) (omega arith)) ten, are_digits r b cs (p + 1) ten (stands_rest b c cs p s) (λ k low high. all k (omega arith) (omega arith)))

pub all_ahead : (r : ℕ) (b bs : List ℕ) (p : ℕ) → r ≤ 10 → StandsAt b bs p → AreAsciiDigits r bs → (k : ℕ) → p ≤ k → k < p + length bs → is_some (digit_at r b k) ≡ true
all_ahead r b bs p ten s d k low high = ap is_some (word_digit r b bs p ten s d (k - p) k (omega arith) (omega arith))

-- ---- the value of a word

pub word_small : (r n w : ℕ) (bs : List ℕ) → r ≤ 10 → length bs ≡ w → AreDigits r bs → n ≡ word_value r bs → n < 10 ^ w
word_small r n w bs ten size d e =
    let low = word_below r bs (ascii_from_digits r bs ten d) in
    let same = ascii_value_is r bs in
    let power : r ^ length bs ≤ 10 ^ w = rw size (pow-le-pow_left ten w) in
    omega arith

-- a number below 10 to the power of a word's length is one of each type that takes such words
pub word_number : (bits : ℕ) (s : Bool) (n : ℕ) → IsWidth bits → 32 ≤ bits → n < 10 ^ 8 + 1 → IsNumber (integer_type bits s) (pos n)
word_number _ s n w8 h l = absurd (omega arith)
word_number _ s n w16 h l = absurd (omega arith)
word_number _ true n w32 h l = lt-ltb n (2 ^ 31) (omega arith)
word_number _ false n w32 h l = lt-ltb n (2 ^ 32) (omega arith)
word_number _ true n w64 h l = lt-ltb n (2 ^ 63) (omega arith)
word_number _ false n w64 h l = lt-ltb n (2 ^ 64) (omega arith)
word_number _ true n w128 h l = lt-ltb n (2 ^ 127) (omega arith)
word_number _ false n w128 h l = lt-ltb n (2 ^ 128) (omega arith)

-- ---- a word that was lent

pub record IsWord (r r' : ℕ) (b bytes : List ℕ) (p w : ℕ) : Type 0 where
  pub forth : AreDigits r' (slice_range bytes 0 w) → (k : ℕ) → p ≤ k → k < p + w → IsSome (digit_at r b k)
  pub back : ((k : ℕ) → p ≤ k → k < p + w → IsSome (digit_at r b k)) → AreDigits r' (slice_range bytes 0 w)
  pub size : length (slice_range bytes 0 w) ≡ w

pub is_word : (r r' : ℕ) (b bytes : List ℕ) (p w : ℕ) → r ≤ 10 → p + w ≤ length b → bytes ≡ slice_range b p (p + w) → r' ≡ r → IsWord r r' b bytes p w
is_word r r' b bytes p w ten within is same =
    let size = length-ahead b p w within in
    let all : slice_range bytes 0 w ≡ slice_range b p (p + w) = slice_all bytes w (ap length is ∙ size) ∙ is in
    let s = stands_ahead b p w within in
    record {
      forth = λ d k low high. all_ahead r b (slice_range b p (p + w)) p ten s (ascii_from_digits r (slice_range b p (p + w)) ten (subst (λ (x : List ℕ). AreDigits r x) all (subst (λ (q : ℕ). AreDigits q (slice_range bytes 0 w)) same d))) k low (omega arith);
      back = λ h. subst (λ (q : ℕ). AreDigits q (slice_range bytes 0 w)) (sym same) (subst (λ (x : List ℕ). AreDigits r x) (sym all) (digits_from_ascii r (slice_range b p (p + w)) ten (are_digits r b (slice_range b p (p + w)) p ten s (λ k low high. h k low (omega arith)))));
      size = ap length all ∙ size;
    }

pub past_end : (r : ℕ) (b : List ℕ) (p w : ℕ) → 1 ≤ w → length b < p + w → ((k : ℕ) → p ≤ k → k < p + w → IsSome (digit_at r b k)) → ⊥
past_end r b p w some short all =
    let none : digit_at r b (p + w - 1) ≡ None = digit_at_past r b (p + w - 1) (omega arith) in
    let one : is_some (digit_at r b (p + w - 1)) ≡ true = all (p + w - 1) (omega arith) (omega arith) in
    false≢true (sym (ap is_some none) ∙ one)
