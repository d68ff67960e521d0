-- Three digits behind a separator, after digits that stand so already: for `value_of_threes`.
use Rattle.std.proofs.Common.{◌≡◌, ℕ, ◌+◌, ◌-◌, ◌*◌, ◌<◌, ◌≤◌, Bool, true, List, [], ◌∷◌, ◌++◌, length, get_or, take, drop, refl, sym, ap, ◌∙◌, subst, arith, Some, None, is_some}
use Rattle.std.specs.Prelude.{ℤ, pos, slice_range}
use Rattle.std.proofs.lemmas.Bool.{false≢true}
use Rattle.std.proofs.lemmas.List.{get_or-drop, get_or-take, length-take-le}
use Rattle.lexical_util.specs.Digit.{digit}
use Rattle.lexical_util.specs.Format.{Format}
use Rattle.lexical_util.specs.Number.{IntegerType, IsNumber, mul_add}
use Rattle.lexical_parse_integer.specs.Grouped.{AreGrouped, AreWorth, digits_among, is_digit_in}
use Rattle.lexical_digits.specs.WrittenNumbers.{bytes_number}
use Rattle.lexical_digits.specs.Value.{positional_value, with_sign}
use Rattle.lexical_digits.specs.Words.{AreDigits, word_bytes, word_value}
use Rattle.lexical_digits.proofs.ShiftedWords.{half_bytes}
use Rattle.lexical_digits.proofs.AsciiDigits.{ascii_from_digits, digit_from}
use Rattle.lexical_digits.proofs.DigitValues.{positional_value-push, with_sign-step}
use Rattle.lexical_parse_integer.proofs.punctuated.DigitsAmong.{AreDigitsOnly}
use Rattle.lexical_parse_integer.proofs.punctuated.PartedFronts.{IsParted, digit_parted, more_among, parted_grouped, separator_parted}

-- digits alone
pub row_parted : (r separator : ℕ) (many : Bool) (bytes : List ℕ) (k : ℕ) → 1 ≤ k → k ≤ length bytes → AreDigitsOnly r (take k bytes) → IsParted r separator many bytes k true
row_parted r separator many bytes k some within all = record {
  separators = λ i l none. absurd (false≢true (sym none ∙ here i l));
  first = λ l. here 0 l;
  alone = λ e i l none. here (i + 1) l;
  some = λ t. omega arith;
  last = λ t e. here (k - 1) (omega arith);
}
  where
    here : (i : ℕ) → i < k → is_digit_in r bytes i ≡ true
    here i l = let size = length-take-le k bytes within in ap (λ c. is_some (digit r c)) (sym (get_or-take k bytes i 0 l)) ∙ all i (omega arith)

-- a separator and three digits more
pub three_parted : (r separator : ℕ) (many : Bool) (bytes : List ℕ) (k a b c : ℕ) → IsParted r separator many bytes k true → get_or bytes k 0 ≡ separator →
    digit r (get_or bytes (k + 1) 0) ≡ Some a → digit r (get_or bytes (k + 2) 0) ≡ Some b → digit r (get_or bytes (k + 3) 0) ≡ Some c → IsParted r separator many bytes (k + 4) true
three_parted r separator many bytes k a b c p parted first second third =
    let one = digit_parted r separator many many bytes (k + 1) (separator_parted r separator many bytes k p parted) (ap is_some first) in
    let two = digit_parted r separator many true bytes (k + 2) (moved (k + 1 + 1) (k + 2) (omega arith) one) (ap is_some second) in
    let three = digit_parted r separator many true bytes (k + 3) (moved (k + 2 + 1) (k + 3) (omega arith) two) (ap is_some third) in
    moved (k + 3 + 1) (k + 4) (omega arith) three
  where
    moved : (i j : ℕ) → i ≡ j → IsParted r separator many bytes i true → IsParted r separator many bytes j true
    moved i j same = subst (λ (n : ℕ). IsParted r separator many bytes n true) same

-- the bytes of a slice of four
pub in_four : (bytes : List ℕ) (place i : ℕ) → i < 4 → get_or (slice_range bytes place (place + 4)) i 0 ≡ get_or bytes (place + i) 0
in_four bytes place i few = get_or-take (place + 4 - place) (drop place bytes) i 0 (omega arith) ∙ get_or-drop place bytes i 0

-- What a word of a digit 0 and three bytes is, where it is digits.
pub record IsThree (a b c word : ℕ) : Type 0 where
  pub first : digit 10 a ≡ Some (a - 48)
  pub second : digit 10 b ≡ Some (b - 48)
  pub third : digit 10 c ≡ Some (c - 48)
  pub value : word_value 10 (word_bytes 4 word) ≡ (a - 48) * 100 + (b - 48) * 10 + (c - 48)
  pub small : word_value 10 (word_bytes 4 word) < 1000

pub three_of_word : (a b c word : ℕ) → a < 256 → b < 256 → c < 256 → word ≡ 48 + 256 * (a + 256 * (b + 256 * c)) → AreDigits 10 (word_bytes 4 word) → IsThree a b c word
three_of_word a b c word la lb lc is digits =
    let sum : word ≡ bytes_number (48 ∷ a ∷ b ∷ c ∷ []) = is ∙ omega arith in
    let bytes : word_bytes 4 word ≡ 48 ∷ a ∷ b ∷ c ∷ [] = half_bytes word (48 ∷ a ∷ b ∷ c ∷ []) (omega arith, (la, (lb, (lc, tt)))) refl sum in
    let ascii = ascii_from_digits 10 (48 ∷ a ∷ b ∷ c ∷ []) (omega arith) (subst (λ (bs : List ℕ). AreDigits 10 bs) bytes digits) in
    let value : word_value 10 (word_bytes 4 word) ≡ (a - 48) * 100 + (b - 48) * 10 + (c - 48) = ap (word_value 10) bytes ∙ omega arith in
    record {
      first = digit_from 10 a ascii.1.0 (omega arith);
      second = digit_from 10 b ascii.1.1.0 (omega arith);
      third = digit_from 10 c ascii.1.1.1.0 (omega arith);
      value = value;
      small = omega (arith, value, ascii.1.0.0, ascii.1.0.1, ascii.1.1.0.0, ascii.1.1.0.1, ascii.1.1.1.0.0, ascii.1.1.1.0.1);
    }

-- the digits among three bytes more
digit_among : (r k d : ℕ) (bytes before : List ℕ) → k < length bytes → digit r (get_or bytes k 0) ≡ Some d → digits_among r (take k bytes) ≡ before → digits_among r (take (k + 1) bytes) ≡ before ++ d ∷ []
digit_among r k d bytes before l is same =
    let one : digits_among r (get_or bytes k 0 ∷ []) ≡ d ∷ [] = rw is refl in
    more_among r k bytes l ∙ ap (λ (ds : List ℕ). digits_among r (take k bytes) ++ ds) one ∙ ap (λ (ds : List ℕ). ds ++ d ∷ []) same

separator_among : (r k : ℕ) (bytes : List ℕ) → k < length bytes → digit r (get_or bytes k 0) ≡ None → digits_among r (take (k + 1) bytes) ≡ digits_among r (take k bytes)
separator_among r k bytes l is =
    let one : digits_among r (get_or bytes k 0 ∷ []) ≡ [] = rw is refl in
    more_among r k bytes l ∙ ap (λ (ds : List ℕ). digits_among r (take k bytes) ++ ds) one ∙ append_nil (digits_among r (take k bytes))
  where
    append_nil : (ds : List ℕ) → ds ++ [] ≡ ds
    append_nil [] = refl
    append_nil (d ∷ ds) = ap (λ (es : List ℕ). d ∷ es) (append_nil ds)

three_value : (before : List ℕ) (a b c : ℕ) → positional_value 10 (((before ++ a ∷ []) ++ b ∷ []) ++ c ∷ []) ≡ positional_value 10 before * 1000 + (a * 100 + b * 10 + c)
three_value before a b c =
    let one = positional_value-push 10 before a in
    let two = positional_value-push 10 (before ++ a ∷ []) b in
    let three = positional_value-push 10 ((before ++ a ∷ []) ++ b ∷ []) c in
    omega (arith, one, two, three)

pub three_worth : (t : IntegerType) (is_negative : Bool) (bytes : List ℕ) (k a b c : ℕ) (value next : ℤ) → AreWorth t 10 is_negative (take k bytes) value → k + 4 ≤ length bytes →
    digit 10 (get_or bytes k 0) ≡ None → digit 10 (get_or bytes (k + 1) 0) ≡ Some a → digit 10 (get_or bytes (k + 2) 0) ≡ Some b → digit 10 (get_or bytes (k + 3) 0) ≡ Some c →
    next ≡ mul_add is_negative value (pos 1000) (pos (a * 100 + b * 10 + c)) → IsNumber t next → AreWorth t 10 is_negative (take (k + 4) bytes) next
three_worth t is_negative bytes k a b c value next w within none first second third step fits =
    let before : List ℕ = digits_among 10 (take k bytes) in
    let none_more = separator_among 10 k bytes (omega arith) none in
    let one = digit_among 10 (k + 1) a bytes before (omega arith) first none_more in
    let two = digit_among 10 (k + 2) b bytes (before ++ a ∷ []) (omega arith) second (moved (k + 1 + 1) (k + 2) (before ++ a ∷ []) (omega arith) one) in
    let three = digit_among 10 (k + 3) c bytes ((before ++ a ∷ []) ++ b ∷ []) (omega arith) third (moved (k + 2 + 1) (k + 3) ((before ++ a ∷ []) ++ b ∷ []) (omega arith) two) in
    let all = moved (k + 3 + 1) (k + 4) (((before ++ a ∷ []) ++ b ∷ []) ++ c ∷ []) (omega arith) three in
    record {
      worth = step ∙ ap (λ (z : ℤ). mul_add is_negative z (pos 1000) (pos (a * 100 + b * 10 + c))) w.worth ∙ with_sign-step is_negative (positional_value 10 before) 1000 (a * 100 + b * 10 + c)
          ∙ ap (with_sign is_negative) (sym (three_value before a b c)) ∙ ap (λ (ds : List ℕ). with_sign is_negative (positional_value 10 ds)) (sym all);
      fits = fits;
    }
  where
    moved : (i j : ℕ) (ds : List ℕ) → i ≡ j → digits_among 10 (take i bytes) ≡ ds → digits_among 10 (take j bytes) ≡ ds
    moved i j ds same = subst (λ (n : ℕ). digits_among 10 (take n bytes) ≡ ds) same

-- ---- the end

pub row_ends : (r : ℕ) (bytes : List ℕ) (k : ℕ) → 1 ≤ k → k ≤ length bytes → AreDigitsOnly r (take k bytes) → is_digit_in r bytes (k - 1) ≡ true
row_ends r bytes k some within all = let size = length-take-le k bytes within in ap (λ c. is_some (digit r c)) (sym (get_or-take k bytes (k - 1) 0 (omega arith))) ∙ all (k - 1) (omega arith)

pub three_ends : (r : ℕ) (bytes : List ℕ) (k c : ℕ) → digit r (get_or bytes (k + 3) 0) ≡ Some c → is_digit_in r bytes (k + 4 - 1) ≡ true
three_ends r bytes k c third = let back : k + 4 - 1 ≡ k + 3 = omega arith in ap (is_digit_in r bytes) back ∙ ap is_some third

-- all of them
pub threes_grouped : (f : Format) (separator : ℕ) (bytes : List ℕ) (k : ℕ) → f.digit_separator ≡ Some separator → f.integer_internal_digit_separator ≡ true → digit 10 separator ≡ None → 1 ≤ length bytes → k ≡ length bytes →
    is_digit_in 10 bytes (k - 1) ≡ true → IsParted 10 separator f.integer_consecutive_digit_separator bytes k true → AreGrouped f 10 bytes
threes_grouped f separator bytes k separator_is internal none some all ends p =
    let end : k - 1 ≡ length bytes - 1 = ap (λ n. n - 1) all in
    parted_grouped f 10 separator true bytes k separator_is internal (omega arith) (omega arith)
    (λ e. absurd (false≢true (sym (ap (λ c. is_some (digit 10 c)) e ∙ ap is_some none) ∙ ap (is_digit_in 10 bytes) (sym end) ∙ ends))) p
