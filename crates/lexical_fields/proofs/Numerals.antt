-- Texts of decimal digits alone or behind a minus: what they stand for, and what their bytes are.
use Rattle.std.proofs.Common.{◌≡◌, ◌≢◌, ◌∙◌, ℕ, zero, suc, ◌-◌, ◌^◌, ◌<◌, ◌≤◌, Bool, true, false, List, [], ◌∷◌, length, length-take-le, take, get_or, is_some, Ok, refl, ap, sym, subst, arith, ◌⊎◌, inl, inr}
use Rattle.std.proofs.Math.Nat.{pow-le-pow_right}
use Rattle.std.specs.Prelude.{if◌then◌else◌}
use Rattle.std.proofs.lemmas.Bool.{false≢true}
use Rattle.lexical_util.specs.Ascii.{minus}
use Rattle.lexical_util.specs.Compare.{pos-injective}
use Rattle.lexical_util.specs.Digit.{digit}
use Rattle.lexical_util.specs.Format.{Format}
use Rattle.lexical_util.specs.Number.{IntegerType, IsNumber}
use Rattle.lexical_digits.specs.Value.{with_sign}
use Rattle.lexical_digits.specs.Words.{AreDigits}
use Rattle.lexical_digits.specs.WrittenNumbers.{WritesDecimal}
use Rattle.lexical_digits.proofs.LongNumbers.{decimal_is_front, stands}
use Rattle.lexical_digits.proofs.WordsOfDigits.{raised_none}
use Rattle.lexical_parse_integer.specs.Grammar.{complete}
use Rattle.lexical_parse_integer.specs.Plain.{IsBehind, IsPlain, keeps_zero_rule}
use Rattle.lexical_parse_integer.proofs.ForCallers.{table_read}
use Rattle.lexical_fields.specs.Numerals.{IsNumeral}

-- a number is below the power of ten that has one digit more
pub written_below : (digits : List ℕ) (number : ℕ) → WritesDecimal 0 digits number → number < 10 ^ length digits
written_below digits number writes =
    let front = decimal_is_front digits number writes in
    subst (λ n. n < 10 ^ length digits) (sym (pos-injective number _ front.worth)) front.below

-- up to six digits write a number below a million
pub below_million : (count : ℕ) (digits : List ℕ) (number : ℕ) → count ≤ 6 → count ≤ length digits
    → WritesDecimal 0 (take count digits) number → number < 1000000
below_million count digits number few low writes =
    let size = length-take-le count digits low in
    let below : number < 10 ^ count =
    subst (λ n. number < 10 ^ n) size (written_below (take count digits) number writes) in
    let most : 10 ^ count ≤ 10 ^ 6 = pow-le-pow_right (omega arith) few in
    omega (arith, below, most)

-- a minus in front of digits is a sign, where the type has numbers below 0
behind_sign : (is_negative : Bool) (type : IntegerType) (text digits : List ℕ)
    → text ≡ (if is_negative then minus ∷ digits else digits) → (is_negative ≡ true → type.is_signed ≡ true)
    → IsBehind is_negative type text digits
behind_sign false type text digits is signed = is
behind_sign true type text digits is signed = (is, signed refl)

-- a numeral stands for its number under a format without punctuation, where it keeps that one's rule on zeros and the type
-- has the number
pub numeral_complete : (format : Format) (type : IntegerType) (is_negative : Bool) (number : ℕ) (text : List ℕ)
    (n : IsNumeral is_negative number text) → IsPlain format → format.mantissa_radix ≡ 10
    → keeps_zero_rule format n.digits ≡ true → (is_negative ≡ true → type.is_signed ≡ true)
    → IsNumber type (with_sign is_negative number)
    → complete format type text ≡ Ok (with_sign is_negative number)
numeral_complete format type is_negative number text n plain ten rule signed fits =
    table_read format type 10 is_negative text n.digits (with_sign is_negative number) plain ten
    (record { low = omega arith; high = omega arith }) (behind_sign is_negative type text n.digits n.text_is signed)
    (omega (arith, n.some)) rule (stands type is_negative n.digits number (with_sign is_negative number) n.writes refl fits)

-- ---- its bytes

-- a byte that a numeral may have at a place: a digit, or a minus in front
abbrev pub IsNumeralByte : ℕ → ℕ → Type 0
IsNumeralByte place byte = (is_some (digit 10 byte) ≡ true) ⊎ ((place ≡ 0) × (byte ≡ minus))

-- each byte of digits is one
digit_there : (digits : List ℕ) → AreDigits 10 digits → (k : ℕ) → k < length digits
    → is_some (digit 10 (get_or digits k 0)) ≡ true
digit_there [] all k low = absurd (omega arith)
digit_there (d ∷ ds) all zero low = all.0
digit_there (d ∷ ds) all (suc k) low = digit_there ds all.1 k (omega arith)

-- the digits of a numeral are digits
numeral_digits : (is_negative : Bool) (number : ℕ) (text : List ℕ) (n : IsNumeral is_negative number text)
    → AreDigits 10 n.digits
numeral_digits is_negative number text n = subst (AreDigits 10) (raised_none n.digits) n.writes.digits

-- each byte of a numeral
pub numeral_bytes : (is_negative : Bool) (number : ℕ) (text : List ℕ) → IsNumeral is_negative number text
    → (k : ℕ) → k < length text → IsNumeralByte k (get_or text k 0)
numeral_bytes is_negative number text n k low =
    each is_negative n.digits n.text_is (numeral_digits is_negative number text n) k low
  where
    each : (is_negative : Bool) (digits : List ℕ) → text ≡ (if is_negative then minus ∷ digits else digits)
        → AreDigits 10 digits → (k : ℕ) → k < length text → IsNumeralByte k (get_or text k 0)
    each false digits is all k low =
        inl (ap (λ bytes. is_some (digit 10 (get_or bytes k 0))) is
        ∙ digit_there digits all k (omega (arith, ap length is, low)))
    each true digits is all zero low = inr (refl, ap (λ bytes. get_or bytes 0 0) is)
    each true digits is all (suc k) low =
        inl (ap (λ bytes. is_some (digit 10 (get_or bytes (suc k) 0))) is
        ∙ digit_there digits all k (omega (arith, ap length is, low)))

-- what is neither a digit nor a minus is no byte of a numeral
pub numeral_without : (other : ℕ) → is_some (digit 10 other) ≡ false → other ≢ minus
    → (is_negative : Bool) (number : ℕ) (text : List ℕ) → IsNumeral is_negative number text
    → (k : ℕ) → k < length text → get_or text k 0 ≢ other
numeral_without other no_digit no_minus is_negative number text n k low same =
    elim (numeral_bytes is_negative number text n k low) [
      | inl is_digit ↦ false≢true (sym no_digit ∙ ap (λ byte. is_some (digit 10 byte)) (sym same) ∙ is_digit)
      | inr is_minus ↦ no_minus (sym same ∙ is_minus.1)
    ]

-- a numeral has a byte
pub numeral_some : (is_negative : Bool) (number : ℕ) (text : List ℕ) → IsNumeral is_negative number text
    → 0 < length text
numeral_some is_negative number text n = by_sign is_negative n.digits n.text_is n.some
  where
    by_sign : (is_negative : Bool) (digits : List ℕ) → text ≡ (if is_negative then minus ∷ digits else digits)
        → 1 ≤ length digits → 0 < length text
    by_sign false digits is some = omega (arith, ap length is, some)
    by_sign true digits is some = omega (arith, ap length is)

-- the last byte of a numeral is a digit
pub numeral_ends : (is_negative : Bool) (number : ℕ) (text : List ℕ) → IsNumeral is_negative number text
    → is_some (digit 10 (get_or text (length text - 1) 0)) ≡ true
numeral_ends is_negative number text n =
    by_sign is_negative n.digits n.text_is (numeral_digits is_negative number text n) n.some
  where
    by_sign : (is_negative : Bool) (digits : List ℕ) → text ≡ (if is_negative then minus ∷ digits else digits)
        → AreDigits 10 digits → 1 ≤ length digits → is_some (digit 10 (get_or text (length text - 1) 0)) ≡ true
    by_sign false digits is all some =
        ap (λ bytes. is_some (digit 10 (get_or bytes (length text - 1) 0))) is
        ∙ digit_there digits all (length text - 1) (omega (arith, ap length is, some))
    by_sign true digits is all some =
        let last : length text - 1 ≡ suc (length digits - 1) = omega (arith, ap length is, some) in
        ap (λ bytes. is_some (digit 10 (get_or bytes (length text - 1) 0))) is
        ∙ ap (λ place. is_some (digit 10 (get_or (minus ∷ digits) place 0))) last
        ∙ digit_there digits all (length digits - 1) (omega (arith, some))
