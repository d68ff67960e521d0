-- Digits around a point, behind a minus or none: what they stand for, and what their bytes are.
use Rattle.std.proofs.Common.{◌≡◌, ◌≢◌, ◌∙◌, ℕ, zero, suc, ◌+◌, ◌-◌, ◌*◌, ◌^◌, ◌<◌, ◌≤◌, ◌==◌, ◌&&◌, Bool, true, false, cond, List, [], ◌∷◌, ◌++◌, length, length-drop, length-take-le, get_or, take, drop, is_some, Option, Some, None, Ok, refl, ap, sym, subst, arith, ◌⊎◌, inl, inr}
use Rattle.std.proofs.lemmas.Bool.{and_right, cases_lt, eqb-true, false≢true}
use Rattle.std.proofs.lemmas.Bool.Decides.{nat_tests}
use Rattle.std.proofs.lemmas.List.{drop-take, get_or-take}
use Rattle.std.specs.Prelude.{if◌then◌else◌, slice_range, IsNone, IsTrue}
use mir.Val.{bool_byte}
use Rattle.lexical_util.specs.Ascii.{minus}
use Rattle.lexical_util.specs.Digit.{digit}
use Rattle.lexical_util.specs.Format.{Format}
use Rattle.lexical_util.specs.Number.{IntegerType, IsNumber}
use Rattle.lexical_digits.specs.Value.{with_sign}
use Rattle.lexical_digits.specs.Words.{AreDigits, word_value}
use Rattle.lexical_digits.specs.WrittenNumbers.{WritesDecimal}
use Rattle.lexical_digits.proofs.WordsOfDigits.{raised_none}
use Rattle.lexical_parse_integer.specs.Laws.{TellsDigits}
use Rattle.lexical_parse_integer.specs.Plain.{IsBehind, IsPlain}
use Rattle.lexical_fixed.specs.Fixed.{Fixed}
use Rattle.lexical_fixed.specs.Grammar.{complete_fixed, is_negative}
use Rattle.lexical_fixed.specs.Quick.{IsInUnits, IsJoined, begins_with_zero, leads_with_zero, without, without_point}
use Rattle.lexical_fixed.specs.Validity.{fixed_fault}
use Rattle.lexical_fixed.specs.declared.error.FixedFormatError.{FixedFormatError}
use Rattle.lexical_fixed.proofs.ShortNumbers.{minus_is, stands_there}
use Rattle.lexical_fixed.proofs.NumbersInUnits.{units_read}
use Rattle.lexical_tables.specs.Amounts.{IsAmount, IsAmountText, IsBehindPoint, KeepsZeroRule}
use Rattle.lexical_tables.specs.Quotes.{quote}
use Rattle.lexical_fields.proofs.FieldsInParts.{either}
use Rattle.lexical_tables.proofs.numerals.AmountBytes.{without_is}

-- ---- the bytes

abbrev IsDigit : ℕ → Type 0
IsDigit byte = is_some (digit 10 byte) ≡ true

digit_there : (digits : List ℕ) → AreDigits 10 digits → (k : ℕ) → k < length digits → IsDigit (get_or digits k 0)
digit_there [] all k low = absurd (omega arith)
digit_there (d ∷ ds) all zero low = all.0
digit_there (d ∷ ds) all (suc k) low = digit_there ds all.1 k (omega arith)

-- each byte but the one at a place
others_there : (place : ℕ) (bytes : List ℕ) → AreDigits 10 (take place bytes ++ drop (suc place) bytes) → (k : ℕ)
    → k < length bytes → k ≢ place → IsDigit (get_or bytes k 0)
others_there place [] all k low other = absurd (omega arith)
others_there zero (b ∷ bs) all zero low other = absurd (other refl)
others_there zero (b ∷ bs) all (suc k) low other = digit_there bs all k (omega arith)
others_there (suc place) (b ∷ bs) all zero low other = all.0
others_there (suc place) (b ∷ bs) all (suc k) low other =
    others_there place bs all.1 k (omega arith) (λ same. other (ap suc same))

module _ (point places : ℕ) (takes : Bool) (digits : List ℕ) (behind number : ℕ)
    (at : IsBehindPoint point places takes digits behind) (some : 1 ≤ length digits)
    (writes : WritesDecimal 0 (without_point behind digits) number) where
  abbrev place : ℕ
  place = length digits - 1 - behind

  -- without a point all are digits
  abbrev NoPoint : Type 0
  NoPoint = (behind ≡ 0) × WritesDecimal 0 digits number

  -- and with it those around it
  abbrev OnePoint : Type 0
  OnePoint = (1 ≤ behind) × WritesDecimal 0 (without place digits) number

  by_point : NoPoint ⊎ OnePoint
  by_point = elim (cases_lt 0 behind) [
    | inl lt ↦
        let other : (behind == 0) ≡ false = grind (arith, nat_tests, lt) in
        inr (lt, subst (λ t. WritesDecimal 0 (cond t digits (without place digits)) number) other writes)
    | inr ge ↦
        let none : (behind == 0) ≡ true = grind (arith, nat_tests, ge) in
        inl (omega (arith, ge), subst (λ t. WritesDecimal 0 (cond t digits (without place digits)) number) none writes)
  ]

  joined_of : (bytes : List ℕ) → WritesDecimal 0 bytes number → IsJoined bytes number
  joined_of bytes writes = record {
    digits = subst (AreDigits 10) (raised_none bytes) writes.digits;
    worth = subst (λ bs. number ≡ word_value 10 bs) (raised_none bytes) writes.worth;
  }

  -- each byte is a digit, but for a point with one on both sides
  abbrev IsByte : ℕ → Type 0
  IsByte k = IsDigit (get_or digits k 0) ⊎ ((get_or digits k 0 ≡ point) × (1 ≤ k) × (k + 1 < length digits))

  bytes : (k : ℕ) → k < length digits → IsByte k
  bytes k low = elim by_point [
    | inl none ↦ inl (digit_there digits (joined_of digits none.1).digits k low)
    | inr one ↦
        let room = at.room one.0 in
        let all = subst (AreDigits 10) (without_is place digits) (joined_of (without place digits) one.1).digits in
        elim (cases_lt k place) [
          | inl lt ↦ inl (others_there place digits all k low (λ same. omega (arith, lt, same)))
          | inr ge ↦ elim (cases_lt place k) [
            | inl gt ↦ inl (others_there place digits all k low (λ same. omega (arith, gt, same)))
            | inr le ↦
                let here : k ≡ place = omega (arith, ge, le) in
                inr (ap (λ n. get_or digits n 0) here ∙ at.stands one.0, omega (arith, here, room), omega (arith, here, room, one.0))
          ]
        ]
  ]

  first_digit : IsDigit (get_or digits 0 0)
  first_digit = elim (bytes 0 (omega (arith, some))) [
    | inl is ↦ is
    | inr point ↦ absurd (omega (arith, point.1))
  ]

  last_digit : IsDigit (get_or digits (length digits - 1) 0)
  last_digit = elim (bytes (length digits - 1) (omega (arith, some))) [
    | inl is ↦ is
    | inr point ↦ absurd (omega (arith, point.2, some))
  ]

  unquoted : point ≢ quote → (k : ℕ) → k < length digits → get_or digits k 0 ≢ quote
  unquoted other k low same = elim (bytes k low) [
    | inl is ↦ false≢true (ap (λ byte. is_some (digit 10 byte)) (sym same) ∙ is)
    | inr there ↦ other (sym there.0 ∙ same)
  ]

  in_minus : point ≢ quote → (k : ℕ) → k < length (minus ∷ digits) → get_or (minus ∷ digits) k 0 ≢ quote
  in_minus other zero low same = omega (arith, same)
  in_minus other (suc k) low same = unquoted other k (omega (arith, low)) same

  abbrev text_of : Bool → List ℕ
  text_of b = if b then minus ∷ digits else digits

  text_is : (b : Bool) → point ≢ quote → IsAmountText (text_of b)
  text_is false other = record { ends = last_digit; unquoted = unquoted other }
  text_is true other = record {
    ends =
        let last : length (minus ∷ digits) - 1 ≡ suc (length digits - 1) = omega (arith, some) in
        ap (λ k. is_some (digit 10 (get_or (minus ∷ digits) k 0))) last ∙ last_digit;
    unquoted = in_minus other;
  }

  -- ---- the number

  module _ (law : (format : Format) (type : IntegerType) (text : List ℕ) → IsNone format.digit_separator → IsNone format.base_suffix
      → TellsDigits format type text) where
    abbrev units : ℕ
    units = number * 10 ^ (places - behind)

    module _ (f : Fixed) (t : IntegerType) (b : Bool) (valid : fixed_fault f ≡ None) (plain : IsPlain f.integer) (rule : KeepsZeroRule f b (text_of b))
        (same_point : f.point ≡ point) (same_places : f.places ≡ places) (same_fewer : f.takes_fewer ≡ takes)
        (fits : IsNumber t (with_sign b units)) (signed : IsTrue b → t.is_signed ≡ true) where
      no_fault : (found : Option FixedFormatError) → found ≡ None → IsNone found
      no_fault None is = refl
      no_fault (Some fault) is = absurd cc

      behind_sign : (b : Bool) → (IsTrue b → t.is_signed ≡ true) → IsBehind b t (text_of b) digits
      behind_sign false signed = refl
      behind_sign true signed = (refl, signed refl)

      no_minus : (get_or digits 0 0 == 45) ≡ false
      no_minus = elim (either (get_or digits 0 0 == 45)) [
        | inl is ↦ absurd (false≢true (ap (λ byte. is_some (digit 10 byte)) (sym (eqb-true (get_or digits 0 0) 45 is)) ∙ first_digit))
        | inr other ↦ other
      ]

      minus_here : (b : Bool) → (IsTrue b → t.is_signed ≡ true) → b ≡ is_negative t (text_of b)
      minus_here false signed =
          sym (ap (λ m. t.is_signed && m) no_minus ∙ and_right t.is_signed false refl) ∙ minus_is t digits (omega (arith, some))
      minus_here true signed =
          sym (ap (λ s. s && true) (signed refl)) ∙ minus_is t (minus ∷ digits) (omega arith)

      left : places ≡ f.places → (f.places ≤ behind) ⊎ (f.takes_fewer ≡ true)
      left same = elim (cases_lt behind places) [
        | inl lt ↦ inr (same_fewer ∙ at.takes lt)
        | inr ge ↦ inl (omega (arith, ge, same))
      ]

      in_units : IsInUnits f t b digits (with_sign b units)
      in_units = record {
        count = behind;
        number = number;
        parted = record {
          some = some;
          room = omega (arith, at.most, same_places);
          taken = left (sym same_places);
          before = at.room;
          point = λ one. stands_there f.point digits place (let room = at.room one in omega (arith, room, one)) (at.stands one ∙ sym same_point);
        };
        joined = joined_of (without_point behind digits) writes;
        worth = ap (λ n. with_sign b (number * 10 ^ (n - behind))) (sym same_places);
        fits = fits;
      }

      read_units : complete_fixed f t (text_of b) ≡ Ok (with_sign b units)
      read_units =
          units_read f t b (text_of b) digits (with_sign b units) (no_fault (fixed_fault f) valid) plain
          (rule t digits (behind_sign b signed)) (law f.integer t (text_of b)) (behind_sign b signed) (minus_here b signed) in_units

    -- a text of them stands for the units
    amount_of : (b : Bool) → IsAmount point places takes b units (text_of b)
    amount_of b = record {
      stands = λ f t valid plain rule p n w fits signed. read_units f t b valid plain rule p n w fits signed;
      bytes = text_is b;
    }

-- ---- at the front of a text

-- a point with all places behind it
pub all_behind : (point places : ℕ) (takes : Bool) (held : List ℕ) (count : ℕ) → count ≤ length held → places + 2 ≤ count
    → get_or held (count - 1 - places) 0 ≡ point → IsBehindPoint point places takes (take count held) places
all_behind point places takes held count within room at =
    let long = length-take-le count held within in record {
      most = omega arith;
      takes = λ less. absurd (omega (arith, less));
      room = λ some. omega (arith, room, long);
      stands = λ some.
          ap (λ n. get_or (take count held) (n - 1 - places) 0) long
          ∙ get_or-take count held (count - 1 - places) 0 (omega (arith, room)) ∙ at;
    }

split_sign : (b : Bool) (text : List ℕ) (size count start : ℕ) → start ≡ bool_byte b → start + count ≡ size
    → 1 ≤ count → b ≡ (get_or text 0 0 == 45)
    → take size text ≡ (if b then minus ∷ take count (drop start text) else take count (drop start text))
split_sign false text size count start at whole some is =
    let none : start ≡ 0 = at in
    let same : size ≡ count = omega (arith, whole, none) in
    ap (λ n. take n text) same ∙ ap (λ n. take count (drop n text)) (sym none)
split_sign true [] size count start at whole some is = absurd cc
split_sign true (c ∷ cs) size count start at whole some is =
    let one : start ≡ 1 = at in
    let same : size ≡ suc count = omega (arith, whole, one) in
    ap (λ n. take n (c ∷ cs)) same ∙ ap (λ byte. byte ∷ take count cs) (eqb-true c 45 (sym is))
    ∙ ap (λ n. minus ∷ take count (drop n (c ∷ cs))) (sym one)

pub front_amount : (point places : ℕ) (takes b : Bool) (text held : List ℕ) (size count start behind number power : ℕ)
    → start ≡ bool_byte b → held ≡ drop start text → start + count ≡ size → 1 ≤ count → size ≤ length text
    → b ≡ (get_or text 0 0 == 45)
    → IsBehindPoint point places takes (take count held) behind
    → WritesDecimal 0 (without_point behind (take count held)) number
    → power ≡ 10 ^ (places - behind)
    → ((format : Format) (type : IntegerType) (text : List ℕ) → IsNone format.digit_separator → IsNone format.base_suffix
    → TellsDigits format type text)
    → IsAmount point places takes b (number * power) (take size text)
front_amount point places takes b text held size count start behind number power at tail whole some room is it writes scale law =
    let digits = take count held in
    let held_long : length held ≡ length text - start = ap length tail ∙ length-drop start text in
    let long : length digits ≡ count = length-take-le count held (omega (arith, held_long, room, whole)) in
    let same : take count (drop start text) ≡ digits = ap (take count) (sym tail) in
    subst (IsAmount point places takes b (number * power))
    (ap (λ ds. if b then minus ∷ ds else ds) (sym same) ∙ sym (split_sign b text size count start at whole some is))
    (subst (λ p. IsAmount point places takes b (number * p) (if b then minus ∷ digits else digits)) (sym scale)
    (amount_of point places takes digits behind number it (omega (arith, long, some)) writes law b))

-- ---- the rule on zeros

sliced : (b : Bool) (text : List ℕ) (size : ℕ) → slice_range text (bool_byte b) size ≡ drop (bool_byte b) (take size text)
sliced false text size = let same : size - 0 ≡ size = omega arith in ap (λ n. take n text) same
sliced true text zero = refl
sliced true text (suc n) =
    let back : suc n - 1 ≡ n = omega arith in
    let next : 1 + n ≡ suc n = omega arith in
    ap (λ k. take k (drop 1 text)) back ∙ sym (drop-take 1 n text) ∙ ap (λ k. drop 1 (take k text)) next

-- one that isn't broken in what stands behind the minus is kept
pub keeps_rule : (f : Fixed) (has_rule : Bool) (point : ℕ) (b : Bool) (text : List ℕ) (size : ℕ) → has_rule ≡ f.integer.no_integer_leading_zeros → point ≡ f.point → b ≡ (get_or text 0 0 == 45)
    → (has_rule && begins_with_zero point (slice_range text (bool_byte (get_or text 0 0 == 45)) size)) ≡ false → KeepsZeroRule f b (take size text)
keeps_rule f has_rule point b text size same_rule same_point is kept = λ type digits behind.
    let held : slice_range text (bool_byte b) size ≡ digits = sliced b text size ∙ held_behind b type digits behind in
    ap (λ ds. leads_with_zero f ds) (sym held) ∙ ap (λ r. r && begins_with_zero f.point (slice_range text (bool_byte b) size)) (sym same_rule)
    ∙ ap (λ n. has_rule && begins_with_zero n (slice_range text (bool_byte b) size)) (sym same_point)
    ∙ ap (λ m. has_rule && begins_with_zero point (slice_range text (bool_byte m) size)) is ∙ kept
  where
    held_behind : (b : Bool) (type : IntegerType) (digits : List ℕ) → IsBehind b type (take size text) digits → drop (bool_byte b) (take size text) ≡ digits
    held_behind false type digits same = same
    held_behind true type digits same = ap (drop 1) same.0
