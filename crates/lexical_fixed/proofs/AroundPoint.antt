-- Digits around a point, alone or with a separator among those before it: what their numbers say of the bytes.
use Rattle.std.proofs.Common.{◌≡◌, ℕ, zero, suc, ◌+◌, ◌-◌, ◌*◌, ◌^◌, ◌<◌, ◌≤◌, true, List, [], ◌∷◌, ◌++◌, length, length-append, get_or, get_or-drop, take, drop, map, Option, Some, None, IfSome, is_some, refl, sym, ap, subst, ◌∙◌, arith, inl, inr}
use Rattle.std.proofs.Math.ListN.{get_or-append}
use Rattle.std.proofs.Math.Seq.{get_or-append_right, take-add}
use Rattle.std.proofs.lemmas.Bool.{cases_eq, cases_lt, false≢true}
use Rattle.std.proofs.lemmas.List.{drop-drop, drop-take, get_or-take, length-drop, length-map, length-take-le, take-take}
use Rattle.std.proofs.lemmas.List.Elements.{filter_map-append}
use Rattle.lexical_util.specs.Digit.{digit}
use Rattle.lexical_util.specs.Format.{Format}
use Rattle.lexical_digits.specs.Value.{positional_value}
use Rattle.lexical_digits.specs.Words.{AreDigits}
use Rattle.lexical_digits.proofs.AsciiDigits.{digit_from, digit_to}
use Rattle.lexical_digits.proofs.DigitValues.{positional_value-append}
use Rattle.lexical_parse_integer.specs.Grouped.{AreGrouped, digits_among, is_digit_in}
use Rattle.lexical_parse_integer.proofs.ForCallers.{row_grouped}
use Rattle.lexical_fixed.specs.Around.{IsAround}
use Rattle.lexical_fixed.specs.Quick.{IsJoined, without}
use Rattle.lexical_fixed.proofs.JoinedDigits.{without_behind, without_length}
use Rattle.lexical_fixed.proofs.ShortNumbers.{digits_parted}

-- ---- digits alone

-- The digits among bytes that are digits alone are what these are worth.
pub among_digits : (bytes : List ℕ) → AreDigits 10 bytes → digits_among 10 bytes ≡ map (λ byte. byte - 48) bytes
among_digits [] digits = refl
among_digits (b ∷ bs) digits =
    let here : digit 10 b ≡ Some (b - 48) = digit_from 10 b (digit_to 10 b digits.0 (omega arith)) (omega arith) in
    let rest = among_digits bs digits.1 in
    rw (here, rest) refl

-- So is their number.
pub joined_worth : (bytes : List ℕ) (number : ℕ) → IsJoined bytes number → number ≡ positional_value 10 (digits_among 10 bytes)
joined_worth bytes number joined = joined.worth ∙ ap (positional_value 10) (sym (among_digits bytes joined.digits))

-- They are as many as the bytes.
pub among_length : (bytes : List ℕ) → AreDigits 10 bytes → length (digits_among 10 bytes) ≡ length bytes
among_length bytes digits = ap length (among_digits bytes digits) ∙ length-map bytes (λ byte. byte - 48)

digit_there : (bytes : List ℕ) (k : ℕ) → AreDigits 10 bytes → k < length bytes → is_digit_in 10 bytes k ≡ true
digit_there [] k digits within = absurd (omega arith)
digit_there (b ∷ bs) zero digits within = digits.0
digit_there (b ∷ bs) (suc k) digits within = digit_there bs k digits.1 (omega arith)

-- Digits alone are grouped.
pub digits_grouped : (f : Format) (bytes : List ℕ) → 0 < length bytes → AreDigits 10 bytes → AreGrouped f 10 bytes
digits_grouped f bytes some digits = row_grouped f 10 bytes some (λ k within. digit_there bytes k digits within)

-- ---- one separator among digits

-- A byte that is no digit has no part in the digits.
among_without : (k : ℕ) (bytes : List ℕ) → k < length bytes → digit 10 (get_or bytes k 0) ≡ None → digits_among 10 (without k bytes) ≡ digits_among 10 bytes
among_without k [] within none = absurd (omega arith)
among_without zero (b ∷ bs) within none = rw none refl
among_without (suc k) (b ∷ bs) within none =
    let next : suc k + 1 ≡ suc (k + 1) = omega arith in
    let rest = among_without k bs (omega arith) none in
    rw next (filter_map-append (λ byte. digit 10 byte) (b ∷ []) (without k bs) ∙ ap (λ (ds : List ℕ). digits_among 10 (b ∷ []) ++ ds) rest
    ∙ sym (filter_map-append (λ byte. digit 10 byte) (b ∷ []) bs))

-- The format's separator is no digit, wherever it stands.
separator_none : (f : Format) (byte : ℕ) → f.digit_separator ≡ Some byte → IfSome f.digit_separator (λ c. digit 10 c ≡ None) → digit 10 byte ≡ None
separator_none f byte separator no_digit = subst (λ (o : Option ℕ). IfSome o (λ c. digit 10 c ≡ None)) separator no_digit

-- So it has no part in the number of the others.
pub separated_worth : (f : Format) (k : ℕ) (bytes : List ℕ) (number : ℕ) → f.digit_separator ≡ Some (get_or bytes k 0) → IfSome f.digit_separator (λ byte. digit 10 byte ≡ None)
    → k < length bytes → IsJoined (without k bytes) number → number ≡ positional_value 10 (digits_among 10 bytes)
separated_worth f k bytes number separator no_digit within joined =
    joined_worth (without k bytes) number joined ∙ ap (positional_value 10) (among_without k bytes within (separator_none f (get_or bytes k 0) separator no_digit))

-- A byte of the first ones can be left out before the others stand behind them.
without_front : (k : ℕ) (xs ys : List ℕ) → k < length xs → without k (xs ++ ys) ≡ without k xs ++ ys
without_front k [] ys within = absurd (omega arith)
without_front zero (x ∷ xs) ys within = refl
without_front (suc k) (x ∷ xs) ys within =
    let next : suc k + 1 ≡ suc (k + 1) = omega arith in
    rw next (ap (λ (rest : List ℕ). x ∷ rest) (without_front k xs ys (omega arith)))

-- ---- groups joined

-- Groups behind groups are groups: at the border a digit stands beside a digit.
grouped_joined : (f : Format) (xs ys : List ℕ) → AreGrouped f 10 xs → AreGrouped f 10 ys → AreGrouped f 10 (xs ++ ys)
grouped_joined f xs ys a b = record {
  separators = λ i l none. elim (cases_lt i (length xs)) [
    | inl front ↦ a.separators i front (sym (left i front) ∙ none) ∙ ap Some (sym (get_or-append xs ys 0 i front))
    | inr back ↦ b.separators (i - length xs) (rest i l back) (sym (right i back) ∙ none) ∙ ap Some (sym (get_or-append_right xs ys i 0 back))
  ];
  internal = λ i l none. elim (cases_lt i (length xs)) [
    | inl front ↦ a.internal i front (sym (left i front) ∙ none)
    | inr back ↦ b.internal (i - length xs) (rest i l back) (sym (right i back) ∙ none)
  ];
  some = let some = a.some in omega (arith, size, some);
  first = left 0 a.some ∙ a.first;
  last =
      let some = b.some in
      let at : length (xs ++ ys) - 1 - length xs ≡ length ys - 1 = omega (arith, size, some) in
      right (length (xs ++ ys) - 1) (omega (arith, size, some)) ∙ ap (is_digit_in 10 ys) at ∙ b.last;
  alone = λ e i l none. elim (cases_lt (i + 1) (length xs)) [
    | inl front ↦ left (i + 1) front ∙ a.alone e i front (sym (left i (omega arith)) ∙ none)
    | inr back ↦ elim (cases_lt i (length xs)) [
      | inl border ↦
          let at : i + 1 - length xs ≡ 0 = omega arith in
          right (i + 1) back ∙ ap (is_digit_in 10 ys) at ∙ b.first
      | inr behind ↦
          let at : i + 1 - length xs ≡ i - length xs + 1 = omega arith in
          right (i + 1) back ∙ ap (is_digit_in 10 ys) at ∙ b.alone e (i - length xs) (omega (arith, size)) (sym (right i behind) ∙ none)
    ]
  ];
}
  where
    size : length (xs ++ ys) ≡ length xs + length ys
    size = length-append xs ys

    left : (i : ℕ) → i < length xs → is_digit_in 10 (xs ++ ys) i ≡ is_digit_in 10 xs i
    left i front = ap (λ c. is_some (digit 10 c)) (get_or-append xs ys 0 i front)

    right : (i : ℕ) → length xs ≤ i → is_digit_in 10 (xs ++ ys) i ≡ is_digit_in 10 ys (i - length xs)
    right i back = ap (λ c. is_some (digit 10 c)) (get_or-append_right xs ys i 0 back)

    rest : (i : ℕ) → i < length (xs ++ ys) → length xs ≤ i → i - length xs < length ys
    rest i l back = omega (arith, size)

-- Groups before a separator and groups behind it are groups: digits stand on both sides of it.
grouped_apart : (f : Format) (k : ℕ) (bytes : List ℕ) → f.digit_separator ≡ Some (get_or bytes k 0) → f.integer_internal_digit_separator ≡ true
    → k < length bytes → AreGrouped f 10 (take k bytes) → AreGrouped f 10 (drop (k + 1) bytes) → AreGrouped f 10 bytes
grouped_apart f k bytes separator internal within a b = record {
  separators = λ i l none. elim (cases_lt i k) [
    | inl front ↦ a.separators i (omega (arith, before, front)) (sym (left i front) ∙ none) ∙ ap Some (get_or-take k bytes i 0 front)
    | inr back ↦ elim (cases_eq i k) [
      | inl same ↦ separator ∙ ap (λ j. Some (get_or bytes j 0)) (sym same)
      | inr other ↦ b.separators (i - (k + 1)) (omega (arith, behind)) (sym (right i (omega arith)) ∙ none) ∙ ap Some (there i (omega arith))
    ]
  ];
  internal = λ i l none. internal;
  some = omega arith;
  first = let some = a.some in left 0 (omega (arith, before, some)) ∙ a.first;
  last =
      let some = b.some in
      let at : length bytes - 1 - (k + 1) ≡ length (drop (k + 1) bytes) - 1 = omega (arith, behind) in
      right (length bytes - 1) (omega (arith, behind, some)) ∙ ap (is_digit_in 10 (drop (k + 1) bytes)) at ∙ b.last;
  alone = λ e i l none. elim (cases_lt (i + 1) k) [
    | inl front ↦ left (i + 1) front ∙ a.alone e i (omega (arith, before, front)) (sym (left i (omega arith)) ∙ none)
    | inr back ↦ elim (cases_lt i k) [
      | inl border ↦
          let at : i ≡ length (take k bytes) - 1 = omega (arith, before) in
          absurd (false≢true (sym none ∙ left i border ∙ ap (is_digit_in 10 (take k bytes)) at ∙ a.last))
      | inr beyond ↦ elim (cases_eq i k) [
        | inl same ↦
            let at : i + 1 - (k + 1) ≡ 0 = omega arith in
            right (i + 1) (omega arith) ∙ ap (is_digit_in 10 (drop (k + 1) bytes)) at ∙ b.first
        | inr other ↦
            let at : i + 1 - (k + 1) ≡ i - (k + 1) + 1 = omega arith in
            right (i + 1) (omega arith) ∙ ap (is_digit_in 10 (drop (k + 1) bytes)) at
            ∙ b.alone e (i - (k + 1)) (omega (arith, behind)) (sym (right i (omega arith)) ∙ none)
      ]
    ]
  ];
}
  where
    before : length (take k bytes) ≡ k
    before = length-take-le k bytes (omega arith)

    behind : length (drop (k + 1) bytes) ≡ length bytes - (k + 1)
    behind = length-drop (k + 1) bytes

    left : (i : ℕ) → i < k → is_digit_in 10 bytes i ≡ is_digit_in 10 (take k bytes) i
    left i front = ap (λ c. is_some (digit 10 c)) (sym (get_or-take k bytes i 0 front))

    there : (i : ℕ) → k + 1 ≤ i → get_or (drop (k + 1) bytes) (i - (k + 1)) 0 ≡ get_or bytes i 0
    there i back = let at : k + 1 + (i - (k + 1)) ≡ i = omega arith in get_or-drop (k + 1) bytes (i - (k + 1)) 0 ∙ ap (λ j. get_or bytes j 0) at

    right : (i : ℕ) → k + 1 ≤ i → is_digit_in 10 bytes i ≡ is_digit_in 10 (drop (k + 1) bytes) (i - (k + 1))
    right i back = ap (λ c. is_some (digit 10 c)) (sym (there i back))

-- So are digits around a separator.
pub separator_grouped : (f : Format) (k : ℕ) (bytes : List ℕ) → f.digit_separator ≡ Some (get_or bytes k 0) → f.integer_internal_digit_separator ≡ true
    → 1 ≤ k → k + 1 < length bytes → AreDigits 10 (without k bytes) → AreGrouped f 10 bytes
separator_grouped f k bytes separator internal some within digits =
    let parts = digits_parted (take k bytes) (drop (k + 1) bytes) digits in
    let before = length-take-le k bytes (omega arith) in
    let behind = length-drop (k + 1) bytes in
    grouped_apart f k bytes separator internal (omega arith)
    (digits_grouped f (take k bytes) (omega (arith, before)) parts.0) (digits_grouped f (drop (k + 1) bytes) (omega (arith, behind)) parts.1)

-- ---- around a point

-- Bytes that are digits but for the point are around it, and so is their number.
pub around_joined : (f : Format) (place number : ℕ) (bytes : List ℕ) → 1 ≤ place → place < length bytes → IsJoined (without place bytes) number → IsAround f place bytes number
around_joined f place number bytes before within joined =
    let parts = digits_parted (take place bytes) (drop (place + 1) bytes) joined.digits in
    let size = length-take-le place bytes (omega arith) in
    record {
      part = digits_grouped f (take place bytes) (omega (arith, size)) parts.0;
      fraction = parts.1;
      worth = joined_worth (without place bytes) number joined;
    }

-- The same with a separator before the point, at a place.
module _ (f : Format) (k place number : ℕ) (bytes : List ℕ) (separator : f.digit_separator ≡ Some (get_or bytes k 0)) (internal : f.integer_internal_digit_separator ≡ true)
    (no_digit : IfSome f.digit_separator (λ byte. digit 10 byte ≡ None)) (some : 1 ≤ k) (before : k + 1 < place) (within : place < length bytes) (joined : IsJoined (without k (without place bytes)) number) where
  abbrev xs : List ℕ
  xs = take place bytes

  abbrev ys : List ℕ
  ys = drop (place + 1) bytes

  front_length : length xs ≡ place
  front_length = length-take-le place bytes (omega arith)

  front_byte : get_or xs k 0 ≡ get_or bytes k 0
  front_byte = get_or-take place bytes k 0 (omega arith)

  -- The digits are those without the separator.
  among_parted : digits_among 10 (without place bytes) ≡ digits_among 10 (without k (without place bytes))
  among_parted =
      let size = without_length place bytes within in
      sym (among_without k (without place bytes) (omega (arith, size))
      (ap (digit 10) (get_or-append xs ys 0 k (omega (arith, front_length)) ∙ front_byte) ∙ separator_none f (get_or bytes k 0) separator no_digit))

  -- There are as many of them as bytes beside the point and the separator.
  pub parted_length : length (digits_among 10 (without place bytes)) ≡ length bytes - 2
  parted_length =
      let once = without_length place bytes within in
      let twice = without_length k (without place bytes) (omega (arith, once)) in
      ap length among_parted ∙ among_length (without k (without place bytes)) joined.digits ∙ omega (arith, once, twice)

  -- They are around the point, and so is their number.
  pub around_parted : IsAround f place bytes number
  around_parted =
      let front = front_length in
      let parts = digits_parted (without k xs) ys
      (subst (λ (bs : List ℕ). AreDigits 10 bs) (without_front k xs ys (omega (arith, front))) joined.digits) in
      record {
        part = separator_grouped f k xs (separator ∙ ap Some (sym front_byte)) internal some (omega (arith, front)) parts.0;
        fraction = parts.1;
        worth = joined_worth (without k (without place bytes)) number joined ∙ ap (positional_value 10) (sym among_parted);
      }

  -- Where a separator stands in the point's place, all bytes are grouped.
  pub parted_grouped : f.digit_separator ≡ Some (get_or bytes place 0) → place + 1 < length bytes → AreGrouped f 10 bytes
  parted_grouped second more =
      let behind = length-drop (place + 1) bytes in
      grouped_apart f place bytes second internal within around_parted.part (digits_grouped f ys (omega (arith, behind)) around_parted.fraction)

  -- Their digits are worth the number.
  pub parted_worth : f.digit_separator ≡ Some (get_or bytes place 0) → number ≡ positional_value 10 (digits_among 10 bytes)
  parted_worth second =
      around_parted.worth ∙ ap (positional_value 10) (among_without place bytes within (separator_none f (get_or bytes place 0) second no_digit))

-- ---- bytes in front of those around a point

-- The number of all digits is that of the first ones, scaled, and that of the others.
module _ (f : Format) (k place high scale low : ℕ) (bytes : List ℕ) (before : k < place) (within : place < length bytes)
    (front : high ≡ positional_value 10 (digits_among 10 (take k bytes))) (behind : IsAround f (place - k) (drop k bytes) low)
    (size : scale ≡ 10 ^ length (digits_among 10 (without (place - k) (drop k bytes)))) where
  abbrev first : List ℕ
  first = take k bytes

  abbrev rest : List ℕ
  rest = without (place - k) (drop k bytes)

  -- The digits are those of both.
  among_behind : digits_among 10 (without place bytes) ≡ digits_among 10 first ++ digits_among 10 rest
  among_behind =
      ap (digits_among 10) (without_behind k place bytes (omega arith) (omega arith)) ∙ filter_map-append (λ byte. digit 10 byte) first rest

  -- The bytes before the point are the first ones, and those of the others that stand before it.
  part_behind : take place bytes ≡ first ++ take (place - k) (drop k bytes)
  part_behind = let at : k + (place - k) ≡ place = omega arith in ap (λ n. take n bytes) (sym at) ∙ take-add k (place - k) bytes

  -- Where these are grouped, all are around the point.
  around_after : AreGrouped f 10 (take place bytes) → IsAround f place bytes (high * scale + low)
  around_after part =
      let next : k + (place - k + 1) ≡ place + 1 = omega arith in
      record {
        part = part;
        fraction = subst (λ (bs : List ℕ). AreDigits 10 bs) (drop-drop (place - k + 1) k bytes ∙ ap (λ n. drop n bytes) next) behind.fraction;
        worth = ap (λ n. n * scale + low) front ∙ ap (λ n. positional_value 10 (digits_among 10 first) * n + low) size
            ∙ ap (λ n. positional_value 10 (digits_among 10 first) * 10 ^ length (digits_among 10 rest) + n) behind.worth
            ∙ sym (ap (positional_value 10) among_behind ∙ positional_value-append 10 (digits_among 10 first) (digits_among 10 rest));
      }

  -- Groups may stand in front.
  pub around_behind : AreGrouped f 10 (take k bytes) → IsAround f place bytes (high * scale + low)
  around_behind grouped =
      around_after (subst (λ (bs : List ℕ). AreGrouped f 10 bs) (sym part_behind) (grouped_joined f first (take (place - k) (drop k bytes)) grouped behind.part))

-- A byte behind the first ones that is no digit adds none to theirs.
among_next : (k : ℕ) (bytes : List ℕ) → k < length bytes → digit 10 (get_or bytes k 0) ≡ None → digits_among 10 (take (k + 1) bytes) ≡ digits_among 10 (take k bytes)
among_next k [] within none = absurd (omega arith)
among_next zero (b ∷ bs) within none = rw none refl
among_next (suc k) (b ∷ bs) within none =
    let next : suc k + 1 ≡ suc (k + 1) = omega arith in
    let rest = among_next k bs (omega arith) none in
    rw next (filter_map-append (λ byte. digit 10 byte) (b ∷ []) (take (k + 1) bs) ∙ ap (λ (ds : List ℕ). digits_among 10 (b ∷ []) ++ ds) rest
    ∙ sym (filter_map-append (λ byte. digit 10 byte) (b ∷ []) (take k bs)))

-- Groups and a separator may stand in front of digits around the point.
pub around_apart : (f : Format) (k place high scale low : ℕ) (bytes : List ℕ) → f.digit_separator ≡ Some (get_or bytes k 0) → f.integer_internal_digit_separator ≡ true
    → IfSome f.digit_separator (λ byte. digit 10 byte ≡ None) → k + 1 < place → place < length bytes → AreGrouped f 10 (take k bytes) → high ≡ positional_value 10 (digits_among 10 (take k bytes))
    → IsJoined (without (place - (k + 1)) (drop (k + 1) bytes)) low → scale ≡ 10 ^ (length bytes - (k + 2)) → IsAround f place bytes (high * scale + low)
around_apart f k place high scale low bytes separator internal no_digit before within grouped worth joined size =
    let next : ℕ = place - (k + 1) in
    let rest : List ℕ = drop (k + 1) bytes in
    let rest_length = length-drop (k + 1) bytes in
    let front_length = length-take-le place bytes (omega arith) in
    let none = separator_none f (get_or bytes k 0) separator no_digit in
    let byte : get_or (take place bytes) k 0 ≡ get_or bytes k 0 = get_or-take place bytes k 0 (omega arith) in
    let at : k + 1 + next ≡ place = omega arith in
    let part : take next rest ≡ drop (k + 1) (take place bytes) = sym (drop-take (k + 1) next bytes) ∙ ap (λ n. drop (k + 1) (take n bytes)) at in
    let behind = around_joined f next low rest (omega arith) (omega (arith, rest_length)) joined in
    let digits : length bytes - (k + 2) ≡ length (digits_among 10 (without next rest)) =
    sym (among_length (without next rest) joined.digits ∙ without_length next rest (omega (arith, rest_length)) ∙ omega (arith, rest_length)) in
    around_after f (k + 1) place high scale low bytes before within (worth ∙ ap (positional_value 10) (sym (among_next k bytes (omega arith) none))) behind
    (size ∙ ap (λ n. 10 ^ n) digits)
    (grouped_apart f k (take place bytes) (separator ∙ ap Some (sym byte)) internal (omega (arith, front_length))
    (subst (λ (bs : List ℕ). AreGrouped f 10 bs) (sym (take-take k place bytes (omega arith))) grouped)
    (subst (λ (bs : List ℕ). AreGrouped f 10 bs) part behind.part))
