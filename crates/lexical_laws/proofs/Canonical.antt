-- A text that is read as JSON's integers are is what std prints of its value, or `-0`.
use Rattle.std.proofs.Common.{◌≡◌, ℕ, zero, suc, ◌+◌, ◌-◌, ◌*◌, ◌^◌, ◌<◌, ◌≤◌, Bool, true, false, not, cond, List, [], ◌∷◌, ◌++◌, length, map, filter, Some, None, Ok, refl, sym, ap, subst, ◌∙◌, arith, ◌⊎◌, inl, inr}
use Rattle.std.proofs.Math.IntN.{ℤ}
use Rattle.std.proofs.Math.Nat.{mul-le-mul_right, one-le-pow, pow-suc}
use Rattle.std.proofs.lemmas.Bool.{cases_lt, false≢true, ltb-true}
use Rattle.std.proofs.lemmas.Bool.Decides.{nat_tests}
use Rattle.std.proofs.lemmas.List.{append-nil, length-map}
use Rattle.std.specs.Fmt.{decimal, digits, signed_decimal}
use Rattle.std.specs.Prelude.{◌≢◌, nat_lt, slice_get}
use Rattle.lexical_util.specs.Digit.{IsRadix, digit, is_between, value_if_below}
use Rattle.lexical_util.specs.Format.{json}
use Rattle.lexical_util.specs.Number.{IntegerType, IsNumber}
use Rattle.lexical_parse_integer.specs.Affixes.{is_affix, named_radix, octal_zero_at}
use Rattle.lexical_parse_integer.specs.Grammar.{complete}
use Rattle.lexical_parse_integer.specs.Laws.{IsNumeralOf, Writes, WritesShortest}
use Rattle.lexical_parse_integer.specs.Runs.{are_same}
use Rattle.lexical_parse_integer.specs.Value.{positional_value, with_sign}
use Rattle.lexical_laws.specs.Integer.{IsInteger, IsPrefix, IsSign, IsSuffix, is_separator}
use Rattle.lexical_laws.specs.Integer.IsPrefix.{no_prefix, a_prefix}
use Rattle.lexical_laws.specs.Integer.IsSign.{no_sign as none, a_plus, a_minus}
use Rattle.lexical_laws.specs.Integer.IsSuffix.{no_suffix, a_suffix}
use Rattle.lexical_laws.proofs.MadeIsRead.{some_length}
use Rattle.lexical_laws.proofs.ReadIsMade.{read_is_integer}

-- ---- decimal digits of one length and one value are the same bytes

-- the bytes are digits of these values
abbrev HaveDigits : List ℕ → List ℕ → Type 0
HaveDigits bytes ds = map (λ byte. digit 10 byte) bytes ≡ map Some ds

digit_byte : (c d : ℕ) → digit 10 c ≡ Some d → (c ≡ 48 + d) × (d < 10)
digit_byte c d e = by_tests (is_between 48 57 c) (is_between 97 122 c) (is_between 65 90 c) refl refl refl e
  where
    too_great : (v : ℕ) → 10 ≤ v → value_if_below 10 (Some v) ≡ Some d → ⊥
    too_great v low e = let test : nat_lt v 10 ≡ false = grind (arith, nat_tests) in let e' = rw test at e in cc

    by_value : (v : ℕ) → c ≡ 48 + v → (b : Bool) → nat_lt v 10 ≡ b → cond b (Some v) None ≡ Some d → (c ≡ 48 + d) × (d < 10)
    by_value v is false test e = cc
    by_value v is true test e = let same : v ≡ d = cc in let low = ltb-true v 10 test in (omega arith, omega arith)

    by_tests : (n l u : Bool) → is_between 48 57 c ≡ n → is_between 97 122 c ≡ l → is_between 65 90 c ≡ u →
        value_if_below 10 (cond n (Some (c - 48)) (cond l (Some (c - 97 + 10)) (cond u (Some (c - 65 + 10)) None))) ≡ Some d → (c ≡ 48 + d) × (d < 10)
    by_tests true l u a b c' e = by_value (c - 48) (grind (arith, nat_tests)) (nat_lt (c - 48) 10) refl e
    by_tests false true u a b c' e = absurd (too_great (c - 97 + 10) (omega arith) e)
    by_tests false false true a b c' e = absurd (too_great (c - 65 + 10) (omega arith) e)
    by_tests false false false a b c' e = cc

digits_length : (bytes ds : List ℕ) → HaveDigits bytes ds → length bytes ≡ length ds
digits_length bytes ds all = sym (length-map bytes (λ byte. digit 10 byte)) ∙ ap length all ∙ length-map ds Some

below : (bytes ds : List ℕ) → HaveDigits bytes ds → positional_value 10 ds < 10 ^ length ds
below [] [] all = one-le-pow 0 10 (omega arith)
below [] (d ∷ ds) all = cc
below (c ∷ bytes) [] all = cc
below (c ∷ bytes) (d ∷ ds) all =
    let first = digit_byte c d (cc) in
    let rest = below bytes ds (cc) in
    let size : 10 ^ suc (length ds) ≡ 10 ^ length ds * 10 = pow-suc 10 (length ds) in
    let most : d * 10 ^ length ds ≤ 9 * 10 ^ length ds = mul-le-mul_right (10 ^ length ds) (omega (arith, first.1)) in
    rw size (omega arith)

same_parts : (d e p a b : ℕ) → a < p → b < p → d * p + a ≡ e * p + b → (d ≡ e) × (a ≡ b)
same_parts d e p a b la lb same = elim (cases_lt d e) [
  | inl lt ↦ (let grows : (d + 1) * p ≤ e * p = mul-le-mul_right p (omega arith) in absurd (omega arith))
  | inr ge ↦ elim (cases_lt e d) [
    | inl lt ↦ (let grows : (e + 1) * p ≤ d * p = mul-le-mul_right p (omega arith) in absurd (omega arith))
    | inr le ↦ (let is : d ≡ e = omega arith in let same' = rw is at same in (is, omega arith))
  ]
]

same_bytes : (xs ys ds es : List ℕ) → HaveDigits xs ds → HaveDigits ys es → length xs ≡ length ys → positional_value 10 ds ≡ positional_value 10 es → xs ≡ ys
same_bytes [] [] ds es hx hy size same = refl
same_bytes [] (y ∷ ys) ds es hx hy size same = absurd (omega arith)
same_bytes (x ∷ xs) [] ds es hx hy size same = absurd (omega arith)
same_bytes (x ∷ xs) (y ∷ ys) [] es hx hy size same = cc
same_bytes (x ∷ xs) (y ∷ ys) (d ∷ ds) [] hx hy size same = cc
same_bytes (x ∷ xs) (y ∷ ys) (d ∷ ds) (e ∷ es) hx hy size same =
    let first = digit_byte x d (cc) in
    let other = digit_byte y e (cc) in
    let rest_x : HaveDigits xs ds = cc in
    let rest_y : HaveDigits ys es = cc in
    let lengths : length es ≡ length ds = omega (arith, digits_length xs ds rest_x, digits_length ys es rest_y) in
    let low = below xs ds rest_x in
    let low' : positional_value 10 es < 10 ^ length ds = subst (λ n. positional_value 10 es < 10 ^ n) lengths (below ys es rest_y) in
    let same' : d * 10 ^ length ds + positional_value 10 ds ≡ e * 10 ^ length ds + positional_value 10 es = same ∙ ap (λ n. e * 10 ^ n + positional_value 10 es) lengths in
    let parts = same_parts d e (10 ^ length ds) (positional_value 10 ds) (positional_value 10 es) low low' same' in
    let bytes : x ≡ y = omega (arith, first.0, other.0, parts.0) in
    let rest = same_bytes xs ys ds es rest_x rest_y (omega arith) parts.1 in
    rw (bytes, rest) refl

-- ---- shortest numerals

-- two shortest numerals of a number have the same bytes
same_numeral : (n : ℕ) (xs ys : List ℕ) → WritesShortest 10 n xs → WritesShortest 10 n ys → xs ≡ ys
same_numeral n xs ys a b = same_bytes xs ys a.writes.digits b.writes.digits a.writes.bytes b.writes.bytes (let l = a.shortest ys b.writes in let h = b.shortest xs a.writes in omega arith) (a.writes.worth ∙ sym b.writes.worth)

-- ---- the parts of a text under JSON's format

json_sign : (t : IntegerType) (front : List ℕ) (m : Bool) → IsSign json t front m → ((front ≡ []) × (m ≡ false)) ⊎ ((front ≡ 45 ∷ []) × (m ≡ true))
json_sign t _ _ (none off) = inl (refl, refl)
json_sign t _ _ (a_plus off) = absurd (false≢true (sym off))
json_sign t _ _ (a_minus on) = inr (refl, refl)

json_prefix : (body prefix : List ℕ) (r : ℕ) → IsPrefix json body prefix r → (prefix ≡ []) × (r ≡ 10)
unfolding octal_zero_at named_radix is_affix
json_prefix body _ _ no_prefix = (refl, refl)
json_prefix body _ _ (a_prefix c r named some) = cc

json_suffix : (ds suffix : List ℕ) → IsSuffix json ds suffix → suffix ≡ []
unfolding is_affix
json_suffix ds _ no_suffix = refl
json_suffix ds _ (a_suffix c some t) = absurd (false≢true t)

json_others : (body : List ℕ) → filter (λ byte. not (is_separator json byte)) body ≡ body
unfolding are_same
json_others [] = refl
json_others (b ∷ body) = ap (λ xs. b ∷ xs) (json_others body)

-- no zero stands in front of the digits
one_or_no_zero : (body ds : List ℕ) → HaveDigits body ds → ds ≢ [] → ((d : ℕ) (rest : List ℕ) → ds ≢ 0 ∷ d ∷ rest) → (length body ≡ 1) ⊎ (slice_get body 0 ≢ Some 48)
one_or_no_zero body [] all some keeps = absurd (some refl)
one_or_no_zero body (d ∷ []) all some keeps = inl (digits_length body (d ∷ []) all)
one_or_no_zero [] (d ∷ e ∷ ds) all some keeps = cc
one_or_no_zero (c ∷ body) (d ∷ e ∷ ds) all some keeps = inr (λ here.
    let first = digit_byte c d (cc) in
    let byte : c ≡ 48 = cc in
    let zero' : d ≡ 0 = omega (arith, first.0) in
    keeps e ds (ap (λ x. x ∷ e ∷ ds) zero'))

-- What JSON says of a text that is read.
record IsJson (t : IntegerType) (text : List ℕ) (v : ℤ) : Type 0 where
  m : Bool
  body : List ℕ
  ds : List ℕ
  front : List ℕ
  parts : text ≡ front ++ body
  sign : ((front ≡ []) × (m ≡ false)) ⊎ ((front ≡ 45 ∷ []) × (m ≡ true))
  all : HaveDigits body ds
  some : ds ≢ []
  keeps : (d : ℕ) (rest : List ℕ) → ds ≢ 0 ∷ d ∷ rest
  worth : v ≡ with_sign m (positional_value 10 ds)
  fits : IsNumber t v

is_json : (t : IntegerType) (text : List ℕ) (v : ℤ) → IsInteger json t text v → IsJson t text v
unfolding octal_zero_at
is_json t text v i =
    let prefix = json_prefix i.body i.prefix i.radix i.prefix_may in
    let suffix = json_suffix i.digits i.suffix i.suffix_may in
    record {
      m = i.is_negative;
      body = i.body;
      ds = i.digits;
      front = i.sign;
      parts = i.parts ∙ ap (λ xs. i.sign ++ (xs ++ (i.body ++ i.suffix))) prefix.0 ∙ ap (λ xs. i.sign ++ (i.body ++ xs)) suffix ∙ ap (λ xs. i.sign ++ xs) (append-nil i.body);
      sign = json_sign t i.sign i.is_negative i.sign_may;
      all = sym (ap (map (λ byte. digit 10 byte)) (json_others i.body)) ∙ sym (ap (λ r. map (λ byte. digit r byte) (filter (λ byte. not (is_separator json byte)) i.body)) prefix.1) ∙ i.body_may.bytes;
      some = i.enough refl;
      keeps = i.zeros refl prefix.0 refl;
      worth = i.worth ∙ ap (λ r. with_sign i.is_negative (positional_value r i.digits)) prefix.1;
      fits = i.fits;
    }

module _ (t : IntegerType) (small : t.bits ≤ 128)
    (shortest : (radix number : ℕ) (text : List ℕ) → IsRadix radix → Writes radix number text → (length text ≡ 1) ⊎ (slice_get text 0 ≢ Some 48) → WritesShortest radix number text)
    (printed : (type : IntegerType) (value : ℤ) → type.bits ≤ 128 → IsNumber type value → IsNumeralOf 10 value (signed_decimal value)) where
  of_body : (body ds : List ℕ) → HaveDigits body ds → ds ≢ [] → ((d : ℕ) (rest : List ℕ) → ds ≢ 0 ∷ d ∷ rest) → WritesShortest 10 (positional_value 10 ds) body
  of_body body ds all some keeps =
      let size = digits_length body ds all in
      shortest 10 (positional_value 10 ds) body (record { low = omega arith; high = omega arith }) (record { digits = ds; bytes = all; some = (let n = some_length ds some in omega arith); worth = refl })
      (one_or_no_zero body ds all some keeps)

  by_number : (m : Bool) (n : ℕ) (text front body : List ℕ) (v : ℤ) → text ≡ front ++ body → ((front ≡ []) × (m ≡ false)) ⊎ ((front ≡ 45 ∷ []) × (m ≡ true)) → v ≡ with_sign m n → IsNumber t v → WritesShortest 10 n body →
      (text ≡ signed_decimal v) ⊎ (text ≡ 45 ∷ 48 ∷ [])
  unfolding digits
  by_number false n text front body v parts (inr s) worth fits writes = absurd (false≢true s.1)
  by_number true n text front body v parts (inl s) worth fits writes = absurd (false≢true (sym s.1))
  by_number false n text front body v parts (inl s) worth fits writes =
      let told : WritesShortest 10 n (decimal n) = subst (λ z. IsNumeralOf 10 z (signed_decimal z)) worth (printed t v small fits) in
      inl (parts ∙ ap (λ xs. xs ++ body) s.0 ∙ same_numeral n body (decimal n) writes told ∙ sym (ap signed_decimal worth))
  by_number true zero text front body v parts (inr s) worth fits writes =
      let told : WritesShortest 10 0 (decimal 0) = subst (λ z. IsNumeralOf 10 z (signed_decimal z)) worth (printed t v small fits) in
      inr (parts ∙ ap (λ xs. xs ++ body) s.0 ∙ ap (λ xs. 45 ∷ xs) (same_numeral 0 body (decimal 0) writes told))
  by_number true (suc n) text front body v parts (inr s) worth fits writes =
      let told : (digits : List ℕ) × (45 ∷ decimal (suc n) ≡ 45 ∷ digits) × WritesShortest 10 (suc n) digits = subst (λ z. IsNumeralOf 10 z (signed_decimal z)) worth (printed t v small fits) in
      let same : told.0 ≡ decimal (suc n) = (let e = told.1 in cc) in
      inl (parts ∙ ap (λ xs. xs ++ body) s.0 ∙ ap (λ xs. 45 ∷ xs) (same_numeral (suc n) body told.0 writes told.2 ∙ same) ∙ sym (ap signed_decimal worth))

  pub canonical : (text : List ℕ) (v : ℤ) → complete json t text ≡ Ok v → (text ≡ signed_decimal v) ⊎ (text ≡ 45 ∷ 48 ∷ [])
  canonical text v read =
      let j = is_json t text v (read_is_integer json t text v refl read) in
      by_number j.m (positional_value 10 j.ds) text j.front j.body v j.parts j.sign j.worth j.fits (of_body j.body j.ds j.all j.some j.keeps)
