-- A text has the same value in other letter case.
use Rattle.std.proofs.Common.{◌≡◌, ℕ, zero, suc, ◌+◌, Bool, true, false, not, ◌&&◌, ◌||◌, cond, List, [], ◌∷◌, ◌++◌, length, map, filter, Option, Some, None, IsNone, Ok, refl, sym, ap, subst, ◌∙◌, arith}
use Rattle.std.proofs.Math.IntN.{ℤ}
use Rattle.std.proofs.lemmas.Bool.{eq-eqb, false≢true, or_parts}
use Rattle.std.proofs.lemmas.Bool.Decides.{nat_tests}
use Rattle.std.proofs.lemmas.List.{length-map}
use Rattle.std.specs.Char.{is_ascii_alphabetic}
use Rattle.std.specs.Prelude.{◌==◌, replicate, slice_get}
use Rattle.lexical_util.specs.Digit.{digit, is_between}
use Rattle.lexical_util.specs.Format.{Format}
use Rattle.lexical_util.specs.Number.{IntegerType}
use Rattle.lexical_util.specs.Validity.{fault, lower_case}
use Rattle.lexical_util.proofs.Valid.{digit-alike}
use Rattle.lexical_parse_integer.specs.Affixes.{bare_radix, is_affix, literal_radix, named_radix, matches, octal_zero_at}
use Rattle.lexical_parse_integer.specs.Grammar.{complete}
use Rattle.lexical_parse_integer.specs.Runs.{are_same}
use Rattle.lexical_laws.specs.Integer.{HasRun, IsInteger, IsPrefix, IsSign, IsSuffix, is_separator, may_lead, may_part}
use Rattle.lexical_laws.specs.Integer.IsPrefix.{no_prefix, a_prefix}
use Rattle.lexical_laws.specs.Integer.IsSign.{no_sign as none, a_plus, a_minus}
use Rattle.lexical_laws.specs.Integer.IsSuffix.{no_suffix, a_suffix}
use Rattle.lexical_laws.specs.Keeping.{AreAlike, IgnoresCase}
use Rattle.lexical_laws.proofs.Bodies.{BytesAre}
use Rattle.lexical_laws.proofs.MadeIsRead.{integer_is_read}
use Rattle.lexical_laws.proofs.ReadIsMade.{read_is_integer}

-- ---- bytes

-- a byte like one that is no letter is that one
kept : (c m : ℕ) → is_between 97 122 m ≡ false → lower_case c ≡ m → c ≡ m
kept c m other e = by_capital (is_between 65 90 c) refl e
  where
    by_capital : (b : Bool) → is_between 65 90 c ≡ b → cond b (c + 32) c ≡ m → c ≡ m
    by_capital false is e = e
    by_capital true is e = absurd (let within : is_between 97 122 m ≡ true = (let e' : m ≡ c + 32 = sym e in rw e' (grind (arith, nat_tests))) in false≢true (sym other ∙ within))

-- a byte that is no letter is its own
plain_byte : (m : ℕ) → is_ascii_alphabetic m ≡ false → (is_between 97 122 m ≡ false) × (lower_case m ≡ m)
plain_byte m e =
    let parts = or_parts (is_between 65 90 m) (is_between 97 122 m) e in
    let not_capital = parts.0 in
    (parts.1, rw not_capital refl)

-- ---- lists

-- a text that is alike to two parts is two parts alike to these
split_alike : (xs ahead bs : List ℕ) → AreAlike xs (ahead ++ bs) → (ahead' : List ℕ) × (bs' : List ℕ) × (xs ≡ ahead' ++ bs') × AreAlike ahead' ahead × AreAlike bs' bs
split_alike xs [] bs alike = ([], xs, refl, refl, alike)
split_alike [] (a ∷ ahead) bs alike = cc
split_alike (x ∷ xs) (a ∷ ahead) bs alike =
    let rest = split_alike xs ahead bs (cc) in
    let first : lower_case x ≡ lower_case a = cc in
    let both : lower_case x ∷ map lower_case rest.0 ≡ lower_case a ∷ map lower_case ahead = ap (λ c. c ∷ map lower_case rest.0) first ∙ ap (λ cs. lower_case a ∷ cs) rest.3 in
    (x ∷ rest.0, rest.1, ap (λ ys. x ∷ ys) rest.2, both, rest.4)

empty_alike : (xs : List ℕ) → AreAlike xs [] → xs ≡ []
empty_alike [] alike = refl
empty_alike (x ∷ xs) alike = cc

one_alike : (xs : List ℕ) (c : ℕ) → AreAlike xs (c ∷ []) → (x : ℕ) × (xs ≡ x ∷ []) × (lower_case x ≡ lower_case c)
one_alike [] c alike = cc
one_alike (x ∷ []) c alike = (x, refl, cc)
one_alike (x ∷ y ∷ xs) c alike = cc

-- ---- parts of an integer

module _ (f : Format) (case : IgnoresCase f) where
  like_separator : (c b : ℕ) → lower_case c ≡ lower_case b → is_separator f b ≡ true → is_separator f c ≡ true
  unfolding are_same
  like_separator c b alike s = by_set f.digit_separator refl s
    where
      by_set : (o : Option ℕ) → f.digit_separator ≡ o → are_same o (Some b) ≡ true → are_same o (Some c) ≡ true
      by_set None set s = absurd (false≢true s)
      by_set (Some m) set s =
          let same : b ≡ m = grind (arith, nat_tests) in
          let plain = plain_byte m (case.separator m set) in
          let here : lower_case c ≡ m = alike ∙ ap lower_case same ∙ plain.1 in
          eq-eqb c m (kept c m plain.0 here)

  same_separator : (c b : ℕ) → lower_case c ≡ lower_case b → is_separator f c ≡ is_separator f b
  same_separator c b alike = by_tests (is_separator f c) (is_separator f b) refl refl
    where
      by_tests : (u w : Bool) → is_separator f c ≡ u → is_separator f b ≡ w → u ≡ w
      by_tests true true e h = refl
      by_tests false false e h = refl
      by_tests true false e h = absurd (false≢true (sym h ∙ like_separator b c (sym alike) e))
      by_tests false true e h = absurd (false≢true (sym e ∙ like_separator c b alike h))

  same_affix : (o : Option ℕ) (c b : ℕ) → lower_case c ≡ lower_case b → is_affix false o (Some c) ≡ is_affix false o (Some b)
  unfolding is_affix matches
  same_affix None c b alike = refl
  same_affix (Some m) c b alike = ap (λ x. x == lower_case m) alike

  same_letter : (c b : ℕ) → lower_case c ≡ lower_case b → literal_radix false (Some c) ≡ literal_radix false (Some b)
  unfolding literal_radix
  same_letter c b alike = rw (same_affix (Some 120) c b alike, same_affix (Some 111) c b alike, same_affix (Some 98) c b alike) refl

  same_named : (c b : ℕ) → lower_case c ≡ lower_case b → named_radix f (Some c) ≡ named_radix f (Some b)
  unfolding named_radix
  same_named c b alike = rw (case.prefix, same_affix f.base_prefix c b alike, same_letter c b alike) refl

  other_sign : (t : IntegerType) (front xs : List ℕ) (m : Bool) → AreAlike xs front → IsSign f t front m → IsSign f t xs m
  other_sign t _ xs _ alike (none off) = subst (λ ys. IsSign f t ys false) (sym (empty_alike xs alike)) (none off)
  other_sign t _ xs _ alike (a_plus off) =
      let one = one_alike xs 43 alike in
      let same : one.0 ≡ 43 = kept one.0 43 refl one.2 in
      subst (λ ys. IsSign f t ys false) (sym (one.1 ∙ ap (λ x. x ∷ []) same)) (a_plus off)
  other_sign t _ xs _ alike (a_minus on) =
      let one = one_alike xs 45 alike in
      let same : one.0 ≡ 45 = kept one.0 45 refl one.2 in
      subst (λ ys. IsSign f t ys true) (sym (one.1 ∙ ap (λ x. x ∷ []) same)) (a_minus on)

  other_suffix : (ds suffix xs : List ℕ) → AreAlike xs suffix → IsSuffix f ds suffix → IsSuffix f ds xs
  other_suffix ds _ xs alike no_suffix = subst (IsSuffix f ds) (sym (empty_alike xs alike)) no_suffix
  other_suffix ds _ xs alike (a_suffix c some t) =
      let one = one_alike xs c alike in
      let here : is_affix f.case_sensitive_base_suffix f.base_suffix (Some one.0) ≡ true = ap (λ s. is_affix s f.base_suffix (Some one.0)) case.suffix ∙ same_affix f.base_suffix one.0 c one.2 ∙ sym (ap (λ s. is_affix s f.base_suffix (Some c)) case.suffix) ∙ t in
      subst (IsSuffix f ds) (sym one.1) (a_suffix one.0 some here)

  same_octal : (body xs : List ℕ) → AreAlike xs body → octal_zero_at f xs 0 ≡ octal_zero_at f body 0
  unfolding octal_zero_at are_same
  same_octal [] xs alike = ap (λ ys. f.literal_octal_zero && are_same (Some 48) (slice_get ys 0)) (empty_alike xs alike)
  same_octal (b ∷ body) [] alike = cc
  same_octal (b ∷ body) (x ∷ xs) alike = ap (λ z. f.literal_octal_zero && z) (by_tests (x == 48) (b == 48) refl refl)
    where
      first : lower_case x ≡ lower_case b
      first = cc

      by_tests : (u w : Bool) → (x == 48) ≡ u → (b == 48) ≡ w → u ≡ w
      by_tests true true e h = refl
      by_tests false false e h = refl
      by_tests true false e h = let same : x ≡ 48 = grind (arith, nat_tests) in absurd (false≢true (sym h ∙ eq-eqb b 48 (kept b 48 refl (sym first ∙ ap lower_case same))))
      by_tests false true e h = let same : b ≡ 48 = grind (arith, nat_tests) in absurd (false≢true (sym e ∙ eq-eqb x 48 (kept x 48 refl (first ∙ ap lower_case same))))

  same_length : (xs ys : List ℕ) → AreAlike xs ys → length xs ≡ length ys
  same_length xs ys alike = sym (length-map xs lower_case) ∙ ap length alike ∙ length-map ys lower_case

  other_prefix : (body prefix ys xs : List ℕ) (r : ℕ) → AreAlike ys body → AreAlike xs prefix → IsPrefix f body prefix r → IsPrefix f ys xs r
  other_prefix body _ ys xs _ same alike no_prefix =
      subst (λ zs. IsPrefix f ys zs (bare_radix f body 0)) (sym (empty_alike xs alike)) (subst (IsPrefix f ys []) (ap (λ o. cond o 8 f.mantissa_radix) (same_octal body ys same)) no_prefix)
  other_prefix body _ ys xs _ same alike (a_prefix c r named some) =
      let two = split_alike xs (48 ∷ []) (c ∷ []) alike in
      let zero' = one_alike two.0 48 two.3 in
      let letter = one_alike two.1 c two.4 in
      let is_zero : zero'.0 ≡ 48 = kept zero'.0 48 refl zero'.2 in
      let whole : xs ≡ 48 ∷ letter.0 ∷ [] = two.2 ∙ ap (λ zs. zs ++ two.1) (zero'.1 ∙ ap (λ z. z ∷ []) is_zero) ∙ ap (λ zs. 48 ∷ zs) letter.1 in
      subst (λ zs. IsPrefix f ys zs r) (sym whole) (a_prefix letter.0 r (same_named letter.0 c letter.2 ∙ named) (λ is. some (empty_alike body (sym same ∙ ap (map lower_case) is))))

  other_bytes : (body xs ds : List ℕ) (r : ℕ) → AreAlike xs body → BytesAre f r body ds → BytesAre f r xs ds
  other_bytes body xs ds r alike bytes = same_digits body xs alike ∙ bytes
    where
      digits : List ℕ → List (Option ℕ)
      digits zs = map (λ byte. digit r byte) (filter (λ byte. not (is_separator f byte)) zs)

      same_digits : (body xs : List ℕ) → AreAlike xs body → map (λ byte. digit r byte) (filter (λ byte. not (is_separator f byte)) xs) ≡ map (λ byte. digit r byte) (filter (λ byte. not (is_separator f byte)) body)
      same_digits [] xs alike = ap (λ zs. map (λ byte. digit r byte) (filter (λ byte. not (is_separator f byte)) zs)) (empty_alike xs alike)
      same_digits (b ∷ body) [] alike = cc
      same_digits (b ∷ body) (x ∷ xs) alike = by_separator (is_separator f b) refl (same_digits body xs (cc))
        where
          first : lower_case x ≡ lower_case b
          first = cc

          by_separator : (w : Bool) → is_separator f b ≡ w → map (λ byte. digit r byte) (filter (λ byte. not (is_separator f byte)) xs) ≡ map (λ byte. digit r byte) (filter (λ byte. not (is_separator f byte)) body) →
              map (λ byte. digit r byte) (cond (not (is_separator f x)) (x ∷ filter (λ byte. not (is_separator f byte)) xs) (filter (λ byte. not (is_separator f byte)) xs))
              ≡ map (λ byte. digit r byte) (cond (not (is_separator f b)) (b ∷ filter (λ byte. not (is_separator f byte)) body) (filter (λ byte. not (is_separator f byte)) body))
          by_separator true e rest = rw (same_separator x b first ∙ e, e) rest
          by_separator false e rest = rw (same_separator x b first ∙ e, e) (ap (λ d. d ∷ map (λ byte. digit r byte) (filter (λ byte. not (is_separator f byte)) xs)) (digit-alike r x b first) ∙ ap (λ ds. digit r b ∷ ds) rest)

  like_run : (n s : ℕ) (zs : List ℕ) → f.digit_separator ≡ Some s → AreAlike zs (replicate n s) → zs ≡ replicate n s
  like_run zero s zs set alike = empty_alike zs alike
  like_run (suc n) s [] set alike = cc
  like_run (suc n) s (z ∷ zs) set alike =
      let plain = plain_byte s (case.separator s set) in
      let first : lower_case z ≡ lower_case s = cc in
      let same : z ≡ s = kept z s plain.0 (first ∙ plain.1) in
      ap (λ c. c ∷ zs) same ∙ ap (λ cs. s ∷ cs) (like_run n s zs set (cc))

  -- a run of the one body is one of the other
  run_back : (body xs before behind : List ℕ) (count : ℕ) → AreAlike xs body → HasRun f xs before count behind →
      (before' : List ℕ) × (behind' : List ℕ) × HasRun f body before' count behind' × AreAlike before before' × AreAlike behind behind'
  run_back body xs before behind count alike h =
      let s : ℕ = h.separator in
      let outer = split_alike body before (replicate count s ++ behind) (sym alike ∙ ap (map lower_case) h.parts) in
      let inner = split_alike outer.1 (replicate count s) behind outer.4 in
      let run = like_run count s inner.0 h.is_set inner.3 in
      let plain = plain_byte s (case.separator s h.is_set) in (
        outer.0,
        inner.1,
        record {
          separator = s;
          is_set = h.is_set;
          parts = outer.2 ∙ ap (λ zs. outer.0 ++ zs) (inner.2 ∙ ap (λ zs. zs ++ inner.1) run);
          some = h.some;
          none_before = λ front is.
              let two = split_alike before front (s ∷ []) (sym outer.3 ∙ ap (map lower_case) is) in
              let last = one_alike two.1 s two.4 in
              let same : last.0 ≡ s = kept last.0 s plain.0 (last.2 ∙ plain.1) in
              h.none_before two.0 (two.2 ∙ ap (λ zs. two.0 ++ zs) (last.1 ∙ ap (λ z. z ∷ []) same));
          none_behind = λ rest is.
              let two = split_alike behind (s ∷ []) rest (sym inner.4 ∙ ap (map lower_case) is) in
              let first = one_alike two.0 s two.3 in
              let same : first.0 ≡ s = kept first.0 s plain.0 (first.2 ∙ plain.1) in
              h.none_behind two.1 (two.2 ∙ ap (λ zs. zs ++ two.1) (first.1 ∙ ap (λ z. z ∷ []) same));
        },
        sym outer.3,
        sym inner.4,
      )

  lead_same : (prefix xs : List ℕ) → AreAlike xs prefix → may_lead f xs ≡ may_lead f prefix
  lead_same [] [] alike = refl
  lead_same [] (x ∷ xs) alike = cc
  lead_same (p ∷ prefix) [] alike = cc
  lead_same (p ∷ prefix) (x ∷ xs) alike = refl

  part_same : (prefix xs before before' behind behind' : List ℕ) → AreAlike xs prefix → AreAlike before before' → AreAlike behind behind' → may_part f xs before behind ≡ may_part f prefix before' behind'
  part_same prefix xs [] [] [] [] alike u w = ap (λ b. b || f.integer_trailing_digit_separator) (lead_same prefix xs alike)
  part_same prefix xs [] [] (c ∷ behind) (d ∷ behind') alike u w = lead_same prefix xs alike
  part_same prefix xs (b ∷ before) (d ∷ before') [] [] alike u w = refl
  part_same prefix xs (b ∷ before) (d ∷ before') (c ∷ behind) (e ∷ behind') alike u w = refl
  part_same prefix xs [] (d ∷ before') behind behind' alike u w = cc
  part_same prefix xs (b ∷ before) [] behind behind' alike u w = cc
  part_same prefix xs [] [] [] (d ∷ behind') alike u w = cc
  part_same prefix xs [] [] (c ∷ behind) [] alike u w = cc
  part_same prefix xs (b ∷ before) (d ∷ before') [] (e ∷ behind') alike u w = cc
  part_same prefix xs (b ∷ before) (d ∷ before') (c ∷ behind) [] alike u w = cc

  other_integer : (t : IntegerType) (text other : List ℕ) (v : ℤ) → AreAlike other text → IsInteger f t text v → IsInteger f t other v
  other_integer t text other v alike i =
      let a = split_alike other i.sign (i.prefix ++ (i.body ++ i.suffix)) (alike ∙ ap (map lower_case) i.parts) in
      let b = split_alike a.1 i.prefix (i.body ++ i.suffix) a.4 in
      let c = split_alike b.1 i.body i.suffix b.4 in
      record {
        sign = a.0;
        prefix = b.0;
        body = c.0;
        suffix = c.1;
        is_negative = i.is_negative;
        radix = i.radix;
        digits = i.digits;
        parts = a.2 ∙ ap (λ zs. a.0 ++ zs) (b.2 ∙ ap (λ zs. b.0 ++ zs) c.2);
        sign_may = other_sign t i.sign a.0 i.is_negative a.3 i.sign_may;
        prefix_may = other_prefix i.body i.prefix c.0 b.0 i.radix c.3 b.3 i.prefix_may;
        body_may = record {
          bytes = other_bytes i.body c.0 i.digits i.radix c.3 i.body_may.bytes;
          runs = λ before behind count run.
              let back = run_back i.body c.0 before behind count c.3 run in
              part_same i.prefix b.0 before back.0 behind back.1 b.3 back.3 back.4 ∙ i.body_may.runs back.0 back.1 count back.2;
          single = λ before behind count run.
              let back = run_back i.body c.0 before behind count c.3 run in
              i.body_may.single back.0 back.1 count back.2;
        };
        suffix_may = other_suffix i.digits i.suffix c.1 c.4 i.suffix_may;
        enough = i.enough;
        zeros = λ on bare octal. i.zeros on (empty_alike i.prefix (sym b.3 ∙ ap (map lower_case) bare)) (sym (same_octal i.body c.0 c.3) ∙ octal);
        worth = i.worth;
        fits = i.fits;
      }

pub other_is_read : (f : Format) (t : IntegerType) (text other : List ℕ) (v : ℤ) → IsNone (fault f) → IgnoresCase f → AreAlike other text → complete f t text ≡ Ok v → complete f t other ≡ Ok v
other_is_read f t text other v valid case alike read = integer_is_read f t other v valid (other_integer f case t text other v alike (read_is_integer f t text v valid read))
