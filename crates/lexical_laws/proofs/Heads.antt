-- Sign and prefix of a text that is parts put together, and the parts of a text whose head is read.
use Rattle.std.proofs.Common.{◌≡◌, ℕ, ◌+◌, ◌≤◌, Bool, true, false, ◌&&◌, cond, List, [], ◌∷◌, ◌++◌, length, Option, Some, None, Ok, Err, Result, refl, sym, ap, subst, ◌∙◌, arith, ◌⊎◌, inl, inr}
use Rattle.std.proofs.lemmas.Bool.{and_parts, ne_eqb}
use Rattle.std.proofs.lemmas.Bool.Decides.{nat_tests}
use Rattle.std.specs.Prelude.{◌==◌, ◌≢◌, slice_get}
use Rattle.lexical_util.specs.declared.error.Error.{Error}
use Rattle.lexical_util.specs.declared.error.Error.TheVariants.{InvalidPositiveSign, MissingSign}
use Rattle.lexical_util.specs.Format.{Format}
use Rattle.lexical_util.specs.Number.{IntegerType}
use Rattle.lexical_parse_integer.specs.Affixes.{bare_radix, named_radix, octal_zero_at, prefix_radix}
use Rattle.lexical_parse_integer.specs.Head.{Head, head_after, head_behind, head_of, no_sign, sign, sign_by}
use Rattle.lexical_parse_integer.specs.Runs.{are_same}
use Rattle.lexical_laws.specs.Integer.{IsSign}
use Rattle.lexical_laws.specs.Integer.IsSign.{no_sign as none, a_plus, a_minus}
use Rattle.lexical_laws.proofs.Punctuation.{none_named}
use Rattle.lexical_laws.proofs.Parts.{get_behind}

-- ---- the sign

-- a text that begins so has no sign
abbrev pub BeginsUnsigned : List ℕ → Type 0
BeginsUnsigned rest = (b : ℕ) → slice_get rest 0 ≡ Some b → (b ≢ 43) × (b ≢ 45)

sign_is : (f : Format) (t : IntegerType) (sgn rest : List ℕ) (minus : Bool) → IsSign f t sgn minus → BeginsUnsigned rest → sign f t (sgn ++ rest) ≡ Ok (minus, length sgn)
unfolding sign
sign_is f t [] [] false (none off) unsigned = rw off refl
sign_is f t [] (b ∷ rest) false (none off) unsigned =
    let apart = unsigned b refl in
    let not_plus : (b == 43) ≡ false = ne_eqb b 43 apart.0 in
    let not_minus : (b == 45) ≡ false = ne_eqb b 45 apart.1 in
    rw (not_plus, not_minus, off) refl
sign_is f t _ rest _ (a_plus off) unsigned = rw off refl
sign_is f t _ rest _ (a_minus on) unsigned = rw on refl

-- A text begins with a sign.
pub record SignSplit (f : Format) (t : IntegerType) (text : List ℕ) (s : Bool × ℕ) : Type 0 where
  pub front : List ℕ
  pub rest : List ℕ
  pub parts : text ≡ front ++ rest
  pub may : IsSign f t front s.0
  pub size : s.1 ≡ length front
  pub short : length front ≤ 1

pub sign_split : (f : Format) (t : IntegerType) (text : List ℕ) (s : Bool × ℕ) → sign f t text ≡ Ok s → SignSplit f t text s
unfolding sign
sign_split f t text s e = by_first text e
  where
    unsigned : (text : List ℕ) → no_sign f ≡ Ok s → SignSplit f t text s
    unsigned text e = by_flag f.required_mantissa_sign refl e
      where
        by_flag : (b : Bool) → f.required_mantissa_sign ≡ b → cond b (Err (MissingSign 0)) (Ok (false, 0)) ≡ Ok s → SignSplit f t text s
        by_flag true off e = cc
        by_flag false off e =
            let same : (false, 0) ≡ s = cc in
            subst (SignSplit f t text) same (record { front = []; rest = text; parts = refl; may = none off; size = refl; short = omega arith })

    by_first : (text : List ℕ) → sign_by f t (slice_get text 0) ≡ Ok s → SignSplit f t text s
    by_first [] e = unsigned [] e
    by_first (b ∷ rest) e = by_plus (b == 43) refl e
      where
        by_minus : (both : Bool) → ((b == 45) && t.is_signed) ≡ both → cond both (Ok (true, 1)) (no_sign f) ≡ Ok s → SignSplit f t (b ∷ rest) s
        by_minus true is e =
            let two = and_parts (b == 45) t.is_signed is in
            let here : b ≡ 45 = grind (arith, nat_tests) in
            let same : (true, 1) ≡ s = cc in
            subst (SignSplit f t (b ∷ rest)) same (record { front = 45 ∷ []; rest = rest; parts = ap (λ c. c ∷ rest) here; may = a_minus two.1; size = refl; short = omega arith })
        by_minus false is e = unsigned (b ∷ rest) e

        by_plus : (is_plus : Bool) → (b == 43) ≡ is_plus → cond is_plus (cond f.no_positive_mantissa_sign (Err (InvalidPositiveSign 0)) (Ok (false, 1))) (cond ((b == 45) && t.is_signed) (Ok (true, 1)) (no_sign f)) ≡ Ok s → SignSplit f t (b ∷ rest) s
        by_plus false is e = by_minus ((b == 45) && t.is_signed) refl e
        by_plus true is e = by_flag f.no_positive_mantissa_sign refl e
          where
            by_flag : (b' : Bool) → f.no_positive_mantissa_sign ≡ b' → cond b' (Err (InvalidPositiveSign 0)) (Ok (false, 1)) ≡ Ok s → SignSplit f t (b ∷ rest) s
            by_flag true off e = cc
            by_flag false off e =
                let here : b ≡ 43 = grind (arith, nat_tests) in
                let same : (false, 1) ≡ s = cc in
                subst (SignSplit f t (b ∷ rest)) same (record { front = 43 ∷ []; rest = rest; parts = ap (λ c. c ∷ rest) here; may = a_plus off; size = refl; short = omega arith })

-- ---- the prefix

-- what stands behind a sign decides
prefix_at : (f : Format) (front rest : List ℕ) → prefix_radix f (front ++ rest) (length front) ≡ prefix_radix f rest 0
unfolding prefix_radix
prefix_at f front rest =
    let e : length front + 0 ≡ length front = omega arith in
    let here : slice_get (front ++ rest) (length front) ≡ slice_get rest 0 = ap (slice_get (front ++ rest)) (sym e) ∙ get_behind front rest 0 in
    let next : slice_get (front ++ rest) (length front + 1) ≡ slice_get rest 1 = get_behind front rest 1 in
    rw (here, next) refl

octal_at : (f : Format) (front rest : List ℕ) → octal_zero_at f (front ++ rest) (length front) ≡ octal_zero_at f rest 0
unfolding octal_zero_at
octal_at f front rest =
    let e : length front + 0 ≡ length front = omega arith in
    let here : slice_get (front ++ rest) (length front) ≡ slice_get rest 0 = ap (slice_get (front ++ rest)) (sym e) ∙ get_behind front rest 0 in
    rw here refl

-- no prefix is where no byte behind a zero names a radix
pub no_prefix_radix : (f : Format) (rest : List ℕ) → ((c : ℕ) → slice_get rest 1 ≡ Some c → named_radix f (Some c) ≡ None) → prefix_radix f rest 0 ≡ None
unfolding prefix_radix
no_prefix_radix f rest unprefixed = by_zero (are_same (Some 48) (slice_get rest 0))
  where
    by_next : (o : Option ℕ) → slice_get rest 1 ≡ o → named_radix f o ≡ None
    by_next None e = none_named f
    by_next (Some c) e = unprefixed c e

    by_zero : (b : Bool) → cond b (named_radix f (slice_get rest 1)) None ≡ None
    by_zero true = by_next (slice_get rest 1) refl
    by_zero false = refl

pub prefix_told : (f : Format) (rest : List ℕ) (r : ℕ) → prefix_radix f rest 0 ≡ Some r → (byte : ℕ) × (more : List ℕ) × (rest ≡ 48 ∷ byte ∷ more) × (named_radix f (Some byte) ≡ Some r)
unfolding prefix_radix are_same
prefix_told f [] r e = cc
prefix_told f (b ∷ []) r e = by_zero (b == 48) e
  where
    by_zero : (z : Bool) → cond z (named_radix f None) None ≡ Some r → (byte : ℕ) × (more : List ℕ) × (b ∷ [] ≡ 48 ∷ byte ∷ more) × (named_radix f (Some byte) ≡ Some r)
    by_zero true e = let none = none_named f in absurd (cc)
    by_zero false e = cc
prefix_told f (b ∷ c ∷ more) r e = by_zero (b == 48) refl e
  where
    by_zero : (z : Bool) → (b == 48) ≡ z → cond z (named_radix f (Some c)) None ≡ Some r → (byte : ℕ) × (more' : List ℕ) × (b ∷ c ∷ more ≡ 48 ∷ byte ∷ more') × (named_radix f (Some byte) ≡ Some r)
    by_zero true is e = let here : b ≡ 48 = grind (arith, nat_tests) in (c, more, ap (λ x. x ∷ c ∷ more) here, e)
    by_zero false is e = cc

-- ---- the head

pub head_named : (f : Format) (t : IntegerType) (front more : List ℕ) (minus : Bool) (byte r : ℕ) → IsSign f t front minus → named_radix f (Some byte) ≡ Some r →
    head_of f t (front ++ 48 ∷ byte ∷ more) ≡ Ok (record { is_negative = minus; is_prefixed = true; is_octal = false; start = length front + 2; radix = r })
unfolding head_of prefix_radix are_same
head_named f t front more minus byte r may named =
    let sign' = sign_is f t front (48 ∷ byte ∷ more) minus may (λ b e. (λ is. absurd (let first : 48 ≡ b = cc in omega arith), λ is. absurd (let first : 48 ≡ b = cc in omega arith))) in
    let prefix : prefix_radix f (front ++ 48 ∷ byte ∷ more) (length front) ≡ Some r = prefix_at f front (48 ∷ byte ∷ more) ∙ named in
    rw (sign', prefix) refl

pub head_bare : (f : Format) (t : IntegerType) (front rest : List ℕ) (minus : Bool) → IsSign f t front minus → BeginsUnsigned rest → prefix_radix f rest 0 ≡ None →
    head_of f t (front ++ rest) ≡ Ok (record { is_negative = minus; is_prefixed = false; is_octal = octal_zero_at f rest 0; start = length front; radix = bare_radix f rest 0 })
unfolding head_of
head_bare f t front rest minus may unsigned none_here =
    let sign' = sign_is f t front rest minus may unsigned in
    let prefix : prefix_radix f (front ++ rest) (length front) ≡ None = prefix_at f front rest ∙ none_here in
    rw (sign', prefix, octal_at f front rest) refl

-- What a prefix, or none, says of a head.
abbrev pub HasPrefix : Format → List ℕ → List ℕ → Head → Type 0
HasPrefix f prefix more h =
    ((prefix ≡ []) × (h.radix ≡ bare_radix f more 0) × (h.is_octal ≡ octal_zero_at f more 0) × (h.is_prefixed ≡ false))
    ⊎ ((byte : ℕ) × (prefix ≡ 48 ∷ byte ∷ []) × (named_radix f (Some byte) ≡ Some h.radix) × (h.is_prefixed ≡ true))

-- A text is a sign, a prefix and more, as its head says.
pub record HeadSplit (f : Format) (t : IntegerType) (text : List ℕ) (h : Head) : Type 0 where
  pub front : List ℕ
  pub prefix : List ℕ
  pub more : List ℕ
  pub parts : text ≡ front ++ (prefix ++ more)
  pub may : IsSign f t front h.is_negative
  pub start : h.start ≡ length front + length prefix
  pub short : length front ≤ 1
  pub prefixed : HasPrefix f prefix more h

pub head_split : (f : Format) (t : IntegerType) (text : List ℕ) (h : Head) → head_of f t text ≡ Ok h → HeadSplit f t text h
unfolding head_of
head_split f t text h e = by_sign (sign f t text) refl e
  where
    by_sign : (r : Result (Bool × ℕ) Error) → sign f t text ≡ r → head_after f text r ≡ Ok h → HeadSplit f t text h
    by_sign (Err x) is e = cc
    by_sign (Ok s) is e = by_prefix (prefix_radix f w.rest 0) refl
      where
        w : SignSplit f t text s
        w = sign_split f t text s is

        same_prefix : prefix_radix f text s.1 ≡ prefix_radix f w.rest 0
        same_prefix = ap (prefix_radix f text) w.size ∙ ap (λ x. prefix_radix f x (length w.front)) w.parts ∙ prefix_at f w.front w.rest

        same_octal : octal_zero_at f text s.1 ≡ octal_zero_at f w.rest 0
        same_octal = ap (octal_zero_at f text) w.size ∙ ap (λ x. octal_zero_at f x (length w.front)) w.parts ∙ octal_at f w.front w.rest

        by_prefix : (p : Option ℕ) → prefix_radix f w.rest 0 ≡ p → HeadSplit f t text h
        by_prefix None none' =
            let same : head_behind f text s None ≡ h = (let told : ◌≡◌ {A = Result Head Error} (Ok (head_behind f text s None)) (Ok h) = ap (λ p. Ok (head_behind f text s p)) (sym (same_prefix ∙ none')) ∙ e in cc) in
            subst (HeadSplit f t text) same (record {
              front = w.front;
              prefix = [];
              more = w.rest;
              parts = w.parts;
              may = w.may;
              start = w.size ∙ omega arith;
              short = w.short;
              prefixed = inl (refl, ap (λ o. cond o 8 f.mantissa_radix) same_octal, same_octal, refl);
            })
        by_prefix (Some r) some =
            let told = prefix_told f w.rest r some in
            let same : head_behind f text s (Some r) ≡ h = (let told' : ◌≡◌ {A = Result Head Error} (Ok (head_behind f text s (Some r))) (Ok h) = ap (λ p. Ok (head_behind f text s p)) (sym (same_prefix ∙ some)) ∙ e in cc) in
            subst (HeadSplit f t text) same (record {
              front = w.front;
              prefix = 48 ∷ told.0 ∷ [];
              more = told.1;
              parts = w.parts ∙ ap (λ xs. w.front ++ xs) told.2;
              may = w.may;
              start = omega (arith, w.size);
              short = w.short;
              prefixed = inr (told.0, refl, told.3, refl);
            })
