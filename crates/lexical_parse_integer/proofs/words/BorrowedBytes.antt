-- Lanes of the bytes that a cursor lent: for `algorithm::counted::multi`.
use Rattle.std.proofs.Common.{◌≡◌, ◌∙◌, ◌+◌, ◌≤◌, ◌<◌, ◌^◌, ℕ, Bool, true, false, cond, List, length, Some, None, ap, subst, sym, refl, arith, IsSome, slice_range}
use Rattle.lexical_digits.specs.Lanes.{are_digit_lanes}
use Rattle.lexical_parse_integer.specs.Runs.{digit_at}
use Rattle.lexical_digits.specs.Words.{AreDigits, word_value}
use Rattle.lexical_digits.proofs.DigitLanes.{digits_from_lanes, lanes_from_digits}
use Rattle.lexical_parse_integer.proofs.words.WordsInTexts.{is_word, length-ahead, slice_all, word_small}

-- what the lanes of the next bytes say
pub record AreLent (r r' : ℕ) (b bytes : List ℕ) (p w : ℕ) : Type 0 where
  pub forth : are_digit_lanes r' bytes ≡ true → (k : ℕ) → p ≤ k → k < p + w → IsSome (digit_at r b k)
  pub back : ((k : ℕ) → p ≤ k → k < p + w → IsSome (digit_at r b k)) → are_digit_lanes r' bytes ≡ true
  pub value : word_value r' bytes ≡ word_value r (slice_range b p (p + w))

pub lent_size : (b bytes : List ℕ) (p w : ℕ) → p + w ≤ length b → bytes ≡ slice_range b p (p + w) → length bytes ≡ w
lent_size b bytes p w within is = ap length is ∙ length-ahead b p w within

pub are_lent : (r r' : ℕ) (b bytes : List ℕ) (p w : ℕ) → r ≤ 10 → p + w ≤ length b → bytes ≡ slice_range b p (p + w) → r' ≡ r → AreLent r r' b bytes p w
are_lent r r' b bytes p w ten within is same =
    let word = is_word r r' b bytes p w ten within is same in
    let all = slice_all bytes w (lent_size b bytes p w within is) in
    let ten' : r' ≤ 10 = omega arith in
    record {
      forth = λ t. word.forth (subst (AreDigits r') (sym all) (digits_from_lanes r' bytes ten' t));
      back = λ h. lanes_from_digits r' bytes ten' (subst (AreDigits r') all (word.back h));
      value = ap (λ q. word_value q bytes) same ∙ ap (word_value r) is;
    }

-- an answer that was given
pub some_told : (t : Bool) (v n : ℕ) → Some n ≡ cond t (Some v) None → (t ≡ true) × (n ≡ v)
some_told true v n e = (refl, cc)
some_told false v n e = cc

pub none_told : (t : Bool) (v : ℕ) → None ≡ cond t (Some v) None → t ≡ false
none_told true v e = cc
none_told false v e = refl

-- the value of a word of `w` digits is below 10 ^ `w`
pub lanes_small : (r n w : ℕ) (bytes : List ℕ) → r ≤ 10 → length bytes ≡ w → are_digit_lanes r bytes ≡ true → n ≡ word_value r bytes → n < 10 ^ w
lanes_small r n w bytes ten size t e = word_small r n w bytes ten size (digits_from_lanes r bytes ten t) e
