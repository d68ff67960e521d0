-- Zeros, eight by eight: for the answers of `zeros`.
use Rattle.std.proofs.Common.{◌≡◌, ℕ, ◌+◌, ◌-◌, ◌<◌, ◌≤◌, List, length, get_or, take, drop, replicate, refl, sym, ap, ◌∙◌, arith, inl, inr}
use Rattle.std.specs.Prelude.{slice_range}
use Rattle.std.proofs.Math.ListN.{get_or-eq_default}
use Rattle.std.proofs.lemmas.Bool.{cases_lt}
use Rattle.std.proofs.lemmas.List.{get_or-drop, get_or-replicate, get_or-take, length-drop, length-take-le}
use Rattle.lexical_digits.specs.Words.{word_bytes}
use Rattle.lexical_digits.specs.WrittenNumbers.{bytes_number}
use Rattle.lexical_digits.proofs.WordsOfDigits.{all_bytes, bytes_again}

-- eight bytes that make the number of eight zeros are these
are_zeros : (text : List ℕ) (at word : ℕ) → ((k : ℕ) → get_or text k 0 < 256) → at + 8 ≤ length text → word ≡ bytes_number (slice_range text at (at + 8)) → word ≡ 3472328296227680304 → take 8 (drop at text) ≡ replicate 8 48
are_zeros text at word below within is zeros =
    let eight : at + 8 - at ≡ 8 = omega arith in
    let part : slice_range text at (at + 8) ≡ take 8 (drop at text) = ap (λ n. take n (drop at text)) eight in
    let size : length (take 8 (drop at text)) ≡ 8 = length-take-le 8 (drop at text) (let e = length-drop at text in omega arith) in
    let bytes = all_bytes (take 8 (drop at text)) (λ k. taken k) in
    sym (bytes_again (take 8 (drop at text)) bytes) ∙ ap (λ n. word_bytes n (bytes_number (take 8 (drop at text)))) size ∙ ap (word_bytes 8) (sym (is ∙ ap bytes_number part)) ∙ ap (word_bytes 8) zeros
  where
    past : (k : ℕ) → 8 ≤ k → get_or (take 8 (drop at text)) k 0 ≡ 0
    past k l = get_or-eq_default (take 8 (drop at text)) 0 (let size = length-take-le 8 (drop at text) (let e = length-drop at text in omega arith) in omega arith)

    taken : (k : ℕ) → get_or (take 8 (drop at text)) k 0 < 256
    taken k = elim (cases_lt k 8) [
      | inl l ↦ let e = get_or-take 8 (drop at text) k 0 l ∙ get_or-drop at text k 0 in let b = below (at + k) in omega arith
      | inr l ↦ let e = past k l in omega arith
    ]

-- with eight zeros more
pub zeros_more : (text : List ℕ) (start at word : ℕ) → ((k : ℕ) → get_or text k 0 < 256) → at + 8 ≤ length text → word ≡ bytes_number (slice_range text at (at + 8)) → word ≡ 3472328296227680304 → ((k : ℕ) → start ≤ k → k < at → get_or text k 0 ≡ 48)
    → (k : ℕ) → start ≤ k → k < at + 8 → get_or text k 0 ≡ 48
zeros_more text start at word below within is zeros before k from to =
    elim (cases_lt k at) [
      | inl l ↦ before k from l
      | inr l ↦
          let place : at + (k - at) ≡ k = omega arith in
          ap (λ j. get_or text j 0) (sym place) ∙ sym (get_or-drop at text (k - at) 0) ∙ sym (get_or-take 8 (drop at text) (k - at) 0 (omega arith)) ∙ ap (λ (bs : List ℕ). get_or bs (k - at) 0) (are_zeros text at word below within is zeros)
          ∙ get_or-replicate 8 (k - at) 48 0 (omega arith)
    ]
