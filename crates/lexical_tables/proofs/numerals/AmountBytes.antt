-- The bytes around one of a text: what the shuffle leaves of sixteen, and what their first ones are.
use Rattle.std.proofs.Common.{◌≡◌, ◌∙◌, ℕ, zero, suc, ◌+◌, ◌-◌, ◌<◌, ◌≤◌, List, [], ◌∷◌, ◌++◌, length, get_or, take, drop, refl, ap, ap₂, sym, arith, w8, length-append, length-drop, length-take-le}
use Rattle.std.proofs.lemmas.List.{take-append-le, take-take}
use Rattle.std.proofs.lemmas.Simd.{swz_l}
use Rattle.lexical_fixed.specs.Quick.{without}
use Rattle.lexical_tables.specs.declared.amounts.TheConstants.{PLACES}

-- what is true of sixteen elements and more, by their names
of_sixteen : (P : List ℕ → Type 0)
    → ((a b c d e f g h i j k l m n o p : ℕ) (rest : List ℕ) → P (a ∷ b ∷ c ∷ d ∷ e ∷ f ∷ g ∷ h ∷ i ∷ j ∷ k ∷ l ∷ m ∷ n ∷ o ∷ p ∷ rest))
    → (xs : List ℕ) → 16 ≤ length xs → P xs
of_sixteen P q [] long = absurd (omega arith)
of_sixteen P q (a ∷ []) long = absurd (omega arith)
of_sixteen P q (a ∷ b ∷ []) long = absurd (omega arith)
of_sixteen P q (a ∷ b ∷ c ∷ []) long = absurd (omega arith)
of_sixteen P q (a ∷ b ∷ c ∷ d ∷ []) long = absurd (omega arith)
of_sixteen P q (a ∷ b ∷ c ∷ d ∷ e ∷ []) long = absurd (omega arith)
of_sixteen P q (a ∷ b ∷ c ∷ d ∷ e ∷ f ∷ []) long = absurd (omega arith)
of_sixteen P q (a ∷ b ∷ c ∷ d ∷ e ∷ f ∷ g ∷ []) long = absurd (omega arith)
of_sixteen P q (a ∷ b ∷ c ∷ d ∷ e ∷ f ∷ g ∷ h ∷ []) long = absurd (omega arith)
of_sixteen P q (a ∷ b ∷ c ∷ d ∷ e ∷ f ∷ g ∷ h ∷ i ∷ []) long = absurd (omega arith)
of_sixteen P q (a ∷ b ∷ c ∷ d ∷ e ∷ f ∷ g ∷ h ∷ i ∷ j ∷ []) long = absurd (omega arith)
of_sixteen P q (a ∷ b ∷ c ∷ d ∷ e ∷ f ∷ g ∷ h ∷ i ∷ j ∷ k ∷ []) long = absurd (omega arith)
of_sixteen P q (a ∷ b ∷ c ∷ d ∷ e ∷ f ∷ g ∷ h ∷ i ∷ j ∷ k ∷ l ∷ []) long = absurd (omega arith)
of_sixteen P q (a ∷ b ∷ c ∷ d ∷ e ∷ f ∷ g ∷ h ∷ i ∷ j ∷ k ∷ l ∷ m ∷ []) long = absurd (omega arith)
of_sixteen P q (a ∷ b ∷ c ∷ d ∷ e ∷ f ∷ g ∷ h ∷ i ∷ j ∷ k ∷ l ∷ m ∷ n ∷ []) long = absurd (omega arith)
of_sixteen P q (a ∷ b ∷ c ∷ d ∷ e ∷ f ∷ g ∷ h ∷ i ∷ j ∷ k ∷ l ∷ m ∷ n ∷ o ∷ []) long = absurd (omega arith)
of_sixteen P q (a ∷ b ∷ c ∷ d ∷ e ∷ f ∷ g ∷ h ∷ i ∷ j ∷ k ∷ l ∷ m ∷ n ∷ o ∷ p ∷ rest) long = q a b c d e f g h i j k l m n o p rest

-- each row of the table, by computing
abbrev IsAround : ℕ → List ℕ → List ℕ → Type 0
IsAround place other xs = swz_l w8 16 (take 16 xs) 0 (get_or PLACES place other) ≡ take 15 (without place xs) ++ 0 ∷ []

pub shuffled : (place : ℕ) (other xs : List ℕ) → place < 13 → 16 ≤ length xs → IsAround place other xs
shuffled zero other xs few long =
    of_sixteen (IsAround 0 other) (λ a b c d e f g h i j k l m n o p rest. refl) xs long
shuffled (suc zero) other xs few long =
    of_sixteen (IsAround 1 other) (λ a b c d e f g h i j k l m n o p rest. refl) xs long
shuffled (suc (suc zero)) other xs few long =
    of_sixteen (IsAround 2 other) (λ a b c d e f g h i j k l m n o p rest. refl) xs long
shuffled (suc (suc (suc zero))) other xs few long =
    of_sixteen (IsAround 3 other) (λ a b c d e f g h i j k l m n o p rest. refl) xs long
shuffled (suc (suc (suc (suc zero)))) other xs few long =
    of_sixteen (IsAround 4 other) (λ a b c d e f g h i j k l m n o p rest. refl) xs long
shuffled (suc (suc (suc (suc (suc zero))))) other xs few long =
    of_sixteen (IsAround 5 other) (λ a b c d e f g h i j k l m n o p rest. refl) xs long
shuffled (suc (suc (suc (suc (suc (suc zero)))))) other xs few long =
    of_sixteen (IsAround 6 other) (λ a b c d e f g h i j k l m n o p rest. refl) xs long
shuffled (suc (suc (suc (suc (suc (suc (suc zero))))))) other xs few long =
    of_sixteen (IsAround 7 other) (λ a b c d e f g h i j k l m n o p rest. refl) xs long
shuffled (suc (suc (suc (suc (suc (suc (suc (suc zero)))))))) other xs few long =
    of_sixteen (IsAround 8 other) (λ a b c d e f g h i j k l m n o p rest. refl) xs long
shuffled (suc (suc (suc (suc (suc (suc (suc (suc (suc zero))))))))) other xs few long =
    of_sixteen (IsAround 9 other) (λ a b c d e f g h i j k l m n o p rest. refl) xs long
shuffled (suc (suc (suc (suc (suc (suc (suc (suc (suc (suc zero)))))))))) other xs few long =
    of_sixteen (IsAround 10 other) (λ a b c d e f g h i j k l m n o p rest. refl) xs long
shuffled (suc (suc (suc (suc (suc (suc (suc (suc (suc (suc (suc zero))))))))))) other xs few long =
    of_sixteen (IsAround 11 other) (λ a b c d e f g h i j k l m n o p rest. refl) xs long
shuffled (suc (suc (suc (suc (suc (suc (suc (suc (suc (suc (suc (suc zero)))))))))))) other xs few long =
    of_sixteen (IsAround 12 other) (λ a b c d e f g h i j k l m n o p rest. refl) xs long
shuffled (suc (suc (suc (suc (suc (suc (suc (suc (suc (suc (suc (suc (suc place))))))))))))) other xs few long = absurd (omega arith)

-- ---- the first of them

-- by the place behind the byte that is left out
split_taken : (place n : ℕ) (xs : List ℕ) → place ≤ n
    → take n (take place xs ++ drop (suc place) xs) ≡ take place (take (suc n) xs) ++ drop (suc place) (take (suc n) xs)
split_taken zero zero [] low = refl
split_taken zero (suc n) [] low = refl
split_taken zero n (x ∷ xs) low = refl
split_taken (suc place) zero xs low = absurd (omega arith)
split_taken (suc place) (suc n) [] low = refl
split_taken (suc place) (suc n) (x ∷ xs) low = ap (λ more. x ∷ more) (split_taken place n xs (omega arith))

pub without_is : (place : ℕ) (xs : List ℕ) → without place xs ≡ take place xs ++ drop (suc place) xs
without_is place xs = let next : place + 1 ≡ suc place = omega arith in ap (λ k. take place xs ++ drop k xs) next

without_taken : (place n : ℕ) (xs : List ℕ) → place ≤ n → take n (without place xs) ≡ without place (take (suc n) xs)
without_taken place n xs low =
    ap (take n) (without_is place xs) ∙ split_taken place n xs low ∙ sym (without_is place (take (suc n) xs))

-- one byte less
without_long : (place : ℕ) (xs : List ℕ) → place < length xs → length (without place xs) ≡ length xs - 1
without_long place xs low =
    length-append (take place xs) (drop (place + 1) xs)
    ∙ ap₂ (λ m n. m + n) (length-take-le place xs (omega (arith, low))) (length-drop (place + 1) xs)
    ∙ omega (arith, low)

-- of the bytes that the shuffle leaves
pub around_taken : (place n : ℕ) (xs : List ℕ) → place ≤ n → n ≤ 15 → 16 ≤ length xs
    → take n (take 15 (without place xs) ++ 0 ∷ []) ≡ without place (take (suc n) xs)
around_taken place n xs low few room =
    let long = without_long place xs (omega (arith, low, few, room)) in
    let fifteen = length-take-le 15 (without place xs) (omega (arith, long, room)) in
    take-append-le n (take 15 (without place xs)) (0 ∷ []) (omega (arith, fifteen, few))
    ∙ take-take n 15 (without place xs) few
    ∙ without_taken place n xs low
