-- What arguments of a known count ask for.
use Rattle.std.proofs.Common.{◌≡◌, ℕ, ◌<◌, ◌≤◌, List, [], ◌∷◌, length, map, get_or, None, refl, arith}
use denote.Ref.{Bor}
use Rattle.jad.specs.Question.{asked_by, format_told, if_dashes, question_about}

abbrev pub bytes_of : List (Bor (List ℕ)) → List (List ℕ)
bytes_of arguments = map (λ (argument : Bor (List ℕ)). argument.now) arguments

-- the bytes of an argument
abbrev pub at : List (Bor (List ℕ)) → ℕ → Bor (List ℕ) → List ℕ
at arguments i other = (get_or arguments i other).now

pub of_four : (xs : List (Bor (List ℕ))) (d : Bor (List ℕ)) → 4 ≤ length xs → length xs < 5
    → question_about (at xs 0 d) (format_told (at xs 1 d) (at xs 2 d)) (at xs 3 d) ≡ asked_by (bytes_of xs)
of_four [] d low high = absurd (omega arith)
of_four (a ∷ []) d low high = absurd (omega arith)
of_four (a ∷ b ∷ []) d low high = absurd (omega arith)
of_four (a ∷ b ∷ c ∷ []) d low high = absurd (omega arith)
of_four (a ∷ b ∷ c ∷ e ∷ []) d low high = refl
of_four (a ∷ b ∷ c ∷ e ∷ f ∷ xs) d low high = absurd (omega arith)

pub of_five : (xs : List (Bor (List ℕ))) (d : Bor (List ℕ)) → 5 ≤ length xs → length xs < 6
    → if_dashes (at xs 3 d) (question_about (at xs 0 d) (format_told (at xs 1 d) (at xs 2 d)) (at xs 4 d))
    ≡ asked_by (bytes_of xs)
of_five [] d low high = absurd (omega arith)
of_five (a ∷ []) d low high = absurd (omega arith)
of_five (a ∷ b ∷ []) d low high = absurd (omega arith)
of_five (a ∷ b ∷ c ∷ []) d low high = absurd (omega arith)
of_five (a ∷ b ∷ c ∷ e ∷ []) d low high = absurd (omega arith)
of_five (a ∷ b ∷ c ∷ e ∷ f ∷ []) d low high = refl
of_five (a ∷ b ∷ c ∷ e ∷ f ∷ g ∷ xs) d low high = absurd (omega arith)

pub of_fewer : (xs : List (Bor (List ℕ))) → length xs < 2 → None ≡ asked_by (bytes_of xs)
of_fewer [] few = refl
of_fewer (a ∷ []) few = refl
of_fewer (a ∷ b ∷ xs) few = absurd (omega arith)

pub of_more : (xs : List (Bor (List ℕ))) → 6 ≤ length xs → None ≡ asked_by (bytes_of xs)
of_more [] many = absurd (omega arith)
of_more (a ∷ []) many = absurd (omega arith)
of_more (a ∷ b ∷ []) many = absurd (omega arith)
of_more (a ∷ b ∷ c ∷ []) many = absurd (omega arith)
of_more (a ∷ b ∷ c ∷ e ∷ []) many = absurd (omega arith)
of_more (a ∷ b ∷ c ∷ e ∷ f ∷ []) many = absurd (omega arith)
of_more (a ∷ b ∷ c ∷ e ∷ f ∷ g ∷ xs) many = refl
