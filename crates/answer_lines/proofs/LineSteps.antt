-- The first line of a text, and those after it.
use Rattle.std.proofs.Common.{◌≡◌, ℕ, zero, suc, ◌+◌, ◌-◌, ◌<◌, ◌≤◌, List, [], ◌∷◌, ◌++◌, length, take, drop, get_or, Option, refl, ap, subst, sym, ◌∙◌, arith, add-one}
use Rattle.answer_lines.specs.Settings.{Settings}
use Rattle.answer_lines.specs.Lines.{lines, onto_line}
use Rattle.answer_lines.specs.Output.{answers_to, answer_to, settings_after}
use Rattle.answer_lines.specs.Gather.{GainsFront, Sends}
use Rattle.answer_lines.proofs.Sending.{front_piece, sends_piece}
use Rattle.std.proofs.lemmas.List.{append-nil, take_rest, drop_all}

-- a byte that is no line feed goes onto the first line of the rest
lines_cons : (b : ℕ) (bs : List ℕ) → (b ≡ 10 → ⊥) → lines (b ∷ bs) ≡ onto_line b (lines bs)
lines_cons b bs ne = grind (arith, ne)

pub lines_step : (bs : List ℕ) (n : ℕ) → 0 < length bs → n ≤ length bs
    → ((k : ℕ) → k < n → get_or bs k 0 ≡ 10 → ⊥) → (n < length bs → get_or bs n 0 ≡ 10)
    → lines bs ≡ take n bs ∷ lines (drop (suc n) bs)
lines_step [] n some within before found = absurd (omega arith)
lines_step (b ∷ bs) zero some within before found =
    let e : b ≡ 10 = found (omega arith) in rw e refl
lines_step (b ∷ []) (suc zero) some within before found =
    let ne : b ≡ 10 → ⊥ = before 0 (omega arith) in
    grind (arith, ne)
lines_step (b ∷ []) (suc (suc n)) some within before found = absurd (omega arith)
lines_step (b ∷ c ∷ bs) (suc n) some within before found =
    lines_cons b (c ∷ bs) (before 0 (omega arith))
    ∙ ap (λ ls. onto_line b ls) (lines_step (c ∷ bs) n (omega arith) (omega arith)
    (λ k lt. before (suc k) (omega arith)) (λ lt. found (omega arith)))

-- one line's answer goes out
pub Sends-line : (old now next : Option (List ℕ)) (s after : Settings)
    (bs whole waited waits : List ℕ) (n : ℕ) → 0 < length bs → n ≤ length bs
    → ((k : ℕ) → k < n → get_or bs k 0 ≡ 10 → ⊥) → (n < length bs → get_or bs n 0 ≡ 10)
    → Sends old now whole (waited ++ answers_to s (lines bs))
    → Sends now next (waited ++ (answer_to s (take n bs) ++ 10 ∷ [])) waits
    → after ≡ settings_after s (take n bs)
    → Sends old next whole (waits ++ answers_to after (lines (drop (n + 1) bs)))
Sends-line old now next s after bs whole waited waits n some within before found sent a e =
    let P : List (List ℕ) → Type 0 = λ ls. Sends old now whole (waited ++ answers_to s ls) in
    let Q : Settings → Type 0 = λ t. Sends old next whole (waits ++ answers_to t (lines (drop (n + 1) bs))) in
    subst Q (sym e) (rw add-one (sends_piece old now next whole waited waits _ _
    (subst P (lines_step bs n some within before found) sent) a))

-- the next line begins after the line feed
pub Sends-next : (old now next : Option (List ℕ)) (s after : Settings)
    (bs whole waited waits : List ℕ) (n : ℕ) → 0 < length bs → n ≤ length bs
    → ((k : ℕ) → k < n → get_or bs k 0 ≡ 10 → ⊥) → (n < length bs → get_or bs n 0 ≡ 10)
    → Sends old now whole (waited ++ answers_to s (lines bs))
    → Sends now next (waited ++ (answer_to s (take n bs) ++ 10 ∷ [])) waits
    → after ≡ settings_after s (take n bs)
    → Sends old next whole (waits ++ answers_to after (lines (take (length bs - (n + 1)) (drop (n + 1) bs))))
Sends-next old now next s after bs whole waited waits n some within before found sent a e =
    rw (take_rest bs (n + 1)) (Sends-line old now next s after bs whole waited waits n some within
    before found sent a e)

-- the last line had no line feed
pub Sends-last : (old now next : Option (List ℕ)) (s after : Settings)
    (bs whole waited waits : List ℕ) (n : ℕ) → 0 < length bs → n ≡ length bs
    → ((k : ℕ) → k < n → get_or bs k 0 ≡ 10 → ⊥)
    → Sends old now whole (waited ++ answers_to s (lines bs))
    → Sends now next (waited ++ (answer_to s (take n bs) ++ 10 ∷ [])) waits
    → after ≡ settings_after s (take n bs)
    → Sends old next whole waits
Sends-last old now next s after bs whole waited waits n some all before sent a e =
    let none : drop (n + 1) bs ≡ [] = drop_all (n + 1) bs (omega arith) in
    let P : List ℕ → Type 0 = λ l. Sends old next whole (waits ++ answers_to after (lines l)) in
    rw append-nil at
    (subst P none (Sends-line old now next s after bs whole waited waits n some (omega arith) before
    (λ lt. absurd (omega arith)) sent a e))

-- no line is left
pub Sends-end : (old now : Option (List ℕ)) (s : Settings) (bs whole waited : List ℕ)
    → length bs ≡ 0 → Sends old now whole (waited ++ answers_to s (lines bs))
    → Sends old now whole waited
Sends-end old now s [] whole waited none sent = rw append-nil at sent
Sends-end old now s (b ∷ bs) whole waited none sent = absurd (omega arith)

-- a front of one line's answer goes out
pub Front-line : (old now next : Option (List ℕ)) (s : Settings) (bs whole waited : List ℕ) (n : ℕ)
    → 0 < length bs → n ≤ length bs
    → ((k : ℕ) → k < n → get_or bs k 0 ≡ 10 → ⊥) → (n < length bs → get_or bs n 0 ≡ 10)
    → Sends old now whole (waited ++ answers_to s (lines bs))
    → GainsFront now next (waited ++ (answer_to s (take n bs) ++ 10 ∷ []))
    → GainsFront old next whole
Front-line old now next s bs whole waited n some within before found sent g =
    let P : List (List ℕ) → Type 0 = λ ls. Sends old now whole (waited ++ answers_to s ls) in
    front_piece old now next whole waited _ _ (subst P (lines_step bs n some within before found) sent) g
