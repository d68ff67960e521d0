-- Runs between two parts of a body are those of the text that the body stands in.
use Rattle.std.proofs.Common.{◌≡◌, ℕ, suc, ◌+◌, ◌-◌, ◌<◌, ◌≤◌, Bool, true, false, ◌&&◌, ◌||◌, List, [], ◌∷◌, ◌++◌, length, take, drop, refl, sym, ap, ◌∙◌, arith, Some, inl, inr, length-append, length-take}
use Rattle.std.proofs.Math.Bool.{and-false, and-true, or-false}
use Rattle.std.proofs.lemmas.Bool.{false≢true, lt-ltb, le-ltb, and_parts}
use Rattle.std.proofs.lemmas.Option.{slice_get_within}
use Rattle.std.proofs.lemmas.Bool.Decides.{nat_tests}
use Rattle.std.proofs.lemmas.List.{length-replicate, take-append-drop}
use Rattle.std.specs.Prelude.{◌==◌, nat_lt, slice_get, replicate}
use Rattle.lexical_util.specs.Format.{Format}
use Rattle.lexical_parse_integer.specs.Runs.{admits_leading, flag_for, run_passes, separator_at}
use Rattle.lexical_parse_integer.proofs.ForCallers.{true_or_false}
use Rattle.lexical_laws.specs.Integer.{HasRun, may_lead, may_part}
use Rattle.lexical_laws.proofs.Bodies.{StandsAt}
use Rattle.lexical_laws.proofs.Parts.{as_push, as_replicate, get_behind, get_drop, get_pushed, get_replicate, get_within}
use Rattle.lexical_laws.proofs.Runs.{IsRegion, IsRun, RunsPass, passes_by_flag, separator_byte, separator_told}

-- ---- flags

-- whether a part has a byte
abbrev pub some_in : List ℕ → Bool
some_in [] = false
some_in (b ∷ bs) = true

leading_flag : (f : Format) (pre : Bool) (prefix : List ℕ) → pre ≡ some_in prefix → admits_leading f pre ≡ may_lead f prefix
leading_flag f pre [] e = rw e (ap (λ b. f.integer_leading_digit_separator || b) (and-false f.integer_prefix_digit_separator) ∙ or-false f.integer_leading_digit_separator)
leading_flag f pre (b ∷ prefix) e = rw e (ap (λ b. f.integer_leading_digit_separator || b) (and-true f.integer_prefix_digit_separator))

flag_of_parts : (f : Format) (pre : Bool) (prefix before behind : List ℕ) → pre ≡ some_in prefix → flag_for f pre (some_in before) (some_in behind) ≡ may_part f prefix before behind
unfolding flag_for
flag_of_parts f pre prefix [] [] e = ap (λ b. b || f.integer_trailing_digit_separator) (leading_flag f pre prefix e)
flag_of_parts f pre prefix [] (c ∷ behind) e = leading_flag f pre prefix e
flag_of_parts f pre prefix (b ∷ before) [] e = refl
flag_of_parts f pre prefix (b ∷ before) (c ∷ behind) e = refl

some_between : (from to : ℕ) (part : List ℕ) → from + length part ≡ to → nat_lt from to ≡ some_in part
some_between from to [] e = le-ltb from to (omega arith)
some_between from to (b ∷ part) e = lt-ltb from to (omega arith)

-- ---- runs

length_of_parts : (f : Format) (body before behind : List ℕ) (count : ℕ) → HasRun f body before count behind → length body ≡ length before + (count + length behind)
length_of_parts f body before behind count h =
    let whole = ap length h.parts in
    let outer = length-append before (replicate count h.separator ++ behind) in
    let inner = length-append (replicate count h.separator) behind in
    let size = length-replicate count h.separator in
    omega arith

-- the byte of the text at a place of a part
part_byte : (text : List ℕ) (start : ℕ) (body before rest : List ℕ) (i k : ℕ) → StandsAt text start body → body ≡ before ++ rest → start + length before + i ≡ k → k < start + length body → slice_get text k ≡ slice_get rest i
part_byte text start body before rest i k at parts place within =
    let e : start + (length before + i) ≡ k = omega arith in
    let here = at (length before + i) (omega arith) in
    ap (slice_get text) (sym e) ∙ here ∙ ap (λ xs. slice_get xs (length before + i)) parts ∙ get_behind before rest i

module _ (f : Format) (pre : Bool) (r : ℕ) (text body : List ℕ) (start e : ℕ) (g : IsRegion f r text start e) (size : start + length body ≡ e) (at : StandsAt text start body) where
  -- a run between two parts is one of the text
  pub run_of_parts : (before behind : List ℕ) (count : ℕ) → HasRun f body before count behind → IsRun f text start (start + length before) (start + length before + count)
  run_of_parts before behind count h = record {
    low = omega arith;
    some = omega (arith, h.some);
    holds = λ k low high.
        let i : ℕ = k - (start + length before) in
        let within = length_of_parts f body before behind count h in
        let byte = part_byte text start body before (replicate count s ++ behind) i k at h.parts (omega arith) (omega arith) in
        let in_run = get_within (replicate count s) behind i (let n = length-replicate count s in omega arith) in
        separator_byte f text k s h.is_set (byte ∙ in_run ∙ get_replicate count i s (omega arith));
    before = λ more. elim (true_or_false (separator_at f text (start + length before - 1))) [
      | inl t ↦
          let told = separator_told f text (start + length before - 1) t in
          let same = same_separator told.0 told.1 in
          let within = length_of_parts f body before behind count h in
          let there = at (length before - 1) (omega (arith, h.some)) in
          let place : start + (length before - 1) ≡ start + length before - 1 = omega arith in
          let byte : slice_get before (length before - 1) ≡ Some s =
          sym (get_within before (replicate count s ++ behind) (length before - 1) (omega arith)) ∙ ap (λ xs. slice_get xs (length before - 1)) (sym h.parts) ∙ sym there ∙ ap (slice_get text) place ∙ told.2 ∙ ap Some same in
          let push = as_push before (length before - 1) s (omega arith) byte in
          absurd (h.none_before push.0 push.1)
      | inr t ↦ t
    ];
    behind = elim (true_or_false (separator_at f text (start + length before + count))) [
      | inl t ↦ by_behind behind refl t
      | inr t ↦ t
    ];
  }
    where
      s : ℕ
      s = h.separator

      same_separator : (c : ℕ) → f.digit_separator ≡ Some c → c ≡ s
      same_separator c e = let both = sym e ∙ h.is_set in cc

      by_behind : (rest : List ℕ) → behind ≡ rest → separator_at f text (start + length before + count) ≡ true → separator_at f text (start + length before + count) ≡ false
      by_behind [] is t =
          let within = length_of_parts f body before behind count h in
          let none : length behind ≡ 0 = ap length is in
          let end : start + length before + count ≡ e = omega arith in
          ap (separator_at f text) end ∙ g.stop_separator
      by_behind (c ∷ rest) is t =
          let within = length_of_parts f body before behind count h in
          let some : length behind ≡ suc (length rest) = ap length is in
          let told = separator_told f text (start + length before + count) t in
          let same = same_separator told.0 told.1 in
          let byte = part_byte text start body before (replicate count s ++ behind) count (start + length before + count) at h.parts refl (omega arith) in
          let size' = length-replicate count s in
          let place : length (replicate count s) + 0 ≡ count = omega arith in
          let behind_run : slice_get (replicate count s ++ behind) count ≡ slice_get behind 0 = ap (slice_get (replicate count s ++ behind)) (sym place) ∙ get_behind (replicate count s) behind 0 in
          let first : Some c ≡ Some s = sym (ap (λ xs. slice_get xs 0) is) ∙ sym behind_run ∙ sym byte ∙ told.2 ∙ ap Some same in
          let same_byte : c ≡ s = cc in
          absurd (h.none_behind rest (is ∙ ap (λ b. b ∷ rest) same_byte))

  -- a run of the text is one between two parts
  pub parts_of_run : (p q : ℕ) → IsRun f text start p q → q ≤ e → HasRun f body (take (p - start) body) (q - p) (drop (q - p) (drop (p - start) body))
  parts_of_run p q run inside =
      let first = separator_told f text p (run.holds p (omega arith) run.some) in
      let s : ℕ = first.0 in
      let n : ℕ = p - start in
      let low = run.low in
      let some = run.some in
      let front = length-take n body in
      let byte : (k : ℕ) → p ≤ k → k < q → slice_get text k ≡ Some s =
      λ k l h. (let told = separator_told f text k (run.holds k l h) in let same : told.0 ≡ s = (let both = sym told.1 ∙ first.1 in cc) in told.2 ∙ ap Some same) in
      let in_body : (k : ℕ) → k < q - p → slice_get (drop n body) k ≡ Some s =
      λ k l. (let place : start + (n + k) ≡ p + k = omega arith in get_drop n k body ∙ sym (at (n + k) (omega arith)) ∙ ap (slice_get text) place ∙ byte (p + k) (omega arith) (omega arith)) in
      record {
        separator = s;
        is_set = first.1;
        parts = sym (take-append-drop n body) ∙ ap (λ xs. take n body ++ xs) (as_replicate (drop n body) (q - p) s in_body);
        some = omega arith;
        none_before = λ rest is.
            let size' : length (take n body) ≡ length rest + 1 = ap length is ∙ length-append rest (s ∷ []) in
            let last : slice_get (take n body ++ drop n body) (length rest) ≡ Some s = get_within (take n body) (drop n body) (length rest) (omega arith) ∙ ap (λ xs. slice_get xs (length rest)) is ∙ get_pushed rest s in
            let place : start + length rest ≡ p - 1 = omega arith in
            let here : slice_get text (p - 1) ≡ Some s = ap (slice_get text) (sym place) ∙ at (length rest) (omega arith) ∙ ap (λ xs. slice_get xs (length rest)) (sym (take-append-drop n body)) ∙ last in
            false≢true (sym (run.before (omega arith)) ∙ separator_byte f text (p - 1) s first.1 here);
        none_behind = λ rest is.
            let m : ℕ = q - p in
            let first_byte : slice_get (drop m (drop n body)) 0 ≡ Some s = ap (λ xs. slice_get xs 0) is in
            let place : n + (m + 0) ≡ q - start = omega arith in
            let there : slice_get body (q - start) ≡ Some s = ap (slice_get body) (sym place) ∙ sym (get_drop n (m + 0) body) ∙ sym (get_drop m 0 (drop n body)) ∙ first_byte in
            let inner = slice_get_within body (q - start) s there in
            let back : start + (q - start) ≡ q = omega arith in
            let here : slice_get text q ≡ Some s = ap (slice_get text) (sym back) ∙ at (q - start) inner ∙ there in
            false≢true (sym run.behind ∙ separator_byte f text q s first.1 here);
      }

  module _ (prefix : List ℕ) (behind_prefix : pre ≡ some_in prefix) where
    -- what a run needs, by the parts beside it
    run_passes_is : (before behind : List ℕ) (count : ℕ) → HasRun f body before count behind → (p q : ℕ) → start + length before ≡ p → p + count ≡ q → IsRun f text start p q →
        run_passes f pre r text start p q ≡ ((f.integer_consecutive_digit_separator || (q == p + 1)) && may_part f prefix before behind)
    run_passes_is before behind count h p q from to run =
        let within = length_of_parts f body before behind count h in
        let left = some_between start p before from in
        let right = some_between q e behind (omega arith) in
        passes_by_flag f pre r text start e p q g run (omega arith)
        ∙ ap (λ b. (f.integer_consecutive_digit_separator || (q == p + 1)) && flag_for f pre b (nat_lt q e)) left
        ∙ ap (λ b. (f.integer_consecutive_digit_separator || (q == p + 1)) && flag_for f pre (some_in before) b) right
        ∙ ap (λ b. (f.integer_consecutive_digit_separator || (q == p + 1)) && b) (flag_of_parts f pre prefix before behind behind_prefix)

    -- where all runs pass, each may stand
    pub runs_may : RunsPass f pre r text start e → (before behind : List ℕ) (count : ℕ) → HasRun f body before count behind →
        (may_part f prefix before behind ≡ true) × (f.integer_consecutive_digit_separator ≡ false → count ≡ 1)
    runs_may pass before behind count h =
        let within = length_of_parts f body before behind count h in
        let run = run_of_parts before behind count h in
        let p : ℕ = start + length before in
        let passes = sym (run_passes_is before behind count h p (p + count) refl refl run) ∙ pass p (p + count) run (omega arith) in
        let both = and_parts (f.integer_consecutive_digit_separator || (p + count == p + 1)) (may_part f prefix before behind) passes in
        (both.1, λ off. (let one : (p + count == p + 1) ≡ true = rw off at both.0 in grind (arith, nat_tests)))

    -- where each may stand, all runs pass
    pub runs_pass : ((before behind : List ℕ) (count : ℕ) → HasRun f body before count behind → may_part f prefix before behind ≡ true) →
        ((before behind : List ℕ) (count : ℕ) → HasRun f body before count behind → f.integer_consecutive_digit_separator ≡ false → count ≡ 1) → RunsPass f pre r text start e
    runs_pass may single p q run inside =
        let n : ℕ = p - start in
        let before : List ℕ = take n body in
        let behind : List ℕ = drop (q - p) (drop n body) in
        let h = parts_of_run p q run inside in
        let low = run.low in
        let some = run.some in
        let front = length-take n body in
        let one : (f.integer_consecutive_digit_separator || (q == p + 1)) ≡ true = elim (true_or_false f.integer_consecutive_digit_separator) [
          | inl t ↦ rw t refl
          | inr t ↦ (let is_one = single before behind (q - p) h t in let same : (q == p + 1) ≡ true = grind (arith, nat_tests) in rw (t, same) refl)
        ] in
        let may' = may before behind (q - p) h in
        run_passes_is before behind (q - p) h p q (omega arith) (omega arith) run ∙ rw (one, may') refl
