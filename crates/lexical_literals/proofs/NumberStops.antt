-- Where the number in front of a text stops, by what it is as one of 128 bits: for literals with types.
use Rattle.std.proofs.Common.{◌≡◌, ◌⊎◌, ℕ, Bool, true, false, ◌&&◌, ◌||◌, not, List, [], ◌∷◌, length, IfSome, IsNone, Option, Some, None, is_some, Ok, Err, Result, refl, sym, ap, ◌∙◌, inl, inr}
use Rattle.std.proofs.Math.IntN.{ℤ}
use Rattle.std.proofs.lemmas.Bool.{false≢true}
use Rattle.std.specs.Prelude.{◌==◌, nat_le, slice_index}
use Rattle.lexical_util.specs.Format.{Format}
use Rattle.lexical_util.specs.Validity.{fault}
use Rattle.lexical_util.specs.declared.error.Error.{Error}
use Rattle.lexical_util.specs.declared.error.Error.TheVariants.{Empty, Overflow}
use Rattle.lexical_parse_integer.specs.Fronts.{if_digit, number_in_front}
use Rattle.lexical_parse_integer.specs.Grammar.{after_head, digits_required, fault_if, first_fault_or, if_valid, lacks_digits, partial, prefix_fault, range_fault, zero_fault}
use Rattle.lexical_parse_integer.specs.Head.{Head, chooses_radix, head_of}
use Rattle.lexical_parse_integer.specs.Numeral.{Numeral, digit_count, numeral_behind, numeral_value}
use Rattle.lexical_parse_integer.proofs.ForCallers.{head_signed}
use Rattle.lexical_literals.specs.TypedLiterals.{number_stop, number_stop_if_valid, stop_behind, wide_number}
use Rattle.lexical_literals.proofs.NumberFaults.{counted, fault_before, format_not_great, great_stop, head_not_great, is_none, leaves_above, no_other_great, none_leaves, ok_stop, other_stop, wide}

module _ (f : Format) (text : List ℕ) where
  -- what a front is, by its head
  abbrev behind : Head → Result (ℤ × ℕ) Error
  behind h =
      let x = numeral_behind f text h in
      if_digit (not (digit_count x == 0)) (first_fault_or
      (prefix_fault text h ∷ zero_fault f (chooses_radix h) x ∷ range_fault wide h.is_negative x
      ∷ fault_if (lacks_digits f x && (is_some f.digit_separator || (x.stop == length text))) (Empty x.stop) ∷ [])
      (numeral_value h.is_negative x, x.stop))

  front_by_head : (h : Head) → head_of f wide text ≡ Ok h → number_in_front f wide text ≡ behind h
  unfolding partial
  front_by_head h is = let count = counted (digit_count (numeral_behind f text h)) in rw (is, count) refl

  fault_by_head : (e : Error) → head_of f wide text ≡ Err e → number_in_front f wide text ≡ Err e
  unfolding partial
  fault_by_head e is = rw is refl

  stop_by_head : (h : Result Head Error) → head_of f wide text ≡ h → number_stop f text ≡ after_head h (stop_behind f text)
  unfolding number_stop
  stop_by_head h is = ap (λ (h : Result Head Error). after_head h (stop_behind f text)) is

  -- a number that is read stops where reading stopped
  pub ok_stops : (v : ℤ) (place : ℕ) → Ok (v, place) ≡ wide_number f text → number_stop_if_valid f text ≡ Ok place
  ok_stops v place told = by_fault (fault f) told
    where
      by_head : (h : Result Head Error) → head_of f wide text ≡ h → number_in_front f wide text ≡ Ok (v, place) → number_stop f text ≡ Ok place
      by_head (Err e) is told = let faulty = fault_by_head e is in cc
      by_head (Ok h) is told =
          let x : Numeral = numeral_behind f text h in
          stop_by_head (Ok h) is ∙ ok_stop (prefix_fault text h) (zero_fault f (chooses_radix h) x) (range_fault wide h.is_negative x) _
          (digit_count x == 0) x.stop place (numeral_value h.is_negative x) v (sym (front_by_head h is) ∙ told)

      by_fault : (e : Option Error) → Ok (v, place) ≡ if_valid e (number_in_front f wide text) → if_valid e (number_stop f text) ≡ Ok place
      by_fault None told = by_head (head_of f wide text) refl (sym told)
      by_fault (Some e) told = cc

  -- a format is valid under which a value is too great
  pub great_valid : (place : ℕ) → Err (Overflow place) ≡ wide_number f text → IsNone (fault f)
  great_valid place told = by_fault (fault f) refl told
    where
      by_fault : (e : Option Error) → fault f ≡ e → Err (Overflow place) ≡ if_valid e (number_in_front f wide text) → IsNone (fault f)
      by_fault None none told = is_none none
      by_fault (Some e) is told =
          let same : e ≡ Overflow place = cc in
          absurd (format_not_great f place (is ∙ ap Some same))

  above_zero : (h : Head) → head_of f wide text ≡ Ok h → h.is_negative ≡ false
  above_zero h is = by_sign h.is_negative refl
    where
      by_sign : (b : Bool) → h.is_negative ≡ b → h.is_negative ≡ false
      by_sign false e = e
      by_sign true e = absurd (false≢true (head_signed f wide text h is e))

  -- a number that is too great stops where its numeral does
  pub great_stops : (place stop : ℕ) → Err (Overflow place) ≡ wide_number f text → ((h : Head) → head_of f wide text ≡ Ok h → stop ≡ (numeral_behind f text h).stop)
      → number_stop_if_valid f text ≡ Ok stop
  great_stops place stop told numeral = by_fault (fault f) refl told
    where
      by_range : (h : Head) → head_of f wide text ≡ Ok h → behind h ≡ Err (Overflow place)
          → (range_fault wide h.is_negative (numeral_behind f text h) ≡ None) ⊎ ((out : ℕ) × (range_fault wide h.is_negative (numeral_behind f text h) ≡ Some (Overflow out)))
          → stop_behind f text h ≡ Ok stop
      by_range h is told (inl none) =
          let x : Numeral = numeral_behind f text h in
          absurd (no_other_great (h.is_prefixed && (h.start == length text)) (((f.no_integer_leading_zeros && not (chooses_radix h)) && nat_le 2 (digit_count x)) && (slice_index x.digits 0 == 0)) (digits_required f) (is_some f.digit_separator || (x.stop == length text)) (digit_count x == 0) (length text) (slice_index x.places 0) x.stop place (numeral_value h.is_negative x) (rw none at told))
      by_range h is told (inr out) =
          let x : Numeral = numeral_behind f text h in
          by_count (digit_count x == 0) refl
        where
          by_count : (b : Bool) → (digit_count (numeral_behind f text h) == 0) ≡ b → stop_behind f text h ≡ Ok stop
          by_count true e = absurd (let none = none_leaves wide h.is_negative (numeral_behind f text h) e in let is = out.1 in cc)
          by_count false e = great_stop _ _ _ _ _ _ _ _ _ _ e (rw out.1 at told) ∙ ap Ok (sym (numeral h is))

      by_head : (r : Result Head Error) → head_of f wide text ≡ r → number_in_front f wide text ≡ Err (Overflow place) → number_stop f text ≡ Ok stop
      by_head (Err e) is told =
          let faulty = fault_by_head e is in
          let same : e ≡ Overflow place = cc in
          absurd (head_not_great f text place (is ∙ ap Err same))
      by_head (Ok h) is told =
          stop_by_head (Ok h) is ∙ by_range h is (sym (front_by_head h is) ∙ told) (leaves_above wide h.is_negative (numeral_behind f text h) (above_zero h is))

      by_fault : (e : Option Error) → fault f ≡ e → Err (Overflow place) ≡ if_valid e (number_in_front f wide text) → if_valid e (number_stop f text) ≡ Ok stop
      by_fault None none told = by_head (head_of f wide text) refl (sym told)
      by_fault (Some e) is told =
          let same : e ≡ Overflow place = cc in
          absurd (format_not_great f place (is ∙ ap Some same))

  -- any other fault is that of where the number stops
  pub other_stops : (error : Error) → ((place : ℕ) → error ≡ Overflow place → ⊥) → Err error ≡ wide_number f text → number_stop_if_valid f text ≡ Err error
  other_stops error other told = by_fault (fault f) told
    where
      by_range : (h : Head) → behind h ≡ Err error
          → (range_fault wide h.is_negative (numeral_behind f text h) ≡ None) ⊎ ((out : ℕ) × (range_fault wide h.is_negative (numeral_behind f text h) ≡ Some (Overflow out)))
          → stop_behind f text h ≡ Err error
      by_range h told (inl none) =
          let x : Numeral = numeral_behind f text h in
          other_stop (prefix_fault text h) (zero_fault f (chooses_radix h) x) (digits_required f) (is_some f.digit_separator || (x.stop == length text)) (digit_count x == 0) x.stop (numeral_value h.is_negative x) error (rw none at told)
      by_range h told (inr out) =
          let x : Numeral = numeral_behind f text h in
          fault_before (prefix_fault text h) (zero_fault f (chooses_radix h) x) _ (fault_if (digit_count x == 0) (Empty x.stop)) _ x.stop out.0 (numeral_value h.is_negative x) error (other out.0) (rw out.1 at told)

      by_head : (r : Result Head Error) → head_of f wide text ≡ r → number_in_front f wide text ≡ Err error → number_stop f text ≡ Err error
      by_head (Err e) is told =
          let faulty = fault_by_head e is in
          let same : e ≡ error = cc in
          stop_by_head (Err e) is ∙ ap Err same
      by_head (Ok h) is told =
          stop_by_head (Ok h) is ∙ by_range h (sym (front_by_head h is) ∙ told) (leaves_above wide h.is_negative (numeral_behind f text h) (above_zero h is))

      by_fault : (e : Option Error) → Err error ≡ if_valid e (number_in_front f wide text) → if_valid e (number_stop f text) ≡ Err error
      by_fault None told = by_head (head_of f wide text) refl (sym told)
      by_fault (Some e) told = let same : e ≡ error = cc in ap Err same

-- ---- what is known of a front

pub some_is_there : (found : Option ℕ) (v : ℕ) (P : ℕ → Type 0) → found ≡ Some v → IfSome found P → P v
some_is_there found v P is told = rw is at told

pub none_is_there : (found : Option ℕ) (P : Type 0) → found ≡ None → (IsNone found → P) → P
none_is_there found P is told = told (is_none is)

pub not_none : {P : Type 0} (v : ℕ) → IsNone (Some v) → P
not_none v none = absurd (false≢true (sym none))
