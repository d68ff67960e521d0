-- One step of a numeral in a signed type. Its product is what a search finds slowly: where the result is a number
-- of the type, so is the product, since the summand goes the way of the sign.
use Prim.Native.Nat.{zero, suc}
use Rattle.std.specs.Prelude.{◌≡◌, ◌<◌, ◌≤◌, ◌-◌, ◌*◌, ◌^◌, ◌+◌, ◌≤ℤ◌, ◌*ℤ◌, ◌-ℤ◌, ◌+ℤ◌, ℕ, ℤ, Bool, Option, Some, None, if◌then◌else◌, true, false, pos, negsuc, neg_ℤ}
use Rattle.std.proofs.Common.{arith, refl}
use Rattle.std.specs.Option.{SomeIff, option_map}
use Rattle.std.proofs.lemmas.Bool.{lt-ltb, ltb-true}
use Rattle.std.proofs.lemmas.Int.{ints, to_z-of_z}
use Rattle.lexical_util.specs.Number.{HasSign, IsNumber, number_if_fits, integer_type, is_number, mul_add}
use mir.Syntax.{Width, w8, w16, w32, w64, w128}
use mir.Val.{SFits, bits, hbits, to_z, of_z}

limit_is : (w : Width) → 2 ^ (bits w - 1) ≡ 2 ^ hbits w
limit_is w8 = refl
limit_is w16 = refl
limit_is w32 = refl
limit_is w64 = refl
limit_is w128 = refl

limit_is_some : (w : Width) → 0 < 2 ^ hbits w
limit_is_some w8 = omega arith
limit_is_some w16 = omega arith
limit_is_some w32 = omega arith
limit_is_some w64 = omega arith
limit_is_some w128 = omega arith

-- a number of the type fits its bits
number_fits : (w : Width) (z : ℤ) → IsNumber (integer_type (bits w) true) z → SFits w z
number_fits w (pos n) number = let same = limit_is w in let low = ltb-true _ _ number in record { sfits = omega arith }
number_fits w (negsuc n) number =
    let same = limit_is w in
    let low = ltb-true _ _ number in
    record { sfits = omega arith }

negative_fits : (w : Width) (n : ℕ) → n ≤ 2 ^ hbits w → SFits w (neg_ℤ (pos n))
negative_fits w zero low = record { sfits = limit_is_some w }
negative_fits w (suc n) low = record { sfits = omega arith }

-- how far down a step goes
step_down : (w : Width) (n add : ℕ)
    → IsNumber (integer_type (bits w) true) (neg_ℤ (pos n) -ℤ pos add) → n + add ≤ 2 ^ hbits w
step_down w n add number = let fits = number_fits w (neg_ℤ (pos n) -ℤ pos add) number in omega (arith, ints)

-- the product of whole numbers: the impossible signs first, then upwards, from zero downwards, and downwards
number_product : (w : Width) (negative : Bool) (value scale add : ℤ) → pos 1 ≤ℤ scale → pos 0 ≤ℤ add
    → HasSign negative value
    → IsNumber (integer_type (bits w) true) (mul_add negative value scale add) → SFits w (value *ℤ scale)
number_product w _ _ (negsuc scale) _ one _ _ _ = absurd one.le
number_product w _ _ (pos scale) (negsuc add) _ none _ _ = absurd none.le
number_product w false (negsuc value) (pos scale) (pos add) _ _ sign _ = absurd sign.le
number_product w true (pos (suc value)) (pos scale) (pos add) _ _ sign _ = absurd (omega (arith, ints))
number_product w false (pos value) (pos scale) (pos add) _ _ _ number =
    let same = limit_is w in let low = ltb-true _ _ number in record { sfits = omega arith }
number_product w true (pos zero) (pos scale) (pos add) _ _ _ _ =
    let low = limit_is_some w in
    record { sfits = omega arith }
number_product w true (negsuc value) (pos scale) (pos add) _ _ _ number =
    let low = step_down w (suc value * scale) add number in negative_fits w (suc value * scale) (omega arith)

-- a number as the machine keeps it
abbrev machine_value : Width → ℤ → ℤ
machine_value w z = to_z w (of_z w z)

-- where the result fits, the product of numbers as the machine keeps them fits
pub product_fits : {w : Width} {value scale : ℤ} (negative : Bool) (add : ℤ) → SFits w value → SFits w scale
    → pos 1 ≤ℤ scale → pos 0 ≤ℤ add → HasSign negative value
    → IsNumber (integer_type (bits w) true) (mul_add negative value scale add)
    → SFits w (machine_value w value *ℤ machine_value w scale)
product_fits {w} {value} {scale} negative add value_fits scale_fits one none sign number =
    rw (to_z-of_z w value value_fits, to_z-of_z w scale scale_fits)
    (number_product w negative value scale add one none sign number)

-- downwards the machine's difference is the result, and upwards its sum
pub difference_fits : {w : Width} {negative : Bool} {value scale add : ℤ} → negative ≡ true
    → SFits w value → SFits w scale → SFits w add
    → pos 1 ≤ℤ scale → pos 0 ≤ℤ add → HasSign negative value
    → IsNumber (integer_type (bits w) true) (mul_add negative value scale add)
    → SFits w (machine_value w (machine_value w value *ℤ machine_value w scale) -ℤ machine_value w add)
difference_fits {w} {negative} {value} {scale} {add} is_negative value_fits scale_fits add_fits one none sign number =
    let product = number_product w negative value scale add one none sign number in
    let fits = number_fits w (mul_add negative value scale add) number in
    rw (
      to_z-of_z w value value_fits,
      to_z-of_z w scale scale_fits,
      to_z-of_z w add add_fits,
      to_z-of_z w (value *ℤ scale) product,
    )
    (rw is_negative at fits)

pub difference_is : {w : Width} {negative : Bool} {value scale add : ℤ} → negative ≡ true
    → SFits w value → SFits w scale → SFits w add
    → pos 1 ≤ℤ scale → pos 0 ≤ℤ add → HasSign negative value
    → IsNumber (integer_type (bits w) true) (mul_add negative value scale add)
    → machine_value w (machine_value w (machine_value w value *ℤ machine_value w scale) -ℤ
    machine_value w add) ≡ mul_add negative value scale add
difference_is {w} {negative} {value} {scale} {add} is_negative value_fits scale_fits add_fits one none sign number =
    let product = number_product w negative value scale add one none sign number in
    let whole = number_fits w (mul_add negative value scale add) number in
    let fits = rw is_negative at whole in
    rw (
      to_z-of_z w value value_fits,
      to_z-of_z w scale scale_fits,
      to_z-of_z w add add_fits,
      to_z-of_z w (value *ℤ scale) product,
      to_z-of_z w ((value *ℤ scale) -ℤ add) fits,
      is_negative,
    )
    refl

pub sum_fits : {w : Width} {negative : Bool} {value scale add : ℤ} → negative ≡ false
    → SFits w value → SFits w scale → SFits w add
    → pos 1 ≤ℤ scale → pos 0 ≤ℤ add → HasSign negative value
    → IsNumber (integer_type (bits w) true) (mul_add negative value scale add)
    → SFits w (machine_value w (machine_value w value *ℤ machine_value w scale) +ℤ machine_value w add)
sum_fits {w} {negative} {value} {scale} {add} is_plus value_fits scale_fits add_fits one none sign number =
    let product = number_product w negative value scale add one none sign number in
    let fits = number_fits w (mul_add negative value scale add) number in
    rw (
      to_z-of_z w value value_fits,
      to_z-of_z w scale scale_fits,
      to_z-of_z w add add_fits,
      to_z-of_z w (value *ℤ scale) product,
    )
    (rw is_plus at fits)

pub sum_is : {w : Width} {negative : Bool} {value scale add : ℤ} → negative ≡ false → SFits w value
    → SFits w scale → SFits w add
    → pos 1 ≤ℤ scale → pos 0 ≤ℤ add → HasSign negative value
    → IsNumber (integer_type (bits w) true) (mul_add negative value scale add)
    → machine_value w (machine_value w (machine_value w value *ℤ machine_value w scale) +ℤ
    machine_value w add) ≡ mul_add negative value scale add
sum_is {w} {negative} {value} {scale} {add} is_plus value_fits scale_fits add_fits one none sign number =
    let product = number_product w negative value scale add one none sign number in
    let whole = number_fits w (mul_add negative value scale add) number in
    let fits = rw is_plus at whole in
    rw (
      to_z-of_z w value value_fits,
      to_z-of_z w scale scale_fits,
      to_z-of_z w add add_fits,
      to_z-of_z w (value *ℤ scale) product,
      to_z-of_z w ((value *ℤ scale) +ℤ add) fits,
      is_plus,
    )
    refl

none_where : (test : Bool) (z : ℤ) → ¬ (test ≡ true) → None ≡ (if test then Some z else None)
none_where true z fails = absurd (fails refl)
none_where false z fails = refl

-- so where the product leaves the type, the result does too
pub no_product : {w : Width} {value scale : ℤ} (negative : Bool) (add : ℤ) → SFits w value → SFits w scale
    → pos 1 ≤ℤ scale → pos 0 ≤ℤ add → HasSign negative value
    → ¬ (SFits w (machine_value w value *ℤ machine_value w scale))
    → None ≡ number_if_fits (integer_type (bits w) true) (mul_add negative value scale add)
no_product {w} {value} {scale} negative add value_fits scale_fits one none sign leaves =
    let result = mul_add negative value scale add in
    none_where (is_number (integer_type (bits w) true) result) result
    (λ number. leaves (product_fits negative add value_fits scale_fits one none sign number))

-- what fits the bits is a number of the type
fits_number : (w : Width) (z : ℤ) → SFits w z → IsNumber (integer_type (bits w) true) z
fits_number w (pos n) fits = let same = limit_is w in let low = fits.sfits in lt-ltb _ _ (omega arith)
fits_number w (negsuc n) fits = let same = limit_is w in let low = fits.sfits in lt-ltb _ _ (omega arith)

-- what is kept where it fits the bits, and is a number, is kept where the type has that number
kept_if_fits : (w : Width) (found : Option ℤ) (result number : ℤ)
    → SomeIff found (SFits w result) result → result ≡ number
    → option_map (λ z. z) found ≡ number_if_fits (integer_type (bits w) true) number
kept_if_fits w None result number leaves same =
    none_where (is_number (integer_type (bits w) true) number) number
    (λ fits. leaves (rw same (number_fits w number fits)))
kept_if_fits w (Some _) result number (fits, is) same =
    let has = fits_number w number (rw same at fits) in
    rw (is, same, has) refl

-- the product of a step that didn't leave the type, as the machine keeps it
abbrev pub IsProduct : Width → ℤ → ℤ → ℤ → Type 0
IsProduct w value scale product =
    SFits w (machine_value w value *ℤ machine_value w scale)
    × (product ≡ machine_value w value *ℤ machine_value w scale)

pub checked_difference : {w : Width} {negative : Bool} {value scale add product : ℤ}
    (found : Option ℤ) → negative ≡ true
    → SFits w value → SFits w scale → SFits w add → IsProduct w value scale product
    → SomeIff found (SFits w (machine_value w product -ℤ machine_value w add))
    (machine_value w product -ℤ machine_value w add)
    → option_map (λ z. z) found ≡ number_if_fits (integer_type (bits w) true) (mul_add negative value scale add)
checked_difference {w} {negative} {value} {scale} {add} {product} found is_negative value_fits
    scale_fits add_fits (fits, is) kept =
    let whole = rw (to_z-of_z w value value_fits, to_z-of_z w scale scale_fits) at fits in
    kept_if_fits w found (machine_value w product -ℤ machine_value w add) (mul_add negative value scale add) kept
    (rw (
      is,
      to_z-of_z w value value_fits,
      to_z-of_z w scale scale_fits,
      to_z-of_z w add add_fits,
      to_z-of_z w (value *ℤ scale) whole,
      is_negative,
    ) refl)

pub checked_sum : {w : Width} {negative : Bool} {value scale add product : ℤ} (found : Option ℤ) → negative ≡ false
    → SFits w value → SFits w scale → SFits w add → IsProduct w value scale product
    → SomeIff found (SFits w (machine_value w product +ℤ machine_value w add))
    (machine_value w product +ℤ machine_value w add)
    → option_map (λ z. z) found ≡ number_if_fits (integer_type (bits w) true) (mul_add negative value scale add)
checked_sum {w} {negative} {value} {scale} {add} {product} found is_plus value_fits scale_fits
    add_fits (fits, is) kept =
    let whole = rw (to_z-of_z w value value_fits, to_z-of_z w scale scale_fits) at fits in
    kept_if_fits w found (machine_value w product +ℤ machine_value w add) (mul_add negative value scale add) kept
    (rw (
      is,
      to_z-of_z w value value_fits,
      to_z-of_z w scale scale_fits,
      to_z-of_z w add add_fits,
      to_z-of_z w (value *ℤ scale) whole,
      is_plus,
    ) refl)
