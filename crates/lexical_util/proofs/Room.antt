-- How many digits of a radix a type has room for, and which numbers every type has.
use Rattle.std.specs.Prelude.{◌≡◌, ◌≤◌, ◌<◌, ◌-◌, ◌*◌, ◌/◌, ◌^◌, ◌&&◌, ℕ, Bool, true, false, if◌then◌else◌, nat_lt, neg_ℤ, pos}
use Rattle.std.proofs.Common.{◌∙◌, ap, arith, lit≤, suc, zero}
use Rattle.std.proofs.Math.Nat.{le_trans, one-le-pow, pow-le-pow_left}
use Rattle.std.proofs.lemmas.Bool.{lt-ltb}
use Rattle.lexical_util.specs.Number.{HasRoom, IntegerType, IsNumber, IsWidth, integer_type, is_number, number_limit}
use Rattle.lexical_util.specs.Number.IsWidth.{w8, w16, w32, w64, w128}

-- two digits a byte, less one where the type is signed, of a radix up to 16
small_room : (signed : Bool) {bits : ℕ} → IsWidth bits → (radix : ℕ) → radix ≤ 16
    → radix ^ (2 * (bits / 8) - (if signed then 1 else 0)) ≤ number_limit (integer_type bits signed)
small_room true w8 radix small = le_trans (pow-le-pow_left small 1) (lit≤ tt)
small_room false w8 radix small = le_trans (pow-le-pow_left small 2) (lit≤ tt)
small_room true w16 radix small = le_trans (pow-le-pow_left small 3) (lit≤ tt)
small_room false w16 radix small = le_trans (pow-le-pow_left small 4) (lit≤ tt)
small_room true w32 radix small = le_trans (pow-le-pow_left small 7) (lit≤ tt)
small_room false w32 radix small = le_trans (pow-le-pow_left small 8) (lit≤ tt)
small_room true w64 radix small = le_trans (pow-le-pow_left small 15) (lit≤ tt)
small_room false w64 radix small = le_trans (pow-le-pow_left small 16) (lit≤ tt)
small_room true w128 radix small = le_trans (pow-le-pow_left small 31) (lit≤ tt)
small_room false w128 radix small = le_trans (pow-le-pow_left small 32) (lit≤ tt)

-- one digit a byte of any radix
large_room : (signed : Bool) {bits : ℕ} → IsWidth bits → (radix : ℕ) → radix ≤ 36
    → radix ^ (bits / 8) ≤ number_limit (integer_type bits signed)
large_room true w8 radix high = le_trans (pow-le-pow_left high 1) (lit≤ tt)
large_room false w8 radix high = le_trans (pow-le-pow_left high 1) (lit≤ tt)
large_room true w16 radix high = le_trans (pow-le-pow_left high 2) (lit≤ tt)
large_room false w16 radix high = le_trans (pow-le-pow_left high 2) (lit≤ tt)
large_room true w32 radix high = le_trans (pow-le-pow_left high 4) (lit≤ tt)
large_room false w32 radix high = le_trans (pow-le-pow_left high 4) (lit≤ tt)
large_room true w64 radix high = le_trans (pow-le-pow_left high 8) (lit≤ tt)
large_room false w64 radix high = le_trans (pow-le-pow_left high 8) (lit≤ tt)
large_room true w128 radix high = le_trans (pow-le-pow_left high 16) (lit≤ tt)
large_room false w128 radix high = le_trans (pow-le-pow_left high 16) (lit≤ tt)

-- where the limit is at least `size`, the number below `size` and its negative are numbers of the type
below_limit : (type : IntegerType) (size : ℕ) → 1 ≤ size → size ≤ number_limit type → IsNumber type (pos (size - 1))
below_limit type size some low = lt-ltb (size - 1) (number_limit type) (omega arith)

pub negative_below_limit : (type : IntegerType) (size : ℕ) → size < number_limit type
    → type.is_signed ≡ true → is_number type (neg_ℤ (pos size)) ≡ true
negative_below_limit type zero low signed = lt-ltb 0 (number_limit type) (omega arith)
negative_below_limit type (suc size) low signed =
    ap (λ b. b && nat_lt size (number_limit type)) signed
    ∙ lt-ltb size (number_limit type) (omega arith)

room_below : (type : IntegerType) (radix count : ℕ) → 2 ≤ radix → radix ^ count ≤ number_limit type
    → HasRoom type radix count
room_below type radix count two low =
    let one = one-le-pow count radix (omega arith) in
    record {
      greatest = below_limit type (radix ^ count) one low;
      least = λ signed. negative_below_limit type (radix ^ count - 1) (omega arith) signed;
    }

pub small_has_room : (bits : ℕ) (signed : Bool) (radix count : ℕ) → IsWidth bits → 2 ≤ radix → radix ≤ 16
    → count ≡ 2 * (bits / 8) - (if signed then 1 else 0) → HasRoom (integer_type bits signed) radix count
small_has_room bits signed radix count width two small e =
    room_below (integer_type bits signed) radix count two
    (rw e (small_room signed width radix small))

pub large_has_room : (bits : ℕ) (signed : Bool) (radix count : ℕ) → IsWidth bits → 2 ≤ radix → radix ≤ 36
    → count ≡ bits / 8 → HasRoom (integer_type bits signed) radix count
large_has_room bits signed radix count width two high e =
    room_below (integer_type bits signed) radix count two
    (rw e (large_room signed width radix high))

-- every type has the numbers up to 127
pub small_is_number : (bits : ℕ) (signed : Bool) (n : ℕ) → IsWidth bits → n ≤ 127
    → IsNumber (integer_type bits signed) (pos n)
small_is_number _ true n w8 small = lt-ltb n (2 ^ 7) (omega arith)
small_is_number _ true n w16 small = lt-ltb n (2 ^ 15) (omega arith)
small_is_number _ true n w32 small = lt-ltb n (2 ^ 31) (omega arith)
small_is_number _ true n w64 small = lt-ltb n (2 ^ 63) (omega arith)
small_is_number _ true n w128 small = lt-ltb n (2 ^ 127) (omega arith)
small_is_number _ false n w8 small = lt-ltb n (2 ^ 8) (omega arith)
small_is_number _ false n w16 small = lt-ltb n (2 ^ 16) (omega arith)
small_is_number _ false n w32 small = lt-ltb n (2 ^ 32) (omega arith)
small_is_number _ false n w64 small = lt-ltb n (2 ^ 64) (omega arith)
small_is_number _ false n w128 small = lt-ltb n (2 ^ 128) (omega arith)
