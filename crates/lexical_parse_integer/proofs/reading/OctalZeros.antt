-- What an octal zero says of its bytes, and of the effective radix.
use Rattle.std.proofs.Common.{◌≡◌, ℕ, Bool, false, true, ◌&&◌, List, Option, Some, None, refl, ap, arith}
use Rattle.std.specs.Prelude.{◌≢◌, slice_get}
use Rattle.std.proofs.Math.Bool.{and-false}
use Rattle.std.proofs.lemmas.Bool.Decides.{nat_tests}
use Rattle.lexical_util.specs.Format.{Format}
use Rattle.lexical_parse_integer.specs.Affixes.{bare_radix, octal_zero_at}
use Rattle.lexical_parse_integer.specs.Runs.{are_same}

first_true : (a b : Bool) → (a && b) ≡ true → a ≡ true
first_true true b e = refl
first_true false b e = cc

second_true : (a b : Bool) → (a && b) ≡ true → b ≡ true
second_true true true e = refl
second_true true false e = cc
second_true false b e = cc

pub is_zero : (o : Option ℕ) → are_same (Some 48) o ≡ true → o ≡ Some 48
unfolding are_same
is_zero None h = cc
is_zero (Some c) h = let e : c ≡ 48 = grind (arith, nat_tests) in ap Some e

other_byte : (c : ℕ) → c ≢ 48 → are_same (Some 48) (Some c) ≡ false
unfolding are_same
other_byte c other = grind (arith, nat_tests)

pub octal_asked : (f : Format) (text : List ℕ) (k : ℕ) → octal_zero_at f text k ≡ true → f.literal_octal_zero ≡ true
unfolding octal_zero_at
octal_asked f text k here = first_true f.literal_octal_zero _ here

pub octal_byte : (f : Format) (text : List ℕ) (k : ℕ) → octal_zero_at f text k ≡ true → slice_get text k ≡ Some 48
unfolding octal_zero_at
octal_byte f text k here = is_zero (slice_get text k) (second_true f.literal_octal_zero (are_same (Some 48) (slice_get text k)) here)

pub not_asked : (f : Format) (text : List ℕ) (k : ℕ) → f.literal_octal_zero ≡ false → octal_zero_at f text k ≡ false
unfolding octal_zero_at
not_asked f text k e = rw e refl

pub no_octal : (f : Format) (text : List ℕ) (k c : ℕ) → slice_get text k ≡ Some c → c ≢ 48 → octal_zero_at f text k ≡ false
unfolding octal_zero_at
no_octal f text k c e other = let none : are_same (Some 48) (Some c) ≡ false = other_byte c other in rw (e, none) (and-false f.literal_octal_zero)

pub bare_octal : (f : Format) (text : List ℕ) (k : ℕ) → octal_zero_at f text k ≡ true → bare_radix f text k ≡ 8
bare_octal f text k e = rw e refl

pub bare_own : (f : Format) (text : List ℕ) (k : ℕ) → octal_zero_at f text k ≡ false → bare_radix f text k ≡ f.mantissa_radix
bare_own f text k e = rw e refl
