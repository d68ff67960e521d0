-- A field whose end is marked, as a text of its own.
use Rattle.std.proofs.Common.{◌≡◌, ◌∙◌, ℕ, suc, ◌+◌, Bool, false, List, ◌∷◌, length, take, ap, arith}
use Rattle.std.specs.Prelude.{◌≤◌, ◌<◌, true, Ok, ℤ}
use Rattle.std.proofs.lemmas.List.{length-take-le}
use mir.Val.{bool_byte}
use Rattle.lexical_util.specs.Number.{IntegerType}
use Rattle.lexical_util.specs.Format.{Format}
use Rattle.lexical_digits.specs.WrittenNumbers.{StandsFor}
use Rattle.lexical_parse_integer.specs.Grammar.{complete}
use Rattle.lexical_parse_integer.specs.Plain.{IsBehind, IsPlain, keeps_zero_rule}
use Rattle.lexical_parse_integer.proofs.ForCallers.{table_read}

-- what stands behind a minus, cut where the field ends
front_behind : (t : IntegerType) (is_negative : Bool) (text digits : List ℕ) (size count start : ℕ)
    → IsBehind is_negative t text digits → start ≡ bool_byte is_negative → size ≡ start + count
    → IsBehind is_negative t (take size text) (take count digits)
front_behind t false text digits size count start behind at is =
    let same : size ≡ count = omega (arith, at, is) in
    ap (λ k. take k text) same ∙ ap (take count) behind
front_behind t true text digits size count start behind at is =
    let one : size ≡ suc count = omega (arith, at, is) in
    (ap (take size) behind.0 ∙ ap (λ k. take k (45 ∷ digits)) one, behind.1)

-- how long what stands behind it is
behind_size : (t : IntegerType) (is_negative : Bool) (text digits : List ℕ) → IsBehind is_negative t text digits
    → length text ≡ bool_byte is_negative + length digits
behind_size t false text digits behind = ap length behind ∙ omega arith
behind_size t true text digits behind = ap length behind.0 ∙ omega arith

-- digits behind a minus or alone are what their field stands for
pub field_stands : (f : Format) (t : IntegerType) (is_negative : Bool) (text digits : List ℕ) (value : ℤ) (size count
    start : ℕ)
    → IsPlain f → f.mantissa_radix ≡ 10 → IsBehind is_negative t text digits → start ≡ bool_byte is_negative
    → size ≡ start + count → 0 < count → size ≤ length text → keeps_zero_rule f (take count digits) ≡ true
    → StandsFor t 10 is_negative (take count digits) value → complete f t (take size text) ≡ Ok value
field_stands f t is_negative text digits value size count start plain ten behind at is some within rule stands =
    let whole = behind_size t is_negative text digits behind in
    let long : length (take count digits) ≡ count = length-take-le count digits (omega (
      arith,
      whole,
      at,
      is,
      within,
    )) in
    table_read f t 10 is_negative (take size text) (take count digits) value plain ten
    (record { low = omega arith; high = omega arith }) (front_behind t is_negative text digits size count start behind
    at is)
    (omega (arith, long, some)) rule stands
