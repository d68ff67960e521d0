-- The first cell of a row, by that of the text from there on.
use Rattle.std.proofs.Common.{◌≡◌, ◌∙◌, ℕ, ◌<◌, ◌≤◌, List, Bool, length, take, refl, ap, sym, arith}
use Rattle.std.proofs.lemmas.List.{length-take-le}
use Rattle.lexical_fields.specs.Fields.{field_length}
use Rattle.lexical_tables.specs.Quotes.{length_outside, seen}
use Rattle.lexical_tables.proofs.MarkedCells.{field_here, field_last}
use Rattle.lexical_tables.proofs.SeenBytes.{seen_long, seen_take}

-- a cell that ends in front of the row's end is as long in the row as ahead
pub cell_before : (q : Bool) (s : ℕ) (ahead : List ℕ) (m r : ℕ) → length_outside q s ahead ≡ r → r < m → m ≤ length ahead
    → length_outside q s (take m ahead) ≡ r
cell_before q s ahead m r is low within =
    let bytes = seen q s ahead in
    let long : length (take m bytes) ≡ m = length-take-le m bytes (omega (arith, seen_long q s ahead)) in
    ap (field_length s) (seen_take q s m ahead)
    ∙ field_here s (take m bytes) bytes r (ap (λ k. take k bytes) (sym long)) (sym is) (omega (arith, long))

-- one that doesn't is all that the row has
pub cell_last : (q : Bool) (s : ℕ) (ahead : List ℕ) (m : ℕ) → m ≤ length_outside q s ahead → m ≤ length ahead
    → length_outside q s (take m ahead) ≡ m
cell_last q s ahead m high within =
    let bytes = seen q s ahead in
    let long : length (take m bytes) ≡ m = length-take-le m bytes (omega (arith, seen_long q s ahead)) in
    ap (field_length s) (seen_take q s m ahead)
    ∙ field_last s (take m bytes) bytes (length_outside q s ahead) (ap (λ k. take k bytes) (sym long)) refl
    (omega (arith, long))
    ∙ long
