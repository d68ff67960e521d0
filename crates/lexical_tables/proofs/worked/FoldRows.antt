-- Texts whose doubled quotes are folded.
use Rattle.std.specs.Prelude.{◌≡◌, codes, []}
use Rattle.std.proofs.Common.{refl}
use Rattle.lexical_tables.specs.Folded.{folded, put_if_room}

no_quote : folded (codes "rent, paid") ≡ codes "rent, paid"
unfolding folded
no_quote = refl

no_byte : folded [] ≡ []
unfolding folded
no_byte = refl

doubled : folded (codes "5\"\" nails") ≡ codes "5\" nails"
unfolding folded
doubled = refl

-- at both ends, and each for itself
three_doubled : folded (codes "\"\"a\"\"\"\"b\"\"") ≡ codes "\"a\"\"b\""
unfolding folded
three_doubled = refl

-- one that isn't doubled stays
stray : folded (codes "5\" nails\"") ≡ codes "5\" nails\""
unfolding folded
stray = refl

-- also behind a doubled one
three_in_a_row : folded (codes "a\"\"\"b") ≡ codes "a\"\"b"
unfolding folded
three_in_a_row = refl

-- another byte parts two quotes
parted : folded (codes "\"a\"") ≡ codes "\"a\""
unfolding folded
parted = refl

-- what stands behind stays, and all of it where there is too little room
room_for_more : put_if_room (codes "ab") (codes "wxyz") ≡ codes "abyz"
room_for_more = refl

just_room : put_if_room (codes "ab") (codes "yz") ≡ codes "ab"
just_room = refl

no_room : put_if_room (codes "ab") (codes "z") ≡ codes "z"
no_room = refl
