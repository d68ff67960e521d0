-- The kinds of bytes, by tables for their halves of four bits: a byte is one of a word, or is skipped, if the entries
-- of its two halves have a bit in common.
use Rattle.std.specs.Prelude.{ℕ, ◌/◌, [], ◌∷◌, bit_and, slice_index}

-- the bits of a byte's lower half
abbrev pub by_lower : ℕ → ℕ
by_lower byte =
    slice_index
    (54 ∷ 60 ∷ 60 ∷ 60 ∷ 60 ∷ 60 ∷ 60 ∷ 60 ∷ 60 ∷ 61 ∷ 57 ∷ 8 ∷ 8 ∷ 9 ∷ 8 ∷ 24 ∷ [])
    (bit_and byte 15)

-- the bits of a byte's upper half, for bytes of a word
abbrev pub word_by_upper : ℕ → ℕ
word_by_upper byte =
    slice_index (0 ∷ 0 ∷ 0 ∷ 4 ∷ 8 ∷ 16 ∷ 8 ∷ 32 ∷ 0 ∷ 0 ∷ 0 ∷ 0 ∷ 0 ∷ 0 ∷ 0 ∷ 0 ∷ []) (byte / 16)

-- the bits of a byte's upper half, for skipped bytes
abbrev pub skipped_by_upper : ℕ → ℕ
skipped_by_upper byte =
    slice_index (1 ∷ 0 ∷ 2 ∷ 0 ∷ 0 ∷ 0 ∷ 0 ∷ 0 ∷ 0 ∷ 0 ∷ 0 ∷ 0 ∷ 0 ∷ 0 ∷ 0 ∷ 0 ∷ []) (byte / 16)
