-- A byte of a word, or one that is skipped, by its entry in the table.
use Rattle.std.proofs.Common.{◌≡◌, ℕ, ◌<◌, eqb, get_or, refl}
use Rattle.std.proofs.lemmas.Bool.{agree_below_at}
use Rattle.lexical_literals.specs.Tokens.{is_skipped, is_word_byte}
use Rattle.lexical_literals.specs.declared.bytes.TheConstants.{KINDS}

-- each of the 256 entries, by computing
pub word_by_table : (byte : ℕ) → byte < 256 → eqb (get_or KINDS byte 0) 1 ≡ is_word_byte byte
word_by_table byte low = agree_below_at (λ k. eqb (get_or KINDS k 0) 1) is_word_byte 256 byte refl low

pub skipped_by_table : (byte : ℕ) → byte < 256 → eqb (get_or KINDS byte 0) 2 ≡ is_skipped byte
skipped_by_table byte low = agree_below_at (λ k. eqb (get_or KINDS k 0) 2) is_skipped 256 byte refl low
