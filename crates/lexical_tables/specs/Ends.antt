-- What ends the cells of a text: a separator or a line feed, outside quotes.
use Rattle.std.specs.Prelude.{◌≡◌, ◌≢◌, ◌==◌, ◌||◌, ◌+◌, ◌<◌, ◌≤◌, ℕ, Bool, List, Option, None, Some, if◌then◌else◌, drop, length, slice_index}
use Rattle.std.specs.Int.{bit_at}
use Rattle.lexical_tables.specs.Quotes.{length_outside, seen}
use Rattle.lexical_tables.specs.Rows.{line_feed}

-- whether the byte at a place ends a cell: it is a separator or a line feed outside quotes
abbrev pub is_end : Bool → ℕ → List ℕ → ℕ → Bool
is_end has_quotes separator bytes place =
    (slice_index (seen has_quotes separator bytes) place == separator)
    || (slice_index (seen has_quotes line_feed bytes) place == line_feed)

-- Bit k is set exactly if a cell ends at byte k, among the first bytes, which `seen` counts; all other bits are 0. Sixteen
-- more bytes follow these. Bit 63 is 0, so that one shift passes any end.
pub record AreEnds (has_quotes : Bool) (separator : ℕ) (bytes : List ℕ) (marks : ℕ) : Type 0 where
  pub seen : ℕ
  pub few : seen ≤ 63
  pub room : 0 < seen → seen + 16 ≤ length bytes
  pub here : (k : ℕ) → k < seen
      → bit_at marks k ≡ (if is_end has_quotes separator bytes k then 1 else 0)
  pub beyond : (k : ℕ) → seen ≤ k → bit_at marks k ≡ 0

-- where a separator is known, the ends of cells are marked by it
abbrev pub AreEndsIf : Option ℕ → Bool → List ℕ → ℕ → Type 0
AreEndsIf None has_quotes bytes marks = Unit {0}
AreEndsIf (Some separator) has_quotes bytes marks = AreEnds has_quotes separator bytes marks

-- A cell in front of a text ends at a place: at a separator or a line feed outside quotes, of which none stands before.
pub record IsFirstEnd (has_quotes : Bool) (separator : ℕ) (text : List ℕ) (end : ℕ) : Type 0 where
  pub room : end + 17 ≤ length text
  pub line : slice_index text end ≡ line_feed → length_outside has_quotes line_feed text ≡ end
  pub last : slice_index text end ≡ line_feed → end ≤ length_outside has_quotes separator text
  pub cell : slice_index text end ≢ line_feed → length_outside has_quotes separator text ≡ end
  pub parts : slice_index text end ≢ line_feed → slice_index text end ≡ separator
  pub before : slice_index text end ≢ line_feed → end < length_outside has_quotes line_feed text
  pub behind : slice_index text end ≢ line_feed → length_outside has_quotes line_feed text
      ≡ end + 1 + length_outside has_quotes line_feed (drop (end + 1) text)
