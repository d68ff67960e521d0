-- The lines of a header, which stands in front of a table.
use Rattle.std.specs.Prelude.{◌+◌, ℕ, zero, suc, Bool, if◌then◌else◌, List, take, drop}
use Rattle.lexical_fields.specs.Fields.{field_length}
use Rattle.lexical_tables.specs.Quotes.{has_odd_quotes, length_outside}
use Rattle.lexical_tables.specs.Rows.{line_feed}

-- How many bytes the first line has: those up to a line feed outside quotes. Where a quote never closes, so that the line
-- would be all of the text, they are those up to any line feed.
abbrev pub header_length : Bool → List ℕ → ℕ
header_length has_quotes text =
    let size = length_outside has_quotes line_feed text in
    if has_odd_quotes (take size text) then field_length line_feed text else size

-- what follows the first `count` lines of a text
abbrev pub behind_lines : Bool → ℕ → List ℕ → List ℕ
behind_lines has_quotes zero text = text
behind_lines has_quotes (suc count) text =
    behind_lines has_quotes count (drop (header_length has_quotes text + 1) text)
