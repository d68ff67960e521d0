-- Line and column of a place in a text, as an editor counts them: both from 0.
use Rattle.std.specs.Prelude.{ℕ, ◌-◌, ◌==◌, List, length, take}
use Rattle.std.specs.List.{count_by}
use Rattle.lexical_fields.specs.Parts.{whole_fields}

-- a line feed
abbrev pub line_feed : ℕ
line_feed = 10

-- how many line feeds stand before a place
abbrev pub line_of : List ℕ → ℕ → ℕ
line_of text place = count_by (λ byte. byte == line_feed) (take place text)

-- how many bytes stand between the last line feed before a place, or the text's start, and the place
abbrev pub column_of : List ℕ → ℕ → ℕ
column_of text place = length (take place text) - whole_fields line_feed (take place text)
