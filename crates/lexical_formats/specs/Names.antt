-- The formats by the names of the functions that make them.
use Rattle.std.specs.Prelude.{ℕ, List, [], ◌∷◌, codes, Option, None, Some, if◌then◌else◌}
use Rattle.std.specs.Str.{bytes_eq}
use Rattle.lexical_util.specs.Format.{Format, json}
use Rattle.lexical_formats.specs.Languages.{c, c_decimal, c_octal, c_hexadecimal, c23, cpp14, csharp, java, kotlin, rust, go, swift, ada, vhdl, assembler_hexadecimal, python, ruby, javascript, julia, haskell, ocaml, json5, toml, yaml, sql, sql_2023}

-- every format with its name
abbrev pub named_formats : List (List ℕ × Format)
named_formats =
    (codes "c", c) ∷ (codes "c_decimal", c_decimal) ∷ (codes "c_octal", c_octal) ∷
    (codes "c_hexadecimal", c_hexadecimal) ∷ (codes "c23", c23) ∷ (codes "cpp14", cpp14) ∷
    (codes "csharp", csharp) ∷ (codes "java", java) ∷ (codes "kotlin", kotlin) ∷
    (codes "rust", rust) ∷ (codes "go", go) ∷ (codes "swift", swift) ∷ (codes "ada", ada) ∷
    (codes "vhdl", vhdl) ∷ (codes "assembler_hexadecimal", assembler_hexadecimal) ∷
    (codes "python", python) ∷ (codes "ruby", ruby) ∷ (codes "javascript", javascript) ∷
    (codes "julia", julia) ∷ (codes "haskell", haskell) ∷ (codes "ocaml", ocaml) ∷
    (codes "json", json) ∷ (codes "json5", json5) ∷ (codes "toml", toml) ∷ (codes "yaml", yaml) ∷
    (codes "sql", sql) ∷ (codes "sql_2023", sql_2023) ∷ []

-- the format of a name among some
abbrev pub format_among : List ℕ → List (List ℕ × Format) → Option Format
format_among name [] = None
format_among name (entry ∷ more) =
    if bytes_eq name entry.0 then Some entry.1 else format_among name more

-- the format of a name
abbrev pub format_named : List ℕ → Option Format
format_named name = format_among name named_formats
