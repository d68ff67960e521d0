-- Test vectors: the integers of JSON, JSON5, TOML, YAML and SQL.
-- Written by tools/rows.py from tools/languages.txt: make rows writes it anew.
use Rattle.std.specs.Prelude.{◌≡◌, [], ◌∷◌, codes, pos, Some, true, Ok, Err}
use Rattle.std.proofs.Common.{refl}
use Rattle.lexical_util.specs.declared.error.Error.TheVariants.{InvalidDigit, Empty, InvalidPositiveSign, InvalidLeadingZeros}
use Rattle.lexical_util.specs.Format.{standard, json}
use Rattle.lexical_parse_integer.specs.Computed.{grammar}
use Rattle.lexical_parse_integer.specs.Grammar.{complete}
use Rattle.lexical_formats.specs.Names.{format_named}
use Rattle.rows.proofs.Tables.{Answers, minus, i32, i64}
use Rattle.lexical_formats.specs.Languages.{json5, sql, sql_2023, toml, yaml}

-- ---- JSON

json_fields : (json ≡ record standard { required_integer_digits = true; no_positive_mantissa_sign = true; no_integer_leading_zeros = true })
    × (format_named (codes "json") ≡ Some json)
json_fields = (refl, refl)

json_complete : Answers complete (
    (json, i32, codes "0", Ok (pos 0)) ∷
    (json, i32, codes "-0", Ok (pos 0)) ∷
    (json, i32, codes "511", Ok (pos 511)) ∷
    (json, i32, codes "-10", Ok (minus 10)) ∷
    (json, i32, codes "00", Err (InvalidLeadingZeros 0)) ∷
    (json, i32, codes "-01", Err (InvalidLeadingZeros 1)) ∷
    (json, i32, codes "+1", Err (InvalidPositiveSign 0)) ∷
    (json, i32, codes "1_0", Err (InvalidDigit 1)) ∷
    (json, i32, codes "0x1", Err (InvalidDigit 1)) ∷
    (json, i32, codes "-", Err (Empty 1)) ∷
    -- unlike: the number 1.0
    (json, i32, codes "1.0", Err (InvalidDigit 1)) ∷
    -- unlike: the number 1000
    (json, i32, codes "1e3", Err (InvalidDigit 1)) ∷
    -- unlike: to JavaScript 9007199254740992
    (json, i64, codes "9007199254740993", Ok (pos 9007199254740993)) ∷
    [])
unfolding grammar
json_complete = refl

-- ---- JSON5

json5_fields : (json5 ≡ record standard { literal_prefixes = true; no_integer_leading_zeros = true })
    × (format_named (codes "json5") ≡ Some json5)
json5_fields = (refl, refl)

json5_complete : Answers complete (
    (json5, i32, codes "+1", Ok (pos 1)) ∷
    (json5, i32, codes "-0", Ok (pos 0)) ∷
    (json5, i32, codes "511", Ok (pos 511)) ∷
    (json5, i32, codes "-0xDecAF", Ok (minus 912559)) ∷
    (json5, i32, codes "0X00", Ok (pos 0)) ∷
    (json5, i32, codes "01", Err (InvalidLeadingZeros 0)) ∷
    (json5, i32, codes "+00", Err (InvalidLeadingZeros 1)) ∷
    (json5, i32, codes "1_0", Err (InvalidDigit 1)) ∷
    (json5, i32, codes "0x", Err (Empty 2)) ∷
    (json5, i32, codes "0x1G", Err (InvalidDigit 3)) ∷
    (json5, i32, codes "--1", Err (InvalidDigit 1)) ∷
    -- unlike: no number
    (json5, i32, codes "0o17", Ok (pos 15)) ∷
    -- unlike: no number
    (json5, i32, codes "0b1", Ok (pos 1)) ∷
    -- unlike: the number 5
    (json5, i32, codes "5.", Err (InvalidDigit 1)) ∷
    -- unlike: to JavaScript 9007199254740992
    (json5, i64, codes "9007199254740993", Ok (pos 9007199254740993)) ∷
    [])
unfolding grammar
json5_complete = refl

-- ---- TOML

toml_fields : (toml ≡ record standard { literal_prefixes = true; digit_separator = Some 95; integer_internal_digit_separator = true; case_sensitive_base_prefix = true; no_integer_leading_zeros = true })
    × (format_named (codes "toml") ≡ Some toml)
toml_fields = (refl, refl)

toml_complete : Answers complete (
    (toml, i64, codes "+1_000", Ok (pos 1000)) ∷
    (toml, i64, codes "-17", Ok (minus 17)) ∷
    (toml, i64, codes "+0", Ok (pos 0)) ∷
    (toml, i64, codes "0xdead_BEEF", Ok (pos 3735928559)) ∷
    (toml, i64, codes "0x00", Ok (pos 0)) ∷
    (toml, i64, codes "0o755", Ok (pos 493)) ∷
    (toml, i64, codes "0b1_01", Ok (pos 5)) ∷
    (toml, i64, codes "00", Err (InvalidLeadingZeros 0)) ∷
    (toml, i64, codes "0_1", Err (InvalidLeadingZeros 0)) ∷
    (toml, i64, codes "-01", Err (InvalidLeadingZeros 1)) ∷
    (toml, i64, codes "1__0", Err (InvalidDigit 1)) ∷
    (toml, i64, codes "1_", Err (InvalidDigit 1)) ∷
    (toml, i64, codes "_1", Err (InvalidDigit 0)) ∷
    (toml, i64, codes "0x_1", Err (InvalidDigit 2)) ∷
    (toml, i64, codes "0X1", Err (InvalidDigit 1)) ∷
    -- unlike: no integer
    (toml, i64, codes "+0x1", Ok (pos 1)) ∷
    -- unlike: no integer
    (toml, i64, codes "-0b1", Ok (minus 1)) ∷
    [])
unfolding grammar
toml_complete = refl

-- ---- YAML 1.2, core schema

yaml_fields : (yaml ≡ record standard { literal_prefixes = true; case_sensitive_base_prefix = true })
    × (format_named (codes "yaml") ≡ Some yaml)
yaml_fields = (refl, refl)

yaml_complete : Answers complete (
    (yaml, i32, codes "+0511", Ok (pos 511)) ∷
    (yaml, i32, codes "-17", Ok (minus 17)) ∷
    (yaml, i32, codes "00", Ok (pos 0)) ∷
    (yaml, i32, codes "0x1F", Ok (pos 31)) ∷
    (yaml, i32, codes "0o17", Ok (pos 15)) ∷
    (yaml, i32, codes "1_000", Err (InvalidDigit 1)) ∷
    (yaml, i32, codes "0X1F", Err (InvalidDigit 1)) ∷
    (yaml, i32, codes "0x", Err (Empty 2)) ∷
    (yaml, i32, codes "0o8", Err (InvalidDigit 2)) ∷
    (yaml, i32, codes "1e3", Err (InvalidDigit 1)) ∷
    (yaml, i32, codes "", Err (Empty 0)) ∷
    -- unlike: a string
    (yaml, i32, codes "0b1", Ok (pos 1)) ∷
    -- unlike: a string
    (yaml, i32, codes "-0x1", Ok (minus 1)) ∷
    -- unlike: 511 in YAML 1.1
    (yaml, i32, codes "0777", Ok (pos 777)) ∷
    [])
unfolding grammar
yaml_complete = refl

-- ---- SQL, up to SQL:2016

sql_fields : (sql ≡ standard)
    × (format_named (codes "sql") ≡ Some sql)
sql_fields = (refl, refl)

sql_complete : Answers complete (
    (sql, i32, codes "511", Ok (pos 511)) ∷
    (sql, i32, codes "+1", Ok (pos 1)) ∷
    (sql, i32, codes "-1", Ok (minus 1)) ∷
    (sql, i32, codes "007", Ok (pos 7)) ∷
    (sql, i32, codes "1_000", Err (InvalidDigit 1)) ∷
    (sql, i32, codes "0x1", Err (InvalidDigit 1)) ∷
    (sql, i32, codes "--1", Err (InvalidDigit 1)) ∷
    (sql, i32, codes "1 ", Err (InvalidDigit 1)) ∷
    (sql, i32, codes "", Err (Empty 0)) ∷
    -- unlike: the number 1.0
    (sql, i32, codes "1.0", Err (InvalidDigit 1)) ∷
    [])
unfolding grammar
sql_complete = refl

-- ---- SQL:2023

sql_2023_fields : (sql_2023 ≡ record standard { literal_prefixes = true; digit_separator = Some 95; integer_internal_digit_separator = true; integer_prefix_digit_separator = true })
    × (format_named (codes "sql_2023") ≡ Some sql_2023)
sql_2023_fields = (refl, refl)

sql_2023_complete : Answers complete (
    (sql_2023, i32, codes "+1_000", Ok (pos 1000)) ∷
    (sql_2023, i32, codes "0777", Ok (pos 777)) ∷
    (sql_2023, i32, codes "0x_1F", Ok (pos 31)) ∷
    (sql_2023, i32, codes "0O17", Ok (pos 15)) ∷
    (sql_2023, i32, codes "-0b_11", Ok (minus 3)) ∷
    (sql_2023, i32, codes "1__0", Err (InvalidDigit 1)) ∷
    (sql_2023, i32, codes "1_", Err (InvalidDigit 1)) ∷
    (sql_2023, i32, codes "_1", Err (InvalidDigit 0)) ∷
    (sql_2023, i32, codes "0x", Err (Empty 2)) ∷
    (sql_2023, i32, codes "0b2", Err (InvalidDigit 2)) ∷
    -- unlike: the number 1000
    (sql_2023, i32, codes "1E3", Err (InvalidDigit 1)) ∷
    [])
unfolding grammar
sql_2023_complete = refl
