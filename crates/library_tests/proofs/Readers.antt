-- Texts and what the readers of `uses` make of them.
use Rattle.std.specs.Prelude.{[], ◌∷◌, ◌++◌, codes, pos, Some, None, Ok, Err}
use Rattle.std.proofs.Common.{refl}
use Rattle.lexical_util.specs.declared.error.Error.TheVariants.{Overflow, Underflow, InvalidDigit, Empty, InvalidPositiveSign, InvalidLeadingZeros}
use Rattle.lexical_parse_integer.specs.Computed.{grammar}
use Rattle.lexical_fixed.specs.Computed.{fixed_grammar}
use Rattle.uses.specs.declared.config.ValueError.TheVariants.{Hexadecimal, Decimal}
use Rattle.uses.specs.declared.fixed_width.RowError.TheVariants.{Length, Column}
use Rattle.uses.specs.declared.json.NumberError.TheVariants as json
use Rattle.uses.specs.declared.json.Part.TheVariants.{Whole, Unfinished}
use Rattle.uses.specs.declared.ledger.LedgerError.TheVariants as ledger
use Rattle.uses.specs.declared.ledger.LineError.TheVariants.{NoAmount, Amount}
use Rattle.uses.specs.Config.{value_in}
use Rattle.uses.specs.FixedWidth.{values_in}
use Rattle.uses.specs.Json.{part_in}
use Rattle.uses.specs.Ledger.{entry_in, total_in}
use Rattle.uses.specs.Price.{price_in}
use Rattle.uses.specs.Source.{c_in, python_in}
use Rattle.uses.specs.Toml.{integer_in, setting_in}
use Rattle.library_tests.proofs.Tables.{Reads, minus}

-- ---- values of a configuration

values_of_a_file_are_read : Reads value_in (
    (codes "64_000", Ok (pos 64000)) ∷
    (codes "+8080", Ok (pos 8080)) ∷
    (codes "18_446_744_073_709_551_615", Ok (pos 18446744073709551615)) ∷
    (codes "0x1F_FF", Ok (pos 8191)) ∷
    (codes "0xdead_BEEF", Ok (pos 3735928559)) ∷
    (codes "0xffff_ffff_ffff_ffff", Ok (pos 18446744073709551615)) ∷
    [])
unfolding grammar
values_of_a_file_are_read = refl

broken_values_name_their_notation : Reads value_in (
    (codes "", Err (Decimal (Empty 0))) ∷
    (codes "64__000", Err (Decimal (InvalidDigit 2))) ∷
    (codes "64_", Err (Decimal (InvalidDigit 2))) ∷
    (codes "1F_FF", Err (Decimal (InvalidDigit 1))) ∷
    (codes "64 MB", Err (Decimal (InvalidDigit 2))) ∷
    (codes "0x", Err (Hexadecimal (Empty 2))) ∷
    (codes "0x1G", Err (Hexadecimal (InvalidDigit 3))) ∷
    (codes "0x_1F", Err (Hexadecimal (InvalidDigit 2))) ∷
    (codes "0x1_0000_0000_0000_0000", Err (Hexadecimal (Overflow 22))) ∷
    [])
unfolding grammar
broken_values_name_their_notation = refl

-- ---- prices, and what stands behind them

prices_are_read_in_cents : Reads price_in (
    (codes "12,05 EUR", Ok (pos 1205, codes " EUR")) ∷
    (codes "12,50", Ok (pos 1250, codes "")) ∷
    (codes "-0,05;", Ok (minus 5, codes ";")) ∷
    (codes "+7,00x", Ok (pos 700, codes "x")) ∷
    (codes "1.234,50 EUR", Ok (pos 123450, codes " EUR")) ∷
    (codes "-1.234.567,89", Ok (minus 123456789, codes "")) ∷
    (codes "92233720368547758,07", Ok (pos 9223372036854775807, codes "")) ∷
    [])
unfolding grammar fixed_grammar
prices_are_read_in_cents = refl

broken_prices_say_where : Reads price_in (
    (codes "", Err (Empty 0)) ∷
    (codes "EUR", Err (Empty 0)) ∷
    (codes ",50", Err (Empty 0)) ∷
    (codes "-,50", Err (Empty 1)) ∷
    (codes "12 EUR", Err (Empty 2)) ∷
    (codes "12, EUR", Err (Empty 3)) ∷
    (codes "12,5 EUR", Err (Empty 4)) ∷
    (codes "12.50", Err (Empty 5)) ∷
    (codes "12,505", Err (InvalidDigit 5)) ∷
    (codes "92233720368547758,08", Err (Overflow 19)) ∷
    (codes "9223372036854775808,00", Err (Overflow 18)) ∷
    [])
unfolding grammar fixed_grammar
broken_prices_say_where = refl

-- ---- rows of a station's number, a day's number, and the tenths of a degree

rows_of_a_table_are_read : Reads (values_in (5 ∷ 3 ∷ 5 ∷ [])) (
    (codes "01024032-0087", Ok (pos 1024 ∷ pos 32 ∷ minus 87 ∷ [])) ∷
    (codes "00007365+0215", Ok (pos 7 ∷ pos 365 ∷ pos 215 ∷ [])) ∷
    (codes "9999900000000", Ok (pos 99999 ∷ pos 0 ∷ pos 0 ∷ [])) ∷
    [])
unfolding grammar
rows_of_a_table_are_read = refl

a_row_of_no_column : Reads (values_in []) (
    (codes "", Ok []) ∷
    [])
unfolding grammar
a_row_of_no_column = refl

broken_rows_say_where : Reads (values_in (5 ∷ 3 ∷ 5 ∷ [])) (
    (codes "01024032-008", Err (Length 13 12)) ∷
    (codes "01024032-0O87", Err (Column 2 8 (InvalidDigit 2))) ∷
    (codes " 1024 32  -87", Err (Column 0 0 (InvalidDigit 0))) ∷
    (codes "01024---01024", Err (Column 1 5 (InvalidDigit 1))) ∷
    [])
unfolding grammar
broken_rows_say_where = refl

a_column_beyond_the_type : Reads (values_in (1 ∷ 19 ∷ [])) (
    (codes "19223372036854775808", Err (Column 1 1 (Overflow 18))) ∷
    [])
unfolding grammar
a_column_beyond_the_type = refl

-- ---- numbers of a stream

a_number_comes_piece_by_piece : Reads part_in (
    (codes "", Ok Unfinished) ∷
    (codes "-", Ok Unfinished) ∷
    (codes "-1", Ok Unfinished) ∷
    (codes "-12", Ok Unfinished) ∷
    (codes "-120", Ok Unfinished) ∷
    (codes "-1204", Ok Unfinished) ∷
    (codes "-1204.", Ok (Whole (minus 1204) 5)) ∷
    (codes "-1204.5", Ok (Whole (minus 1204) 5)) ∷
    (codes "-1204.50", Ok (Whole (minus 1204) 5)) ∷
    (codes "-1204.50,", Ok (Whole (minus 1204) 5)) ∷
    [])
unfolding grammar
a_number_comes_piece_by_piece = refl

a_number_ends_where_json_goes_on : Reads part_in (
    (codes "1234 }, {\"Key\"", Ok (Whole (pos 1234) 4)) ∷
    (codes "0]", Ok (Whole (pos 0) 1)) ∷
    (codes "6e4", Ok (Whole (pos 6) 1)) ∷
    (codes "-9223372036854775808,", Ok (Whole (minus 9223372036854775808) 20)) ∷
    [])
unfolding grammar
a_number_ends_where_json_goes_on = refl

broken_numbers_say_where : Reads part_in (
    (codes "null", Err (json.NoDigit 0)) ∷
    (codes "-x", Err (json.NoDigit 1)) ∷
    (codes ".5", Err (json.NoDigit 0)) ∷
    (codes "9223372036854775808", Err (json.OutOfRange (Overflow 18))) ∷
    (codes "-92233720368547758099", Err (json.OutOfRange (Underflow 19))) ∷
    (codes "+1", Err (json.Malformed (InvalidPositiveSign 0))) ∷
    (codes "-012", Err (json.Malformed (InvalidLeadingZeros 1))) ∷
    [])
unfolding grammar
broken_numbers_say_where = refl

-- ---- lines of a ledger, and totals

a_line_has_a_name_and_an_amount : Reads entry_in (
    (codes "salary 250000", Ok (codes "salary", pos 250000)) ∷
    (codes "rent" ++ 9 ∷ codes "-85000", Ok (codes "rent", minus 85000)) ∷
    (codes "refund +1999", Ok (codes "refund", pos 1999)) ∷
    (codes "caf" ++ 195 ∷ 169 ∷ codes " -0350", Ok (codes "caf" ++ 195 ∷ 169 ∷ [], minus 350)) ∷
    [])
unfolding grammar
a_line_has_a_name_and_an_amount = refl

a_broken_line_says_where : Reads entry_in (
    (codes "salary", Err NoAmount) ∷
    (codes "rent -85x00", Err (Amount 5 (InvalidDigit 3))) ∷
    (codes "rent" ++ 9 ∷ [], Err (Amount 5 (Empty 0))) ∷
    (codes "a 9223372036854775808", Err (Amount 2 (Overflow 18))) ∷
    [])
unfolding grammar
a_broken_line_says_where = refl

a_total_is_that_of_all_lines : Reads total_in (
    (codes "", Ok (pos 0)) ∷
    (codes "salary 250000" ++ 10 ∷ codes "rent" ++ 9 ∷ codes "-85000" ++ 10 ∷ 10 ∷ codes "refund +1999" ++ 13 ∷ 10 ∷ [], Ok (pos 166999)) ∷
    -- an amount makes up for what the others exceed
    (codes "a 9223372036854775807" ++ 10 ∷ codes "b 1" ++ 10 ∷ codes "c -2", Ok (pos 9223372036854775806)) ∷
    [])
unfolding grammar
a_total_is_that_of_all_lines = refl

a_broken_ledger_says_where : Reads total_in (
    (codes "salary 250000" ++ 10 ∷ 10 ∷ codes "rent -85x00" ++ 10 ∷ codes "refund" ++ 10 ∷ [], Err (ledger.Line 2 (Amount 5 (InvalidDigit 3)))) ∷
    (codes "a 9223372036854775807" ++ 10 ∷ codes "b 1" ++ 10 ∷ [], Err ledger.OutOfRange) ∷
    (codes "a -9223372036854775808" ++ 10 ∷ codes "b -1" ++ 10 ∷ codes "c" ++ 10 ∷ [], Err (ledger.Line 2 NoAmount)) ∷
    [])
unfolding grammar
a_broken_ledger_says_where = refl

-- ---- literals of the grammar of C23, 6.4.4.1, and texts that are none

literals_of_c_are_read : Reads c_in (
    (codes "0", Ok (pos 0)) ∷
    (codes "0777", Ok (pos 511)) ∷
    (codes "1'000'000", Ok (pos 1000000)) ∷
    (codes "0X1'FF", Ok (pos 511)) ∷
    [])
unfolding grammar
literals_of_c_are_read = refl

other_texts_are_none_of_c : Reads c_in (
    (codes "08", Err (InvalidDigit 1)) ∷
    (codes "0o17", Err (InvalidDigit 1)) ∷
    (codes "0O17", Err (InvalidDigit 1)) ∷
    (codes "-1", Err (InvalidDigit 0)) ∷
    (codes "02000000000000000000000", Err (Overflow 22)) ∷
    [])
unfolding grammar
other_texts_are_none_of_c = refl

-- ---- those of the Python reference, 2.4.5

literals_of_python_are_read : Reads python_in (
    (codes "7", Ok (pos 7)) ∷
    (codes "00", Ok (pos 0)) ∷
    (codes "0_0", Ok (pos 0)) ∷
    (codes "0o_177", Ok (pos 127)) ∷
    [])
unfolding grammar
literals_of_python_are_read = refl

other_texts_are_none_of_python : Reads python_in (
    (codes "0777", Err (InvalidLeadingZeros 0)) ∷
    (codes "00_", Err (InvalidLeadingZeros 0)) ∷
    (codes "0b2", Err (InvalidDigit 2)) ∷
    [])
unfolding grammar
other_texts_are_none_of_python = refl

-- ---- integers of TOML v1.0.0, "Integer", and lines that set one

integers_of_toml_are_read : Reads integer_in (
    (codes "+99", Ok (pos 99)) ∷
    (codes "5_349_221", Ok (pos 5349221)) ∷
    (codes "0xdead_beef", Ok (pos 3735928559)) ∷
    (codes "-9223372036854775808", Ok (minus 9223372036854775808)) ∷
    [])
unfolding grammar
integers_of_toml_are_read = refl

other_texts_are_none_of_toml : Reads integer_in (
    (codes "017", Err (InvalidLeadingZeros 0)) ∷
    (codes "0x", Err (Empty 2)) ∷
    (codes "+0x1", Err (InvalidDigit 2)) ∷
    (codes "-0o7", Err (InvalidDigit 2)) ∷
    (codes "+0b", Err (InvalidDigit 2)) ∷
    (codes "+0o7", Err (InvalidDigit 2)) ∷
    (codes "-0b1", Err (InvalidDigit 2)) ∷
    (codes "1.0", Err (InvalidDigit 1)) ∷
    [])
unfolding grammar
other_texts_are_none_of_toml = refl

settings_are_read_by_their_names : Reads (setting_in (codes "retries")) (
    (codes "retries = 1_000", Some (Ok (pos 1000))) ∷
    (codes "retries = -0x1", Some (Err (InvalidDigit 2))) ∷
    (codes "retries = 007", Some (Err (InvalidLeadingZeros 0))) ∷
    (codes "retries = ", Some (Err (Empty 0))) ∷
    (codes "retries =  1", Some (Err (InvalidDigit 0))) ∷
    (codes "retries=1", None) ∷
    (codes "retry = 1", None) ∷
    (codes "retries_left = 1", None) ∷
    (codes "", None) ∷
    [])
unfolding grammar
settings_are_read_by_their_names = refl
