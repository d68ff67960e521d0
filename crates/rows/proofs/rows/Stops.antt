-- Test vectors: where reading stops.
-- Written by tools/rows.py from tools/rows.txt: make rows writes it anew.
use Rattle.std.specs.Prelude.{[], ◌∷◌, codes, pos, Ok, Err}
use Rattle.std.proofs.Common.{refl}
use Rattle.lexical_util.specs.declared.error.Error.TheVariants.{InvalidDigit}
use Rattle.lexical_util.specs.Format.{standard, json}
use Rattle.lexical_parse_integer.specs.Computed.{grammar}
use Rattle.lexical_parse_integer.specs.Grammar.{complete, partial}
use Rattle.rows.proofs.Tables.{Answers, u8, u32, u64, i32}

-- ---- the complete parser reads the whole text

whole_texts_complete : Answers complete (
    (standard, u64, codes "1234", Ok (pos 1234)) ∷
    (json, u64, codes "1234", Ok (pos 1234)) ∷
    (standard, u64, codes "12", Ok (pos 12)) ∷
    (standard, u64, codes "1234567812345678", Ok (pos 1234567812345678)) ∷
    (standard, u64, codes "1234 }, {\"Key\", \"Value\"}}", Err (InvalidDigit 4)) ∷
    (standard, i32, codes "123 456", Err (InvalidDigit 3)) ∷
    (standard, i32, codes " 5", Err (InvalidDigit 0)) ∷
    (standard, i32, codes "12x", Err (InvalidDigit 2)) ∷
    (standard, u8, (49 ∷ 255 ∷ []), Err (InvalidDigit 1)) ∷
    (standard, u8, codes "1\r", Err (InvalidDigit 1)) ∷
    [])
unfolding grammar
whole_texts_complete = refl

-- ---- the partial parser reads the digits in front, and says where they end

fronts_partial : Answers partial (
    (standard, u64, codes "1234 }, {\"Key\"", Ok (pos 1234, 4)) ∷
    (standard, i32, codes "123 456", Ok (pos 123, 3)) ∷
    (standard, i32, codes "12x", Ok (pos 12, 2)) ∷
    (standard, u64, codes "12 x", Ok (pos 12, 2)) ∷
    (standard, u64, codes "12 345", Ok (pos 12, 2)) ∷
    (standard, u64, codes "12345678, 9", Ok (pos 12345678, 8)) ∷
    (standard, u64, codes "12345678a", Ok (pos 12345678, 8)) ∷
    (standard, u64, codes "86A", Ok (pos 86, 2)) ∷
    (standard, u8, codes "0", Ok (pos 0, 1)) ∷
    (standard, u8, codes "127", Ok (pos 127, 3)) ∷
    (standard, u8, codes "128", Ok (pos 128, 3)) ∷
    (standard, u8, codes "255", Ok (pos 255, 3)) ∷
    (standard, u8, codes "1a", Ok (pos 1, 1)) ∷
    [])
unfolding grammar
fronts_partial = refl

-- ---- as many digits as are taken at once, one less and one more, and a byte behind them

digits_around_words_complete : Answers complete (
    (standard, u32, codes "1234", Ok (pos 1234)) ∷
    (standard, u32, codes "12345678", Ok (pos 12345678)) ∷
    [])
unfolding grammar
digits_around_words_complete = refl

digits_around_words_partial : Answers partial (
    (standard, u32, codes "1234_", Ok (pos 1234, 4)) ∷
    (standard, u32, codes "123_", Ok (pos 123, 3)) ∷
    (standard, u32, codes "123\0", Ok (pos 123, 3)) ∷
    (standard, u32, codes "123.", Ok (pos 123, 3)) ∷
    (standard, u64, codes "1234567", Ok (pos 1234567, 7)) ∷
    (standard, u64, codes "12345678", Ok (pos 12345678, 8)) ∷
    (standard, u64, codes "123456789", Ok (pos 123456789, 9)) ∷
    (standard, u64, codes "1234567\0", Ok (pos 1234567, 7)) ∷
    (standard, u64, codes "1234567.", Ok (pos 1234567, 7)) ∷
    (standard, u64, codes "1234567_", Ok (pos 1234567, 7)) ∷
    (standard, u64, codes "1234567890123456x", Ok (pos 1234567890123456, 16)) ∷
    (standard, u64, codes "12345678901234567x", Ok (pos 12345678901234567, 17)) ∷
    [])
unfolding grammar
digits_around_words_partial = refl
