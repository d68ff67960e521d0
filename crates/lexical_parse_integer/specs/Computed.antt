-- What a test vector computes: `unfolding grammar` opens the definitions of a text's answer, for a proof by `refl`.
use Rattle.lexical_parse_integer.specs.Affixes.{is_affix, literal_radix, named_radix, matches, numeral_stop, octal_zero_at, prefix_radix, suffix_at}
use Rattle.lexical_parse_integer.specs.Grammar.{complete, partial, range_fault}
use Rattle.lexical_parse_integer.specs.Head.{head_of, sign}
use Rattle.lexical_parse_integer.specs.Numeral.{numeral_in}
use Rattle.lexical_parse_integer.specs.Runs.{are_same, begin_of, is_in_numeral, digit_at, digits_between, end_of, flag_for, run_passes, separator_at}

unfoldable pub grammar : Unit {0}
unfolding complete partial range_fault head_of sign numeral_in numeral_stop suffix_at is_affix
    matches octal_zero_at prefix_radix named_radix literal_radix are_same begin_of is_in_numeral
    digit_at digits_between end_of flag_for run_passes separator_at
grammar = tt
