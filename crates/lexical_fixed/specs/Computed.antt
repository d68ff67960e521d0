-- What a row computes: `unfolding fixed_grammar` opens the definitions of a text's answer, for a proof by `refl`.
use Rattle.lexical_fixed.specs.Fraction.{digit_outside, digits_fault, digits_from, fraction_length, front_end, has_bare_point, has_point_at, is_cut, lacks_places, whole_end, with_digits, zeros_fault}
use Rattle.lexical_fixed.specs.Grammar.{complete_fixed, front_behind, integer_part, is_negative, partial_fixed, units_behind, whole_behind}

unfoldable pub fixed_grammar : Unit {0}
unfolding complete_fixed partial_fixed whole_behind front_behind units_behind integer_part
    is_negative digits_from has_point_at fraction_length whole_end front_end is_cut lacks_places
    has_bare_point with_digits digit_outside digits_fault zeros_fault
fixed_grammar = tt
