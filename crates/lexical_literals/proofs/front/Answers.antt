use Rattle.std.proofs.Common.{sym, subst}
use Rattle.lexical_util.specs.Digit.{IsRadix}
use Rattle.lexical_parse_integer.proofs.ForCallers.{fits}
use Rattle.lexical_literals.proofs.front.Goals as goal

pub char_is_digit-requires : goal.char_is_digit-requires
char_is_digit-requires c = subst IsRadix (sym c.radix.ensures) (fits c.args.format.now c.requires.valid).is_radix
