use Rattle.lexical_parse_integer.proofs.reading.FrontAnswers.{sound_head}
use Rattle.lexical_parse_integer.proofs.number.has_digit_in.Goals as goal

pub has_digit_behind-requires : goal.has_digit_behind-requires
has_digit_behind-requires g c = record { sound = sound_head _ _ c.args.bytes.now _ c.requires.valid c.in-Ok.ensures.head }
