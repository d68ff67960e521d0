use Rattle.std.proofs.Common.{inl, inr, refl, ◌∙◌}
use Rattle.lexical_parse_integer.proofs.ForCallers.{is_fresh, not_asked}
use Rattle.library_tests.proofs.tests.parser.pins.digits_at_front.Goals as goal

pub returns-clause-none : goal.returns-clause-none
returns-clause-none c = c.digits.ensures ∙ (is_fresh c.args.c.now c.cursor.ensures.sound c.requires.front).no_digit

pub returns-clause-turns : goal.returns-clause-turns
returns-clause-turns c = (is_fresh c.args.c.now c.cursor.ensures.sound c.requires.front).no_turn

pub returns-clause-radix : goal.returns-clause-radix
returns-clause-radix c = λ off.
    elim (is_fresh c.args.c.now c.cursor.ensures.sound c.requires.front).effective [
      | inl own ↦ own
      | inr bare ↦ bare ∙ rw (not_asked c.args.c.now.format c.args.c.now.bytes c.args.c.now.start off) refl
    ]
