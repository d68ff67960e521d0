use Rattle.std.proofs.Common.{arith, ap, length, refl, ◌∙◌}
use Rattle.std.proofs.lemmas.List.{take_all}
use Rattle.lexical_digits.specs.WrittenNumbers.{bytes_number}
use Rattle.lexical_digits.proofs.WordsOfDigits.{all_bytes, first_word_is}
use Rattle.lexical_fixed.proofs.joined.word_of.Goals as goal

pub returns : goal.returns
returns c =
    first_word_is c.args.text.now c.half_at-2.result c.half_at.result (length c.args.text.now) c.requires.some (all_bytes c.args.text.now (λ k. let f = c.type_inv.text k in omega arith)) (λ short. refl) (λ long. omega (arith, c.requires.few)) c.half_at-2.ensures c.half_at.ensures
    ∙ ap bytes_number (take_all 8 c.args.text.now c.requires.few)
