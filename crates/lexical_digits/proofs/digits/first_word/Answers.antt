use Rattle.std.proofs.Common.{arith, length, refl}
use Rattle.lexical_digits.proofs.WordsOfDigits.{all_bytes, first_word_is, first_word_small}
use Rattle.lexical_digits.proofs.digits.first_word.Goals as goal

pub overflow_add-result : goal.overflow_add-result
overflow_add-result c =
    let is = first_word_is c.args.text.now c.half_at.result c.half_at-2.result (length c.args.text.now) c.requires (all_bytes c.args.text.now (λ k. let f = c.type_inv.text k in omega arith)) (λ short. refl) (λ long. absurd (omega arith)) c.half_at.ensures c.half_at-2.ensures in
    let small = first_word_small c.args.text.now (λ k. let f = c.type_inv.text k in omega arith) in
    record { fits = omega (arith, is, small) }

pub returns : goal.returns
returns c = first_word_is c.args.text.now c.half_at.result c.half_at-2.result (length c.args.text.now) c.requires (all_bytes c.args.text.now (λ k. let f = c.type_inv.text k in omega arith)) (λ short. refl) (λ long. absurd (omega arith)) c.half_at.ensures c.half_at-2.ensures
