use Rattle.std.proofs.Common.{◌≡◌, ◌∙◌, ◌-◌, ◌++◌, ap, arith, length, replicate, map, take, length-take-le, sym}
use Rattle.lexical_digits.proofs.WordsOfDigits.{all_bytes, all_taken}
use Rattle.lexical_fields.specs.Threes.{in_threes, lowered}
use Rattle.lexical_fields.proofs.ThreeDigits.{text_halves}
use Rattle.lexical_fields.proofs.threes.numbers_to_12.Goals as goal

pub returns : goal.returns
returns c =
    let text = c.args.text.now in
    let n = c.args.count in
    let size : length (take n text) ≡ n = length-take-le n text (omega (arith, c.requires.few, c.requires.room)) in
    let digits = c.digits_in_threes-digits.ensures ∙ ap (λ k. in_threes (replicate (12 - k) 0 ++ map lowered (take
    n text))) (sym size) in
    let h = text_halves (take n text) c.digits_in_threes-digits.result c.joined_threes.result c.joined_sixes.result
    (omega (arith, size, c.requires.few)) (all_taken n text (all_bytes text (λ k. let f = c.type_inv.text k in
    omega arith)))
    digits (c.are_digits.ensures c.if-not-are_digits.false) c.joined_threes.ensures.value c.joined_sixes.ensures in
    record { writes = h.writes; high = h.high; low = h.low }
