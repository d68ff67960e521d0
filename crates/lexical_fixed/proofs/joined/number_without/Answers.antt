use Rattle.std.proofs.Common.{◌<◌, ◌+◌, ◌-◌, ◌*◌, ◌/◌, ◌%◌, ◌^◌, ◌∙◌, ap, arith, length, sym, subst}
use Rattle.lexical_digits.proofs.WordsOfDigits.{AllBytes, all_bytes, digits_below}
use Rattle.lexical_digits.specs.Words.{word_bytes}
use Rattle.lexical_digits.specs.WrittenNumbers.{bytes_number}
use Rattle.lexical_fixed.specs.Quick.{without}
use Rattle.lexical_fixed.proofs.JoinedDigits.{all_without, joined_read, without_length, without_number, without_small}
use Rattle.lexical_fixed.proofs.joined.number_without.Goals as goal

pub behind_zeros-digits-requires-clause-bytes : goal.behind_zeros-digits-requires-clause-bytes
behind_zeros-digits-requires-clause-bytes c =
    let text = c.args.text.now in
    let all : AllBytes text = all_bytes text (λ k. let f = c.type_inv.text k in omega arith) in
    let is = c.word_without-joined.ensures ∙ ap (λ w. w % 256 ^ c.args.place + w / 256 ^ (c.args.place + 1) * 256 ^ c.args.place) c.word_of.ensures ∙ without_number c.args.place text all c.requires.within (omega (arith, c.requires.few, c.requires.within)) in
    subst (λ n. n < 256 ^ (length text - 1)) (sym is) (without_small c.args.place text all c.requires.within)

pub returns-clause-joined : goal.returns-clause-joined
returns-clause-joined c =
    let text = c.args.text.now in
    let all : AllBytes text = all_bytes text (λ k. let f = c.type_inv.text k in omega arith) in
    let is = c.word_without-joined.ensures ∙ ap (λ w. w % 256 ^ c.args.place + w / 256 ^ (c.args.place + 1) * 256 ^ c.args.place) c.word_of.ensures ∙ without_number c.args.place text all c.requires.within (omega (arith, c.requires.few, c.requires.within)) in
    let size = without_length c.args.place text c.requires.within in
    joined_read (without c.args.place text) c.behind_zeros-digits.result _ (omega (arith, size, c.requires.some)) (omega (arith, size, c.requires.few)) (all_without c.args.place text all)
    (c.behind_zeros-digits.ensures ∙ ap (λ w. w * 256 ^ (8 - (length text - 1)) + 3472328296227680304 / 256 ^ (length text - 1)) is
    ∙ ap (λ n. bytes_number (without c.args.place text) * 256 ^ (8 - n) + 3472328296227680304 / 256 ^ n) (sym size))
    (c.is_8digits.ensures.0 c.if-not-is_8digits.false) c.parse_8digits.ensures

pub returns-clause-small : goal.returns-clause-small
returns-clause-small c =
    digits_below (word_bytes 8 c.behind_zeros-digits.result) c.parse_8digits.result (c.is_8digits.ensures.0 c.if-not-is_8digits.false) c.parse_8digits.ensures
