use Rattle.std.proofs.Common.{◌≡◌, ◌<◌, ◌+◌, ◌-◌, ◌*◌, ◌/◌, ◌^◌, ◌∙◌, ap, arith, length, subst, sym}
use Rattle.lexical_digits.proofs.WordsOfDigits.{AllBytes, all_bytes, digits_below}
use Rattle.lexical_digits.specs.Words.{word_bytes}
use Rattle.lexical_digits.specs.WrittenNumbers.{bytes_number}
use Rattle.lexical_fixed.specs.Quick.{without}
use Rattle.lexical_fixed.proofs.JoinedDigits.{all_without, joined_read, twice_without_number, without_length, without_small}
use Rattle.lexical_fixed.proofs.joined.number_without_two.Goals as goal

pub behind_zeros-digits-requires-clause-bytes : goal.behind_zeros-digits-requires-clause-bytes
behind_zeros-digits-requires-clause-bytes c =
    let text = c.args.text.now in
    let near = c.args.place - 4 in
    let rest = without c.args.place text in
    let all : AllBytes text = all_bytes text (λ k. let f = c.type_inv.text k in omega arith) in
    let once = without_length c.args.place text c.requires.within in
    let count : length rest - 1 ≡ length text - 2 = omega (arith, once) in
    let is = twice_without_number near c.args.place c.word_of.result c.word_without.result c.word_without-joined.result text all
    (omega (arith, c.requires.before)) c.requires.within c.requires.few c.word_of.ensures c.word_without.ensures c.word_without-joined.ensures in
    subst (λ n. n < 256 ^ (length text - 2)) (sym is)
    (subst (λ k. bytes_number (without near rest) < 256 ^ k) count (without_small near rest (all_without c.args.place text all) (omega (arith, once, c.requires.within))))

pub returns-clause-joined : goal.returns-clause-joined
returns-clause-joined c =
    let text = c.args.text.now in
    let near = c.args.place - 4 in
    let rest = without c.args.place text in
    let all : AllBytes text = all_bytes text (λ k. let f = c.type_inv.text k in omega arith) in
    let once = without_length c.args.place text c.requires.within in
    let twice = without_length near rest (omega (arith, once, c.requires.within)) in
    let count : length (without near rest) ≡ length text - 2 = omega (arith, once, twice) in
    let is = twice_without_number near c.args.place c.word_of.result c.word_without.result c.word_without-joined.result text all
    (omega (arith, c.requires.before)) c.requires.within c.requires.few c.word_of.ensures c.word_without.ensures c.word_without-joined.ensures in
    joined_read (without near rest) c.behind_zeros-digits.result _ (omega (arith, count, c.requires.before, c.requires.within)) (omega (arith, count, c.requires.few))
    (all_without near rest (all_without c.args.place text all))
    (c.behind_zeros-digits.ensures ∙ ap (λ w. w * 256 ^ (8 - (length text - 2)) + 3472328296227680304 / 256 ^ (length text - 2)) is
    ∙ ap (λ n. bytes_number (without near rest) * 256 ^ (8 - n) + 3472328296227680304 / 256 ^ n) (sym count))
    (c.is_8digits.ensures.0 c.if-not-is_8digits.false) c.parse_8digits.ensures

pub returns-clause-small : goal.returns-clause-small
returns-clause-small c =
    digits_below (word_bytes 8 c.behind_zeros-digits.result) c.parse_8digits.result (c.is_8digits.ensures.0 c.if-not-is_8digits.false) c.parse_8digits.ensures
