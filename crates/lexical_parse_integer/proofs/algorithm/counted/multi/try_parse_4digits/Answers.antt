use Rattle.std.proofs.Common.{◌<◌, ◌^◌, ◌∙◌, ap, arith, pos, refl, sym}
use Rattle.std.proofs.lemmas.Bool.{false≢true}
use Rattle.lexical_parse_integer.proofs.Folds.{fact_of}
use Rattle.lexical_parse_integer.proofs.words.BorrowedBytes.{are_lent, lanes_small, lent_size, none_told, some_told}
use Rattle.lexical_parse_integer.proofs.words.WordsInTexts.{past_end, word_number}
use Rattle.lexical_parse_integer.proofs.algorithm.counted.multi.try_parse_4digits.Goals as goal

pub returns-in-None-clause-digits : goal.returns-in-None-clause-digits
returns-in-None-clause-digits g c = (λ e. absurd (false≢true e), λ all. absurd (past_end _ _ c.args.c.now.position 4 (omega arith) c.in-None.ensures all))

pub take_digits-requires-clause-digits : goal.take_digits-requires-clause-digits
take_digits-requires-clause-digits g c =
    let w = are_lent c.args.c.now.radix c.radix.result c.args.c.now.bytes c.in-Some.bytes.now c.args.c.now.position 4 c.requires.radix c.in-Some.ensures.0 c.in-Some.ensures.1 c.radix.ensures in
    w.forth (some_told _ _ _ c.in-Some-value_of_4lanes.ensures).0

pub from_u32-requires : goal.from_u32-requires
from_u32-requires g c =
    let told = some_told _ _ _ c.in-Some-value_of_4lanes.ensures in
    let same = c.radix.ensures in
    let ten = c.requires.radix in
    let size = lent_size c.args.c.now.bytes c.in-Some.bytes.now c.args.c.now.position 4 c.in-Some.ensures.0 c.in-Some.ensures.1 in
    let small : c.in-Some-value_of_4lanes.value < 10 ^ 4 = lanes_small c.radix.result _ 4 _ (omega arith) size told.0 told.1 in
    let wide = c.requires.bits in
    let bits = g.met.T.Integer.bits_law in
    word_number _ _ _ g.met.T.Integer.width_law (omega arith) (omega arith)

pub returns-in-Some-value_of_4lanes-clause-digits : goal.returns-in-Some-value_of_4lanes-clause-digits
returns-in-Some-value_of_4lanes-clause-digits g c =
    let w = are_lent c.args.c.now.radix c.radix.result c.args.c.now.bytes c.in-Some.bytes.now c.args.c.now.position 4 c.requires.radix c.in-Some.ensures.0 c.in-Some.ensures.1 c.radix.ensures in
    (λ e. w.forth (some_told _ _ _ c.in-Some-value_of_4lanes.ensures).0, λ all. refl)

pub returns-in-None-value_of_4lanes-clause-digits : goal.returns-in-None-value_of_4lanes-clause-digits
returns-in-None-value_of_4lanes-clause-digits g c =
    let w = are_lent c.args.c.now.radix c.radix.result c.args.c.now.bytes c.in-Some.bytes.now c.args.c.now.position 4 c.requires.radix c.in-Some.ensures.0 c.in-Some.ensures.1 c.radix.ensures in
    (λ e. absurd (false≢true e), λ all. absurd (false≢true (sym (none_told _ _ c.in-None-value_of_4lanes.ensures) ∙ w.back all)))

pub value_of_4lanes-requires-clause-least : goal.value_of_4lanes-requires-clause-least
value_of_4lanes-requires-clause-least g c = let low = (fact_of c.assert_invariant.ensures).radix.low in omega (arith, c.radix.ensures)

pub value_of_4lanes-requires-clause-greatest : goal.value_of_4lanes-requires-clause-greatest
value_of_4lanes-requires-clause-greatest g c = let ten = c.requires.radix in omega (arith, c.radix.ensures)

pub returns-in-Some-value_of_4lanes-clause-moved : goal.returns-in-Some-value_of_4lanes-clause-moved
returns-in-Some-value_of_4lanes-clause-moved g c = c.take_digits.ensures

pub returns-in-None-value_of_4lanes-clause-moved : goal.returns-in-None-value_of_4lanes-clause-moved
returns-in-None-value_of_4lanes-clause-moved g c = refl

pub returns-in-Some-value_of_4lanes-clause-value : goal.returns-in-Some-value_of_4lanes-clause-value
returns-in-Some-value_of_4lanes-clause-value g c =
    let w = are_lent c.args.c.now.radix c.radix.result c.args.c.now.bytes c.in-Some.bytes.now c.args.c.now.position 4 c.requires.radix c.in-Some.ensures.0 c.in-Some.ensures.1 c.radix.ensures in
    c.from_u32.ensures ∙ ap pos ((some_told _ _ _ c.in-Some-value_of_4lanes.ensures).1 ∙ w.value)
