use Rattle.std.proofs.Common.{◌∙◌, ◌<◌, ap, arith, cond, eqb, min, sym}
use Rattle.std.specs.Int.{bit_at}
use Rattle.std.proofs.lemmas.Nat.Bits.{bit_at_and, shr_and_one}
use Rattle.lexical_tables.specs.Quotes.{quote}
use Rattle.lexical_tables.proofs.Looks.{AreSeen, byte_of, alike_bit, found_bit, none_beyond, none_least, within_alike, outside_bit, turned_by}
use Rattle.lexical_tables.proofs.quotes.looks.look_at_16.Goals as goal

pub returns-then-quotes-eq0-clause-here : goal.returns-then-quotes-eq0-clause-here
returns-then-quotes-eq0-clause-here c = λ k low.
    let text = c.args.text.now in
    let place = c.args.place in
    let seen : AreSeen quote text place 16 c.marks_among_16-quotes.result =
    λ i below. c.marks_among_16-quotes.ensures.here i below
    ∙ ap (λ x. cond (eqb x 34) 1 0) (byte_of text place 16 i below) in
    alike_bit text place 16 c.marks_among_16-quotes.result c.args.is_within c.requires.room c.requires.within seen
    c.if-quotes-eq0.true c.args.separator c.marks_among_16-separators.result c.all_or_none.result k low
    (c.marks_among_16-separators.ensures.here k low
    ∙ ap (λ x. cond (eqb x c.args.separator) 1 0) (byte_of text place 16 k low))
    c.all_or_none.ensures.within c.all_or_none.ensures.outside

pub returns-then-quotes-eq0-clause-beyond : goal.returns-then-quotes-eq0-clause-beyond
returns-then-quotes-eq0-clause-beyond c = λ k high.
    none_beyond c.marks_among_16-separators.result c.all_or_none.result k c.args.is_within
    (c.marks_among_16-separators.ensures.beyond k high) c.all_or_none.ensures.within c.all_or_none.ensures.outside

pub returns-then-quotes-eq0-clause-within : goal.returns-then-quotes-eq0-clause-within
returns-then-quotes-eq0-clause-within c =
    let text = c.args.text.now in
    let place = c.args.place in
    let seen : AreSeen quote text place 16 c.marks_among_16-quotes.result =
    λ i below. c.marks_among_16-quotes.ensures.here i below
    ∙ ap (λ x. cond (eqb x 34) 1 0) (byte_of text place 16 i below) in
    sym (within_alike text place 16 c.marks_among_16-quotes.result c.args.is_within c.requires.room c.requires.within seen
    c.if-quotes-eq0.true 16 (omega arith))

pub returns-clause-here : goal.returns-clause-here
returns-clause-here c = λ k low.
    let text = c.args.text.now in
    let place = c.args.place in
    let seen : AreSeen quote text place 16 c.marks_among_16-quotes.result =
    λ i below. c.marks_among_16-quotes.ensures.here i below
    ∙ ap (λ x. cond (eqb x 34) 1 0) (byte_of text place 16 i below) in
    let least : k < 64 = omega (arith, low) in
    found_bit c.args.separator text place c.marks_among_16-separators.result c.outside_marks.result k
    (c.marks_among_16-separators.ensures.here k low
    ∙ ap (λ x. cond (eqb x c.args.separator) 1 0) (byte_of text place 16 k low))
    (outside_bit text place 16 c.marks_among_16-quotes.result c.args.is_within c.requires.room c.requires.within seen
    c.odd_to_16-odd.result c.outside_marks.result k low (c.odd_to_16-odd.ensures k low)
    (λ is. c.outside_marks.ensures.within is k least) (λ is. c.outside_marks.ensures.outside is k least))

pub returns-clause-beyond : goal.returns-clause-beyond
returns-clause-beyond c = λ k high.
    bit_at_and c.marks_among_16-separators.result c.outside_marks.result k
    ∙ ap (λ b. min b (bit_at c.outside_marks.result k)) (c.marks_among_16-separators.ensures.beyond k high)
    ∙ none_least (bit_at c.outside_marks.result k)

pub returns-clause-within : goal.returns-clause-within
returns-clause-within c =
    let text = c.args.text.now in
    let place = c.args.place in
    let seen : AreSeen quote text place 16 c.marks_among_16-quotes.result =
    λ i below. c.marks_among_16-quotes.ensures.here i below
    ∙ ap (λ x. cond (eqb x 34) 1 0) (byte_of text place 16 i below) in
    turned_by text place 16 c.marks_among_16-quotes.result c.args.is_within c.requires.room c.requires.within seen
    (shr_and_one c.odd_to_16-odd.result 15 ∙ c.odd_to_16-odd.ensures 15 (omega arith))
