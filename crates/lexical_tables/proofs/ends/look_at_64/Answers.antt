use Rattle.std.proofs.Common.{◌≡◌, ◌∙◌, ◌==◌, ◌&&◌, ◌||◌, ◌+◌, true, ap, arith, cond, eqb, get_or, sym, take}
use Rattle.std.specs.Int.{bit_at}
use Rattle.std.proofs.lemmas.Nat.Bits.{shr_and_one}
use Rattle.lexical_tables.specs.Quotes.{has_odd_quotes, quote}
use Rattle.lexical_tables.specs.Rows.{line_feed}
use Rattle.lexical_tables.proofs.EndLooks.{alike_end, outside_end}
use Rattle.lexical_tables.proofs.Looks.{AreSeen, byte_of, outside_bit, turned_by, within_alike}
use Rattle.lexical_tables.proofs.ends.look_at_64.Goals as goal

pub returns-then-quotes-eq0-clause-here : goal.returns-then-quotes-eq0-clause-here
returns-then-quotes-eq0-clause-here c = λ k low.
    let text = c.args.text.now in
    let s = c.args.separator in
    let place = c.args.place in
    let ends = c.marks_of_two-ends in
    let quotes = c.marks_of_one-quotes in
    let quoted : c.args.has_quotes ≡ true = c.if-not-has_quotes.false in
    let within : c.args.is_within ≡ has_odd_quotes (take place text) =
    c.requires.within ∙ ap (λ q. q && has_odd_quotes (take place text)) quoted in
    let seen : AreSeen quote text place 64 quotes.result =
    λ i below. quotes.ensures i below ∙ ap (λ x. cond (eqb x 34) 1 0) (byte_of text place 64 i below) in
    let is : bit_at ends.result k ≡ cond ((get_or text (place + k) 0 == s) || (get_or text (place + k) 0 == line_feed)) 1 0 =
    ends.ensures k low ∙ ap (λ x. cond ((x == s) || (x == line_feed)) 1 0) (byte_of text place 64 k low) in
    alike_end c.args.has_quotes s text quoted (c.requires.quoted quoted) place k ends.result
    (omega (arith, low, c.requires.room)) is c.args.is_within c.all_or_none.result
    (within_alike text place 64 quotes.result c.args.is_within c.requires.room within seen c.if-quotes-eq0.true k (omega (arith, low)))
    c.all_or_none.ensures.within c.all_or_none.ensures.outside

pub returns-then-quotes-eq0-clause-within : goal.returns-then-quotes-eq0-clause-within
returns-then-quotes-eq0-clause-within c =
    let text = c.args.text.now in
    let place = c.args.place in
    let quotes = c.marks_of_one-quotes in
    let quoted : c.args.has_quotes ≡ true = c.if-not-has_quotes.false in
    let within : c.args.is_within ≡ has_odd_quotes (take place text) =
    c.requires.within ∙ ap (λ q. q && has_odd_quotes (take place text)) quoted in
    let seen : AreSeen quote text place 64 quotes.result =
    λ i below. quotes.ensures i below ∙ ap (λ x. cond (eqb x 34) 1 0) (byte_of text place 64 i below) in
    sym (within_alike text place 64 quotes.result c.args.is_within c.requires.room within seen c.if-quotes-eq0.true 64 (omega arith))
    ∙ ap (λ q. q && has_odd_quotes (take (place + 64) text)) (sym quoted)

pub returns-clause-here : goal.returns-clause-here
returns-clause-here c = λ k low.
    let text = c.args.text.now in
    let s = c.args.separator in
    let place = c.args.place in
    let ends = c.marks_of_two-ends in
    let quotes = c.marks_of_one-quotes in
    let quoted : c.args.has_quotes ≡ true = c.if-not-has_quotes.false in
    let within : c.args.is_within ≡ has_odd_quotes (take place text) =
    c.requires.within ∙ ap (λ q. q && has_odd_quotes (take place text)) quoted in
    let seen : AreSeen quote text place 64 quotes.result =
    λ i below. quotes.ensures i below ∙ ap (λ x. cond (eqb x 34) 1 0) (byte_of text place 64 i below) in
    let is : bit_at ends.result k ≡ cond ((get_or text (place + k) 0 == s) || (get_or text (place + k) 0 == line_feed)) 1 0 =
    ends.ensures k low ∙ ap (λ x. cond ((x == s) || (x == line_feed)) 1 0) (byte_of text place 64 k low) in
    outside_end c.args.has_quotes s text quoted (c.requires.quoted quoted) place k ends.result
    (omega (arith, low, c.requires.room)) is c.outside_marks.result
    (outside_bit text place 64 quotes.result c.args.is_within c.requires.room within seen
    c.odd_to_64-odd.result c.outside_marks.result k low (c.odd_to_64-odd.ensures k low)
    (λ is. c.outside_marks.ensures.within is k low) (λ is. c.outside_marks.ensures.outside is k low))

pub returns-clause-within : goal.returns-clause-within
returns-clause-within c =
    let text = c.args.text.now in
    let place = c.args.place in
    let quotes = c.marks_of_one-quotes in
    let quoted : c.args.has_quotes ≡ true = c.if-not-has_quotes.false in
    let within : c.args.is_within ≡ has_odd_quotes (take place text) =
    c.requires.within ∙ ap (λ q. q && has_odd_quotes (take place text)) quoted in
    let seen : AreSeen quote text place 64 quotes.result =
    λ i below. quotes.ensures i below ∙ ap (λ x. cond (eqb x 34) 1 0) (byte_of text place 64 i below) in
    turned_by text place 64 quotes.result c.args.is_within c.requires.room within seen
    (shr_and_one c.odd_to_64-odd.result 63 ∙ c.odd_to_64-odd.ensures 63 (omega arith))
    ∙ ap (λ q. q && has_odd_quotes (take (place + 64) text)) (sym quoted)
