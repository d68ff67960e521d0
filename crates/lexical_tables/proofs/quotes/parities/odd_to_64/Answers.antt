use Rattle.std.proofs.Common.{ap, ◌∙◌, ◌+◌, ◌%◌, ◌≡◌, arith, suc}
use Rattle.lexical_tables.proofs.Parities.{among_all, odd_of_one, odd_of_twice}
use Rattle.lexical_tables.specs.Looks.{bits_below}
use Rattle.lexical_tables.proofs.quotes.parities.odd_to_64.Goals as goal

pub returns : goal.returns
returns c = λ k low.
    let m = c.args.marks in
    let two = c.with_marks_below-among_two in
    let four = c.with_marks_below-among_four in
    let eight = c.with_marks_below-among_eight in
    let sixteen = c.with_marks_below-among_sixteen in
    let half = c.with_marks_below-among_half in
    let all = c.with_marks_below in
    let of_two = odd_of_twice m 1 m two.result (odd_of_one m) two.ensures.low two.ensures.high in
    let of_four = odd_of_twice m 2 two.result four.result of_two four.ensures.low four.ensures.high in
    let of_eight = odd_of_twice m 4 four.result eight.result of_four eight.ensures.low eight.ensures.high in
    let of_sixteen = odd_of_twice m 8 eight.result sixteen.result of_eight sixteen.ensures.low sixteen.ensures.high in
    let of_half = odd_of_twice m 16 sixteen.result half.result of_sixteen half.ensures.low half.ensures.high in
    let of_all = odd_of_twice m 32 half.result all.result of_half all.ensures.low all.ensures.high in
    let next : suc k ≡ k + 1 = omega arith in
    of_all k low ∙ ap (λ i. i % 2) (among_all m 64 k low)
    ∙ ap (λ i. bits_below m i % 2) next
