use Rattle.std.proofs.Common.{ap, ◌∙◌, ◌+◌, ◌%◌, ◌≡◌, arith, suc}
use Rattle.lexical_tables.proofs.Parities.{among_all, odd_of_one, odd_of_twice}
use Rattle.lexical_tables.specs.Looks.{bits_below}
use Rattle.lexical_tables.proofs.quotes.parities.odd_to_16.Goals as goal

pub returns : goal.returns
returns c = λ k low.
    let m = c.args.marks in
    let two = c.with_marks_below-of_two in
    let four = c.with_marks_below-of_four in
    let eight = c.with_marks_below-of_eight in
    let all = c.with_marks_below in
    let of_two = odd_of_twice m 1 m two.result (odd_of_one m) two.ensures.low two.ensures.high in
    let of_four = odd_of_twice m 2 two.result four.result of_two four.ensures.low four.ensures.high in
    let of_eight = odd_of_twice m 4 four.result eight.result of_four eight.ensures.low eight.ensures.high in
    let of_all = odd_of_twice m 8 eight.result all.result of_eight all.ensures.low all.ensures.high in
    let next : suc k ≡ k + 1 = omega arith in
    of_all k (omega (arith, low)) ∙ ap (λ i. i % 2) (among_all m 16 k low)
    ∙ ap (λ i. bits_below m i % 2) next
