use Rattle.std.proofs.Common.{ap, ◌∙◌, ◌≡◌, ◌==◌, length, arith, take, cond, List, ℕ}
use Rattle.std.specs.Prelude.{◌||◌}
use Rattle.std.proofs.lemmas.List.{get_or-take, take_all}
use Rattle.lexical_tables.proofs.EndLooks.{bit_of_two}
use Rattle.lexical_tables.proofs.ends.marks_of_two.Goals as goal

pub returns : goal.returns
returns c = λ k low.
    let v : List ℕ = take 64 c.args.bytes.now in
    let a = c.args.first in
    let b = c.args.second in
    let all : v ≡ c.args.bytes.now = take_all 64 c.args.bytes.now (omega (arith, c.requires)) in
    let long : length v ≡ 64 = ap length all ∙ c.requires in
    bit_of_two 64 v long (omega arith) a b k low
    ∙ ap (λ x. cond ((x == a) || (x == b)) 1 0) (get_or-take 64 c.args.bytes.now k 0 low)
