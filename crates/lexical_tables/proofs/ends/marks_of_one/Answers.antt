use Rattle.std.proofs.Common.{ap, ◌∙◌, ◌≡◌, length, arith, take, cond, eqb, List, ℕ}
use Rattle.std.specs.Int.{bit_at}
use Rattle.std.proofs.lemmas.List.{get_or-take, take_all}
use Rattle.lexical_fields.proofs.Marks.{bit_here, mask_is}
use Rattle.lexical_tables.proofs.ends.marks_of_one.Goals as goal

pub returns : goal.returns
returns c = λ k low.
    let v : List ℕ = take 64 c.args.bytes.now in
    let b = c.args.byte in
    let all : v ≡ c.args.bytes.now = take_all 64 c.args.bytes.now (omega (arith, c.requires)) in
    let long : length v ≡ 64 = ap length all ∙ c.requires in
    ap (λ m. bit_at m k) (mask_is 64 v b long (omega arith)) ∙ bit_here 64 v b long k low
    ∙ ap (λ x. cond (eqb x b) 1 0) (get_or-take 64 c.args.bytes.now k 0 low)
