use Rattle.std.proofs.Common.{ℕ, ◌≡◌, ◌+◌, ◌-◌, ◌*◌, length, take, drop, length-drop, subst, arith}
use Rattle.std.proofs.lemmas.List.{take_all}
use Rattle.lexical_digits.specs.WrittenNumbers.{WritesDecimal}
use Rattle.lexical_digits.proofs.WordsInFront.{joined_texts}
use Rattle.lexical_fields.proofs.Numerals.{below_million}
use Rattle.lexical_fields.proofs.marked.number_from_13.Goals as goal

pub overflow_mul-result : goal.overflow_mul-result
overflow_mul-result c =
    let low = below_million (c.args.count - 12) c.args.digits.now c.in_ok-first.first (omega arith)
    (omega (arith, c.requires.room)) c.in_ok-first.ensures.writes in
    omega (arith, low)

pub overflow_add-result : goal.overflow_add-result
overflow_add-result c =
    let low = below_million (c.args.count - 12) c.args.digits.now c.in_ok-first.first (omega arith)
    (omega (arith, c.requires.room)) c.in_ok-first.ensures.writes in
    omega (arith, low, c.in_ok-last.ensures.small)

pub returns-clause-writes : goal.returns-clause-writes
returns-clause-writes c =
    let digits = c.args.digits.now in
    let k : ℕ = c.args.count - 12 in
    let room = c.requires.room in
    let left : length (drop k digits) ≡ length digits - k = length-drop k digits in
    let whole : take (length digits - k) (drop k digits) ≡ drop k digits =
    take_all (length digits - k) (drop k digits) (omega (arith, left)) in
    let size : k + 12 ≡ c.args.count = omega arith in
    subst (λ n. WritesDecimal 0 (take n digits) (c.in_ok-first.first * 1000000000000 + c.in_ok-last.last)) size
    (joined_texts k 12 c.in_ok-first.first c.in_ok-last.last digits (omega (arith, left, room))
    c.in_ok-first.ensures.writes (subst (λ l. WritesDecimal 0 (take 12 l) c.in_ok-last.last) whole c.in_ok-last.ensures.writes))

pub returns-clause-small : goal.returns-clause-small
returns-clause-small c =
    let low = below_million (c.args.count - 12) c.args.digits.now c.in_ok-first.first (omega arith)
    (omega (arith, c.requires.room)) c.in_ok-first.ensures.writes in
    omega (arith, low, c.in_ok-last.ensures.small)
