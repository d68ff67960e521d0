use Rattle.std.proofs.Common.{ℕ, ◌≡◌, ◌+◌, ◌-◌, ◌*◌, ◌^◌, length, take, drop, length-drop, subst, ap, ◌∙◌, arith, pos}
use Rattle.std.specs.Prelude.{ℤ}
use Rattle.std.proofs.lemmas.List.{take_all}
use Rattle.lexical_util.specs.Number.{mul_add}
use Rattle.lexical_digits.specs.WrittenNumbers.{StandsFor, WritesDecimal}
use Rattle.lexical_digits.proofs.LongNumbers.{decimal_is_front, from_one, more_digits, sign_of_value, sum_fits, sum_found}
use Rattle.lexical_fields.proofs.marked.value_from_13.Goals as goal

pub checked_mul_add-requires-clause-scale : goal.checked_mul_add-requires-clause-scale
checked_mul_add-requires-clause-scale g c = from_one _ _ c.join_parts-scale.ensures.value (omega arith)

pub checked_mul_add-requires-clause-sign : goal.checked_mul_add-requires-clause-sign
checked_mul_add-requires-clause-sign g c = sign_of_value _ _ c.args.is_negative _ _ c.in_ok-first.ensures

pub returns-in-Some : goal.returns-in-Some
returns-in-Some g c =
    let digits = c.args.digits.now in
    let is_negative = c.args.is_negative in
    let k : ℕ = c.args.count - 12 in
    let left : length (drop k digits) ≡ length digits - k = length-drop k digits in
    let whole : take (length digits - k) (drop k digits) ≡ drop k digits =
    take_all (length digits - k) (drop k digits) (omega (arith, left)) in
    let m : ℕ = c.in_ok-high.high * 1000000 + c.in_ok-high.low in
    let part : WritesDecimal 0 (take 12 (drop k digits)) m =
    subst (λ l. WritesDecimal 0 (take 12 l) m) whole c.in_ok-high.ensures.writes in
    let first : ℤ = g.T.Integer.number c.in_ok-first.first in
    let rest : ℤ = g.T.Integer.number c.join_parts-rest.result in
    let next : ℤ = g.T.Integer.number c.in-Some.value in
    let sum : ℤ = mul_add is_negative first (g.T.Integer.number c.join_parts-scale.result) rest in
    let found : next ≡ sum = sum_found g.T.Integer.TYPE next sum c.in-Some.ensures in
    let step : next ≡ mul_add is_negative first (pos (10 ^ 12)) (pos m) =
    found ∙ ap (λ (z : ℤ). mul_add is_negative first z rest) c.join_parts-scale.ensures.value
    ∙ ap (λ (z : ℤ). mul_add is_negative first (pos (10 ^ 12)) z) c.join_parts-rest.ensures.value in
    let all = more_digits g.T.Integer.TYPE 10 is_negative k 12 m digits first next (omega (
      arith,
      left,
      c.requires.room,
      c.requires.least,
    ))
    c.in_ok-first.ensures (decimal_is_front (take 12 (drop k digits)) m part) step
    (sum_fits g.T.Integer.TYPE next sum c.in-Some.ensures) in
    let size : k + 12 ≡ c.args.count = omega (arith, c.requires.least) in
    subst (λ n. StandsFor g.T.Integer.TYPE 10 is_negative (take n digits) next) size all
