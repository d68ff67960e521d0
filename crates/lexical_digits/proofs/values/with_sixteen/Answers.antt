use Rattle.std.proofs.Common.{◌≡◌, ◌<◌, ◌≤◌, arith, ap, pos, ◌∙◌, false}
use Rattle.std.specs.Prelude.{ℤ}
use Rattle.lexical_util.specs.Number.{is_number, mul_add}
use Rattle.lexical_digits.proofs.LongNumbers.{few_fit, sixteen_found, sixteen_more}
use Rattle.lexical_digits.proofs.values.with_sixteen.Goals as goal

pub mul_add-requires-clause-fits : goal.mul_add-requires-clause-fits
mul_add-requires-clause-fits g c =
    let scale : g.T.Integer.number c.join_parts-scale.result ≡ pos 10000000000000000 = c.join_parts-scale.ensures.value in
    let long : 64 < g.T.Integer.TYPE.bits = omega (arith, c.BITS.ensures, g.met.T.Integer.bits_law, c.if-BITS-gt64.true) in
    rw scale (few_fit _ c.args.place _ c.args.digits.now _ _ g.met.T.Integer.width_law long c.if-place-le22.true c.requires.before c.join_parts-rest.ensures.value (omega (arith, c.in-Some.ensures.high, c.in-Some.ensures.low)))

pub returns-then-place-le22 : goal.returns-then-place-le22
returns-then-place-le22 g c =
    let scale : g.T.Integer.number c.join_parts-scale.result ≡ pos 10000000000000000 = c.join_parts-scale.ensures.value in
    let long : 64 < g.T.Integer.TYPE.bits = omega (arith, c.BITS.ensures, g.met.T.Integer.bits_law, c.if-BITS-gt64.true) in
    let step = c.mul_add.ensures ∙ ap (λ (z : ℤ). mul_add false (g.T.Integer.number c.args.value) z (g.T.Integer.number c.join_parts-rest.result)) scale in
    sixteen_more _ c.args.place _ c.args.digits.now _ _ _ c.requires.within c.requires.before c.in-Some.ensures.writes c.join_parts-rest.ensures.value step
    (ap (is_number g.T.Integer.TYPE) step ∙ few_fit _ c.args.place _ c.args.digits.now _ _ g.met.T.Integer.width_law long c.if-place-le22.true c.requires.before c.join_parts-rest.ensures.value (omega (arith, c.in-Some.ensures.high, c.in-Some.ensures.low)))

pub returns : goal.returns
returns g c = sixteen_found g.T.Integer.number g.T.Integer.TYPE c.args.place _ c.args.digits.now _ _ _ c.checked_mul_add.result c.requires.within c.requires.before c.in-Some.ensures.writes c.join_parts-rest.ensures.value c.join_parts-scale.ensures.value c.checked_mul_add.ensures
