use Rattle.std.proofs.Common.{◌≡◌, ◌+◌, ◌*◌, ◌^◌, ◌<◌, arith, length, ap, pos, ◌∙◌}
use Rattle.std.specs.Prelude.{ℤ, if◌then◌else◌, neg_ℤ}
use Rattle.std.proofs.lemmas.Bool.{lt-ltb}
use Rattle.lexical_util.specs.Number.{is_number, number_limit}
use Rattle.lexical_digits.proofs.BlockValues.{high_below, root_below, scale_is, some_scale, whole_below}
use Rattle.lexical_digits.proofs.LongNumbers.{from_one, parts_worth}
use Rattle.lexical_digits.proofs.nibbles.value_of_blocks.Goals as goal

pub from_u32-root-requires : goal.from_u32-root-requires
from_u32-root-requires g c =
    let below = root_below c.args.size c.requires.small in
    lt-ltb _ _ (omega (arith, below, c.requires.scale))

pub mul_add-scale-requires-clause-fits : goal.mul_add-scale-requires-clause-fits
mul_add-scale-requires-clause-fits g c =
    let none : g.T.Integer.number c.ZERO.result ≡ pos 0 = ap g.T.Integer.number c.ZERO.ensures ∙ g.met.T.Integer.zero_law in
    ap (is_number g.T.Integer.TYPE) (scale_is _ _ c.args.size c.requires.small c.from_u32-root.ensures none) ∙ lt-ltb _ _ c.requires.scale

pub from_u32-requires : goal.from_u32-requires
from_u32-requires g c =
    let whole = whole_below _ c.args.digits.now (number_limit g.T.Integer.TYPE) c.in-Some.ensures c.requires.room in
    lt-ltb _ _ (high_below c.in-Some.high c.in-Some.low (16 ^ c.args.size) _ (some_scale c.args.size) whole)

pub from_u32-requires-in-Some : goal.from_u32-requires-in-Some
from_u32-requires-in-Some g c =
    let whole = whole_below _ c.args.digits.now (number_limit g.T.Integer.TYPE) c.in-Some.ensures c.requires.room in
    lt-ltb _ _ (omega (arith, whole))

pub mul_add-value-requires-clause-fits : goal.mul_add-value-requires-clause-fits
mul_add-value-requires-clause-fits g c =
    let none : g.T.Integer.number c.ZERO.result ≡ pos 0 = ap g.T.Integer.number c.ZERO.ensures ∙ g.met.T.Integer.zero_law in
    let scale : g.T.Integer.number c.mul_add-scale.result ≡ pos (16 ^ c.args.size) = c.mul_add-scale.ensures ∙ scale_is _ _ c.args.size c.requires.small c.from_u32-root.ensures none in
    let whole = whole_below _ c.args.digits.now (number_limit g.T.Integer.TYPE) c.in-Some.ensures c.requires.room in
    ap (is_number g.T.Integer.TYPE) (parts_worth _ _ _ _ _ _ c.from_u32.ensures scale c.from_u32-in-Some.ensures) ∙ lt-ltb _ _ whole

pub mul_add-value-requires-clause-scale : goal.mul_add-value-requires-clause-scale
mul_add-value-requires-clause-scale g c =
    let none : g.T.Integer.number c.ZERO.result ≡ pos 0 = ap g.T.Integer.number c.ZERO.ensures ∙ g.met.T.Integer.zero_law in
    from_one _ _ (c.mul_add-scale.ensures ∙ scale_is _ _ c.args.size c.requires.small c.from_u32-root.ensures none) (some_scale c.args.size)

pub signed_value-requires-clause-fits : goal.signed_value-requires-clause-fits
signed_value-requires-clause-fits g c =
    let none : g.T.Integer.number c.ZERO.result ≡ pos 0 = ap g.T.Integer.number c.ZERO.ensures ∙ g.met.T.Integer.zero_law in
    let scale : g.T.Integer.number c.mul_add-scale.result ≡ pos (16 ^ c.args.size) = c.mul_add-scale.ensures ∙ scale_is _ _ c.args.size c.requires.small c.from_u32-root.ensures none in
    let whole = whole_below _ c.args.digits.now (number_limit g.T.Integer.TYPE) c.in-Some.ensures c.requires.room in
    ap (is_number g.T.Integer.TYPE) (c.mul_add-value.ensures ∙ parts_worth _ _ _ _ _ _ c.from_u32.ensures scale c.from_u32-in-Some.ensures) ∙ lt-ltb _ _ whole

pub returns-in-Some : goal.returns-in-Some
returns-in-Some g c =
    let none : g.T.Integer.number c.ZERO.result ≡ pos 0 = ap g.T.Integer.number c.ZERO.ensures ∙ g.met.T.Integer.zero_law in
    let scale : g.T.Integer.number c.mul_add-scale.result ≡ pos (16 ^ c.args.size) = c.mul_add-scale.ensures ∙ scale_is _ _ c.args.size c.requires.small c.from_u32-root.ensures none in
    let worth = c.mul_add-value.ensures ∙ parts_worth _ _ _ _ _ _ c.from_u32.ensures scale c.from_u32-in-Some.ensures in
    record {
      magnitude = pos (c.in-Some.high * 16 ^ c.args.size + c.in-Some.low);
      writes = c.in-Some.ensures;
      worth = c.signed_value.ensures.value ∙ ap (λ (z : ℤ). if c.args.is_negative then neg_ℤ z else z) worth;
      fits = c.signed_value.ensures.fits;
    }
