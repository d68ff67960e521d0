use Rattle.std.proofs.Common.{◌≡◌, ℕ, Bool, true, false, cond, Some, None, refl, sym, ap, ◌∙◌}
use Rattle.std.specs.Prelude.{ℤ, pos, Option}
use Rattle.lexical_util.specs.Number.{IntegerType, is_number, mul_add, number_if_fits}
use Rattle.lexical_parse_integer.specs.Grammar.{range_error}
use Rattle.lexical_parse_integer.proofs.algorithm.join.join_checked.Goals as goal
use Rattle.lexical_parse_integer.proofs.algorithm.join.join_checked.Goals.{then-is_negative, else-is_negative}

none_told : (b : Bool) (z : ℤ) → ◌≡◌ {A = Option ℤ} None (cond b (Some z) None) → b ≡ false
none_told true z e = cc
none_told false z e = refl

-- what no number is answered for, is no number of the type
no_number : (t : IntegerType) (b : Bool) (value scale add : ℤ) (r d : ℕ) → scale ≡ pos r → add ≡ pos d → None ≡ number_if_fits t (mul_add b value scale add) → is_number t (mul_add b value (pos r) (pos d)) ≡ false
no_number t b value scale add r d radix digit none =
    ap (λ z. is_number t (mul_add b value z (pos d))) (sym radix) ∙ ap (λ z. is_number t (mul_add b value scale z)) (sym digit) ∙ none_told (is_number t (mul_add b value scale add)) _ none

pub returns-after-is_negative-clause-leaves : goal.returns-after-is_negative-clause-leaves
returns-after-is_negative-clause-leaves g c =
    let leaves = no_number g.T.Integer.TYPE c.args.is_negative (g.T.Integer.number c.args.value) _ _ _ _ c.from_u32.ensures c.from_u32-2.ensures c.in-None.ensures in
    elim c.if-is_negative.branch [
      | then-is_negative w ↦ (w.result-is ∙ ap (λ b. range_error b c.args.place) (sym w.if-is_negative.true), leaves)
      | else-is_negative w ↦ (w.result-is ∙ ap (λ b. range_error b c.args.place) (sym w.if-is_negative.false), leaves)
    ]
