use Rattle.std.proofs.Common.{◌≡◌, ◌∙◌, Some, ap, false, sym, true}
use Rattle.std.specs.Prelude.{slice_get}
use Rattle.lexical_parse_integer.specs.Runs.{are_same}
use Rattle.lexical_fixed.proofs.Fractions.{count_behind, cut_behind, none_without, uncut_without}
use Rattle.lexical_fixed.proofs.fraction.digits_behind.Goals as goal

pub returns-then-not-stands_at-clause-cut : goal.returns-then-not-stands_at-clause-cut
returns-then-not-stands_at-clause-cut c =
    let none : are_same (Some c.args.format.now.point) (slice_get c.args.text.now c.args.place) ≡ false =
    ap (λ p. are_same (Some p) (slice_get c.args.text.now c.args.place)) (sym c.point.ensures) ∙ sym c.if-not-stands_at.ensures.answer in
    uncut_without c.args.format.now c.args.text.now c.args.place none

pub returns-then-not-stands_at-clause-count : goal.returns-then-not-stands_at-clause-count
returns-then-not-stands_at-clause-count c =
    let none : are_same (Some c.args.format.now.point) (slice_get c.args.text.now c.args.place) ≡ false =
    ap (λ p. are_same (Some p) (slice_get c.args.text.now c.args.place)) (sym c.point.ensures) ∙ sym c.if-not-stands_at.ensures.answer in
    none_without c.args.format.now c.args.text.now c.args.place none

pub returns-clause-cut : goal.returns-clause-cut
returns-clause-cut c =
    let some : are_same (Some c.args.format.now.point) (slice_get c.args.text.now c.args.place) ≡ true =
    ap (λ p. are_same (Some p) (slice_get c.args.text.now c.args.place)) (sym c.point.ensures) ∙ sym c.if-not-stands_at.ensures.answer in
    cut_behind c.args.format.now c.args.text.now c.args.place _ some c.count_digits.ensures.answer

pub returns-clause-count : goal.returns-clause-count
returns-clause-count c =
    let some : are_same (Some c.args.format.now.point) (slice_get c.args.text.now c.args.place) ≡ true =
    ap (λ p. are_same (Some p) (slice_get c.args.text.now c.args.place)) (sym c.point.ensures) ∙ sym c.if-not-stands_at.ensures.answer in
    count_behind c.args.format.now c.args.text.now c.args.place _ some c.count_digits.ensures.answer
