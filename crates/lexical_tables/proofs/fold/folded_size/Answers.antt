use Rattle.std.proofs.Common.{arith, inl, inr}
use Rattle.std.proofs.lemmas.Bool.Decides.{nat_tests}
use Rattle.lexical_tables.proofs.FoldSteps.{fold_ends, fold_goes, fold_starts}
use Rattle.lexical_tables.proofs.fold.folded_size.Goals.{else-not-is_second, then-not-is_second}
use Rattle.lexical_tables.proofs.fold.folded_size.Goals as goal

pub loop-place-init : goal.loop-place-init
loop-place-init c = fold_starts c.args.text.now

pub loop-place-preserved : goal.loop-place-preserved
loop-place-preserved c =
    fold_goes c.args.text.now c.loop-place.place c.loop-place.size c.loop-place.is_odd c.loop-place.invariant
    c.loop-place-test.true c.is_second.result c.is_odd_behind-is_odd.result c.if-not-is_second.size c.is_second.ensures
    c.is_odd_behind-is_odd.ensures
    (elim c.if-not-is_second.branch [
      | then-not-is_second w ↦ inl (w.if-not-is_second.true, w.size-is)
      | else-not-is_second w ↦ inr (w.if-not-is_second.false, w.size-is)
    ])

pub returns : goal.returns
returns c =
    fold_ends c.args.text.now c.loop-place.place c.loop-place.size c.loop-place.is_odd c.loop-place.invariant
    (grind (arith, nat_tests))
