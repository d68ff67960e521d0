use Rattle.std.proofs.Common.{◌∙◌, arith, inl, inr, sym}
use Rattle.std.proofs.lemmas.Bool.Decides.{nat_tests}
use Rattle.lexical_tables.proofs.FoldSteps.{fold_ends, fold_room, put_ends, put_goes, put_starts}
use Rattle.lexical_tables.proofs.fold.put_folded.Goals.{else-not-is_second, then-not-is_second}
use Rattle.lexical_tables.proofs.fold.put_folded.Goals as goal

pub loop-place-init : goal.loop-place-init
loop-place-init c = put_starts c.args.text.now c.args.to.now

pub bounds-to-size : goal.bounds-to-size
bounds-to-size c =
    omega (
      arith,
      fold_room c.args.text.now c.loop-place.place c.loop-place.size c.loop-place.is_odd c.loop-place.invariant.reading
          c.loop-place-test.true (sym c.is_second.ensures ∙ c.if-not-is_second.true),
      c.requires.room,
      c.loop-place.auto.to,
    )

pub loop-place-preserved : goal.loop-place-preserved
loop-place-preserved c =
    put_goes c.args.text.now c.loop-place.place c.loop-place.size c.loop-place.is_odd c.args.to.now c.loop-place.to
    c.loop-place.invariant c.loop-place-test.true c.requires.room c.is_second.result c.is_odd_behind-is_odd.result
    c.if-not-is_second.size c.if-not-is_second.to c.is_second.ensures c.is_odd_behind-is_odd.ensures
    (elim c.if-not-is_second.branch [
      | then-not-is_second w ↦ inl (w.if-not-is_second.true, w.size-is, w.to-is)
      | else-not-is_second w ↦ inr (w.if-not-is_second.false, w.size-is, w.to-is)
    ])

pub returns-clause-size : goal.returns-clause-size
returns-clause-size c =
    fold_ends c.args.text.now c.loop-place.place c.loop-place.size c.loop-place.is_odd c.loop-place.invariant.reading
    (grind (arith, nat_tests))

pub returns-clause-written : goal.returns-clause-written
returns-clause-written c =
    put_ends c.args.text.now c.loop-place.place c.loop-place.size c.loop-place.is_odd c.args.to.now c.loop-place.to
    c.loop-place.invariant (grind (arith, nat_tests))
