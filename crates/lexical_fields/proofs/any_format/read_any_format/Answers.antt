use Rattle.std.proofs.Common.{◌≡◌, ◌<◌, subst, length, arith}
use Rattle.std.specs.Prelude.{Ok}
use Rattle.std.proofs.lemmas.Bool.Decides.{nat_tests}
use Rattle.lexical_parse_integer.specs.Grammar.{complete}
use Rattle.lexical_fields.specs.ReadSoFar.{IsReadSoFar}
use Rattle.lexical_fields.proofs.ColumnSteps.{reading_goes}
use Rattle.lexical_fields.proofs.FieldAnswers.{answered}
use Rattle.lexical_fields.proofs.Marks.{no_marks}
use Rattle.lexical_fields.proofs.any_format.read_any_format.Goals as goal

pub loop-i-init : goal.loop-i-init
loop-i-init g c = record {
  marks = no_marks c.args.separator c.args.text.now;
  reading = λ whole initial reading. reading;
}

pub returns-then-is_empty-clause-reading : goal.returns-then-is_empty-clause-reading
returns-then-is_empty-clause-reading g c = c.loop-i.invariant.reading

pub returns-in-Err-clause-reading : goal.returns-in-Err-clause-reading
returns-in-Err-clause-reading g c = c.loop-i.invariant.reading

pub loop-i-preserved : goal.loop-i-preserved
loop-i-preserved g c =
    let rest = c.loop-i.rest.now in
    let some : 0 < length rest = grind (arith, nat_tests) in
    let cut = c.cut_field-more.ensures in
    let told : Ok (g.T.Integer.number c.in-Ok.value) ≡ complete c.args.format.now g.T.Integer.TYPE
    c.cut_field-more.result.0.now = c.in-Ok.ensures in
    record {
      marks = cut.marks;
      reading = λ whole initial before.
          let reading = c.loop-i.invariant.reading whole initial before in
          reading_goes _ g.T.Integer.number c.args.format.now g.T.Integer.TYPE c.args.separator whole initial
          c.loop-i.values c.loop-i.i rest reading _ _ c.in-Ok.value (omega (arith, reading.size))
          some cut.field cut.behind cut.shorter
          (answered _ _ _ _ _ c.requires.valid told);
    }

pub returns-clause-reading : goal.returns-clause-reading
returns-clause-reading g c = λ whole initial before.
    let full : c.loop-i.i ≡ length c.loop-i.values = omega arith in
    subst (λ n. IsReadSoFar _ g.T.Integer.number c.args.format.now g.T.Integer.TYPE c.args.separator whole initial
    c.loop-i.values n c.loop-i.rest.now) full (c.loop-i.invariant.reading whole initial before)
