use Rattle.std.proofs.Common.{◌∙◌, ◌<◌, length, length-set, subst, arith}
use Rattle.std.proofs.lemmas.Bool.Decides.{nat_tests}
use Rattle.lexical_tables.specs.Codes.{IsCodeIn}
use Rattle.lexical_tables.proofs.CodeLists.{below_next, standard_next}
use Rattle.lexical_tables.proofs.codes.put_codes.Goals as goal

pub loop-column-preserved : goal.loop-column-preserved
loop-column-preserved g c =
    let low : c.loop-column.column < length c.args.targets.now = grind (arith, nat_tests) in
    let few : c.loop-column.column < 256 = grind (arith, nat_tests) in
    record {
      size = length-set c.loop-column.codes c.loop-column.column c.code_in-code.result ∙ c.loop-column.invariant.size;
      coded = below_next g.C.TableColumn.target c.args.dialect.now c.loop-column.column c.loop-column.codes
          c.args.targets.now c.code_in-code.result _ c.loop-column.invariant.coded
          (omega (arith, c.loop-column.invariant.size, few)) low
          (subst (λ x. IsCodeIn c.args.dialect.now c.code_in-code.result (g.C.TableColumn.target x)) c.index-targets-column.is c.code_in-code.ensures);
      standard = λ all. standard_next c.loop-column.column c.loop-column.codes c.code_in-code.result
          (c.loop-column.invariant.standard (c.with_code-columns.ensures.columns all))
          (omega (arith, c.loop-column.invariant.size, few)) (c.with_code-columns.ensures.code all);
    }
