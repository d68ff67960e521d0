use Rattle.std.proofs.Common.{◌+◌, arith, length, map, refl, subst}
use Rattle.lexical_tables.specs.RowSoFar.{GoesToEnd}
use Rattle.lexical_tables.proofs.PutSteps.{use_less}
use Rattle.lexical_tables.proofs.pass.read_first_rows.Goals as goal

pub read_unmarked_row-behind-requires-clause-usable : goal.read_unmarked_row-behind-requires-clause-usable
read_unmarked_row-behind-requires-clause-usable g c =
    use_less (c.args.first + 1) (c.args.last + 1) (map g.C.TableColumn.target c.args.targets.now)
    (omega (arith, c.requires.last)) c.requires.usable

pub returns-clause-done : goal.returns-clause-done
returns-clause-done g c =
    let d = c.args.dialect.now in
    let text = c.args.text.now in
    let from = c.args.from.text.now in
    let old = map g.C.TableColumn.target c.args.targets.now in
    let read = c.read_unmarked_row-behind in
    subst (λ t. GoesToEnd d (length text) c.args.first old from (map g.C.TableColumn.target read.new.targets) c.args.first t
    read.new.wrong) c.requires.tail (record {
      count = 0;
      number = omega arith;
      before = old;
      rows = (refl, refl);
      row = record { fault_is = read.ensures.fault; targets_are = read.ensures.targets };
    })
