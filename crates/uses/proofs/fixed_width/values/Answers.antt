use Rattle.std.proofs.Common.{◌≡◌, ◌<◌, length, arith, length-set, Ok, Err, sym}
use Rattle.std.proofs.Math.IntN.{ℤ}
use Rattle.std.proofs.lemmas.Int.{ints}
use Rattle.uses.specs.FixedWidth.{column_number, start_of}
use Rattle.uses.proofs.Columns.{read_all, read_fault, read_more, start_more}
use Rattle.uses.proofs.fixed_width.values.Goals as goal

pub returns-in-Err : goal.returns-in-Err
returns-in-Err g c =
    let inside : c.loop-column.column < length c.args.widths.now = omega arith in
    let next = start_more c.args.widths.now c.loop-column.column inside in
    let at : c.loop-column.start ≡ start_of c.args.widths.now c.loop-column.column = c.loop-column.invariant.at in
    let answer : column_number c.args.widths.now c.args.row.now c.loop-column.column
    ≡ Err c.in-Err.error = rw (next, ← at) (sym c.in-Err.ensures) in
    let fault = read_fault c.args.widths.now c.args.row.now c.loop-column.column c.loop-column.start
    c.loop-column.values c.in-Err.error c.loop-column.invariant.read inside at answer in
    grind (arith, fault)

pub loop-column-preserved : goal.loop-column-preserved
loop-column-preserved g c =
    let inside : c.loop-column.column < length c.args.widths.now = omega arith in
    let next = start_more c.args.widths.now c.loop-column.column inside in
    let at : c.loop-column.start ≡ start_of c.args.widths.now c.loop-column.column = c.loop-column.invariant.at in
    let answer : column_number c.args.widths.now c.args.row.now c.loop-column.column
    ≡ Ok c.in-Ok.value = rw (next, ← at) (sym c.in-Ok.ensures) in
    record {
      at = omega arith;
      size = omega (arith, length-set {A = ℤ});
      read =
          read_more c.args.widths.now c.args.row.now c.loop-column.column c.loop-column.values
          c.in-Ok.value _ c.loop-column.invariant.read inside (omega arith) answer
          (omega (arith, ints));
    }

pub returns : goal.returns
returns g c =
    let whole = read_all c.args.widths.now c.args.row.now c.loop-column.column c.loop-column.values
    c.loop-column.invariant.read (omega arith) c.loop-column.invariant.size in
    grind (arith, whole)
