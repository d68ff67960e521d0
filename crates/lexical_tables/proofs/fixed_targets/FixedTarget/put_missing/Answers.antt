use Rattle.std.proofs.Common.{◌∙◌, ap₂, false, pos}
use Rattle.std.specs.Prelude.{option_map}
use Rattle.lexical_tables.specs.Readings.{FixedPoints}
use Rattle.lexical_tables.specs.Targets.{view_of_fixed, with_row_bit}
use Rattle.lexical_tables.proofs.NumbersPut.{column_of, set_in}
use Rattle.lexical_tables.proofs.fixed_targets.FixedTarget.put_missing.Goals as goal

pub returns : goal.returns
returns c =
    let before = view_of_fixed c.args.self.now in
    let read = FixedPoints c.args.self.now.format in
    let zero = c.put_zero.ensures in
    ap₂ (λ bits present. column_of read bits present c.put_zero.new.self) c.put_presence.ensures.same c.put_presence.ensures.bits
    ∙ set_in read before.bits (option_map (with_row_bit c.args.row false) before.present) c.args.self.now.numbers
    c.put_zero.new.self zero.same_type zero.same_slice c.args.row (pos 0) zero.numbers
