use Rattle.std.proofs.Common.{◌≡◌, ◌∙◌, ◌+◌, true, false, refl, sym}
use Rattle.lexical_tables.specs.Codes.{has_coded_bits}
use Rattle.lexical_digits.specs.Value.{with_sign}
use Rattle.jadvolni.specs.Tables.{target_of}
use Rattle.jadvolni.proofs.ColumnCodes.{bits_said, bits_stay, put_alone, put_with_bit, stays_usable}
use Rattle.jadvolni.proofs.table_columns.ColumnFieldsTableColumn.put_number.Goals as goal

pub put_row_bit-requires-clause-bits : goal.put_row_bit-requires-clause-bits
put_row_bit-requires-clause-bits c =
    let many : has_coded_bits c.args.code ≡ true = sym c.has_bits.ensures ∙ c.if-has_bits.true in
    bits_stay c.args.row (with_sign c.args.is_negative c.args.number) (target_of c.args.self.now)
    (target_of c.put_coded_number.new.self) (c.if-not-put_coded_number.ensures.target refl)
    ∙ bits_said c.args.code (target_of c.args.self.now) c.requires.code ∙ many

pub put_row_bit-requires-clause-usable : goal.put_row_bit-requires-clause-usable
put_row_bit-requires-clause-usable c =
    stays_usable c.args.row (with_sign c.args.is_negative c.args.number) (c.args.row + 1) (target_of c.args.self.now)
    (target_of c.put_coded_number.new.self) c.requires.usable (c.if-not-put_coded_number.ensures.target refl)

pub returns-then-has_bits-clause-target : goal.returns-then-has_bits-clause-target
returns-then-has_bits-clause-target c = λ put.
    put_with_bit c.args.row (with_sign c.args.is_negative c.args.number) (target_of c.args.self.now)
    (target_of c.put_coded_number.new.self) (target_of c.put_row_bit.new.self)
    (c.if-not-put_coded_number.ensures.target refl) c.put_row_bit.ensures

pub returns-else-has_bits-clause-target : goal.returns-else-has_bits-clause-target
returns-else-has_bits-clause-target c = λ put.
    let few : has_coded_bits c.args.code ≡ false = sym c.has_bits.ensures ∙ c.if-has_bits.false in
    let number = with_sign c.args.is_negative c.args.number in
    let before = target_of c.args.self.now in
    let after = target_of c.put_coded_number.new.self in
    let told = c.if-not-put_coded_number.ensures.target refl in
    put_alone c.args.row number before after told
    (bits_stay c.args.row number before after told
    ∙ bits_said c.args.code before c.requires.code ∙ few)
