use Rattle.std.proofs.Common.{◌∙◌, ap, not, refl, true}
use Rattle.lexical_util.specs.Number.{integer_type}
use Rattle.lexical_fixed.proofs.AmountsAround.{no_value, short_worth, units_in, without_sign}
use Rattle.lexical_fixed.proofs.by_point.units_in_groups.Goals as goal

pub returns-clause-stands : goal.returns-clause-stands
returns-clause-stands c =
    let format = c.args.format.now in
    let short = c.in_ok-number.ensures in
    let is = without_sign _ c.in_ok-number.number (short_worth format (integer_type 64 true) c.behind_minus-is_negative.result.1.now c.in_ok-count.count c.in_ok-number.number short) short.fits in
    units_in format (integer_type 64 true) c.behind_minus-is_negative.result.0 c.args.text.now c.behind_minus-is_negative.result.1.now c.in_ok-count.count _ c.in_ok-number.number refl
    c.behind_minus-is_negative.ensures.behind c.behind_minus-is_negative.ensures.minus is
    c.foreign_bytes.ensures.read c.foreign_bytes.ensures.number c.complete_by_partial.ensures.sentences c.requires.valid
    (no_value c.point.result format.point c.char_is_digit.result c.char_is_digit.ensures c.point.ensures c.if-char_is_digit.false)
    c.in_ok-count.ensures
    short
