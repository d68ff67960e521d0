use Rattle.lexical_util.proofs.Steps.{checked_difference, checked_sum, no_product}
use Rattle.lexical_util.proofs.num.signed.I16Integer.checked_mul_add.Goals as goal

pub returns-in_err-product : goal.returns-in_err-product
returns-in_err-product c =
    rw c.from_residual.ensures
    (no_product c.args.negative c.args.add c.ranges.self c.ranges.scale c.requires.scale
    c.requires.add c.requires.sign c.in_err-product.ensures)

pub returns-then-negative : goal.returns-then-negative
returns-then-negative c =
    checked_difference c.checked_sub.result c.if-negative.true c.ranges.self c.ranges.scale
    c.ranges.add c.in_ok-product.ensures c.checked_sub.ensures

pub returns-else-negative : goal.returns-else-negative
returns-else-negative c =
    checked_sum c.checked_add.result c.if-negative.false c.ranges.self c.ranges.scale c.ranges.add
    c.in_ok-product.ensures c.checked_add.ensures
