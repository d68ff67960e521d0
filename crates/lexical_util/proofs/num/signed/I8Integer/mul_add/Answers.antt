use Rattle.lexical_util.proofs.Steps.{difference_fits, difference_is, product_fits, sum_fits, sum_is}
use Rattle.lexical_util.proofs.num.signed.I8Integer.mul_add.Goals as goal

pub overflow_mul-product : goal.overflow_mul-product
overflow_mul-product c = search product_fits

pub overflow_sub-result : goal.overflow_sub-result
overflow_sub-result c = search difference_fits

pub overflow_add-result : goal.overflow_add-result
overflow_add-result c = search sum_fits

pub returns-then-negative : goal.returns-then-negative
returns-then-negative c = search difference_is

pub returns-else-negative : goal.returns-else-negative
returns-else-negative c = search sum_is
