use borrow.Author.Lanes.{dot4_Fits}
use Rattle.std.proofs.Common.{refl}
use lib.Lanes.{pair_sums, products}
use Rattle.lexical_fields.specs.Threes.{weights}
use Rattle.lexical_fields.proofs.ThreeDigits.{sums_below}
use Rattle.lexical_fields.proofs.threes.joined_threes.Goals as goal

pub dot4 : goal.dot4
dot4 c = (dot4_Fits c.args.digits weights c.fits-digits.1 tt, tt)

pub returns : goal.returns
returns c = record {
  value = refl;
  small = sums_below (pair_sums (products c.args.digits weights)) (dot4_Fits c.args.digits weights c.fits-digits.1 tt);
}
