use Rattle.std.proofs.Common.{ap, ◌∙◌, arith, sym, length-take-le, cond, eqb}
use Rattle.std.proofs.lemmas.List.{get_or-take}
use Rattle.lexical_fields.proofs.search.marks_in_front.Goals as goal

pub slice_bounds-marks_of_64-end : goal.slice_bounds-marks_of_64-end
slice_bounds-marks_of_64-end c = sym (length-take-le 64 c.args.text.now (omega arith))

pub marks_of_64-requires : goal.marks_of_64-requires
marks_of_64-requires c = length-take-le 64 c.args.text.now (omega arith)

pub returns : goal.returns
returns c = record {
  seen = 64;
  few = omega arith;
  room = λ some. omega arith;
  here = λ k low. c.marks_of_64.ensures.here k low
      ∙ ap (λ x. cond (eqb x c.args.separator) 1 0) (get_or-take 64 c.args.text.now k 0 low);
  beyond = c.marks_of_64.ensures.beyond;
}
