use Rattle.std.proofs.Common.{◌≡◌, ◌+◌, ◌*◌, ℕ, Option, sym, subst, ◌∙◌, arith}
use Rattle.std.specs.Prelude.{IfSome}
use Rattle.lexical_literals.specs.Groups.{WritesOn}
use Rattle.lexical_literals.proofs.GroupedFronts.{digit_here, number_more, row_more}
use Rattle.lexical_literals.proofs.groups.read_row.Goals as goal

pub loop-place-preserved : goal.loop-place-preserved
loop-place-preserved c =
    let inv = c.loop-place.invariant in
    let low = inv.forward in
    let grown : c.in-Some-with_digit.next ≡ c.loop-place.number * c.args.radix + c.in-Some.digit =
    subst (λ (o : Option ℕ). IfSome o (λ next. next ≡ c.loop-place.number * c.args.radix + c.in-Some.digit))
    c.in-Some-with_digit.is c.with_digit.ensures in
    let here = digit_here c.args.radix c.args.text.now c.loop-place.place c.in-Some.digit c.loop-place-test.true
    (sym c.char_to_digit.ensures ∙ c.in-Some.is) in
    record {
      forward = omega arith;
      within = omega arith;
      digits = row_more c.args.radix c.args.text.now c.args.from c.loop-place.place c.in-Some.digit here inv.digits;
      number = subst (λ (n : ℕ). WritesOn c.args.radix c.args.text.now c.args.before c.args.from n (c.loop-place.place + 1)) (sym grown)
          (number_more c.args.radix c.args.text.now c.args.before c.args.from c.loop-place.number c.loop-place.place c.in-Some.digit low here inv.number);
    }
