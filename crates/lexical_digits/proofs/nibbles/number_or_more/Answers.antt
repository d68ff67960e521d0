use Rattle.std.proofs.Common.{◌≤◌, get_or, refl, subst, sym, arith}
use Rattle.lexical_digits.proofs.NibbleBlocks.{next_joined, next_sum, sum_fits, value_small}
use Rattle.lexical_digits.proofs.nibbles.number_or_more.Goals as goal

pub overflow_mul-number : goal.overflow_mul-number
overflow_mul-number c =
    let fits = sum_fits c.loop-byte.byte-index c.loop-byte.number 0 c.loop-byte.invariant.sum (omega (arith, c.loop-byte-test.true, c.requires.few)) (omega arith) in
    record { fits = omega arith }

pub overflow_add-number : goal.overflow_add-number
overflow_add-number c =
    let small : c.value_or_more.result ≤ 4294967296 = subst (λ v. v ≤ 4294967296) (sym c.value_or_more.ensures) (value_small (get_or c.args.text.now c.loop-byte.byte-index 0)) in
    record { fits = sum_fits c.loop-byte.byte-index c.loop-byte.number c.value_or_more.result c.loop-byte.invariant.sum (omega (arith, c.loop-byte-test.true, c.requires.few)) small }

pub loop-byte-preserved : goal.loop-byte-preserved
loop-byte-preserved c =
    let small : c.value_or_more.result ≤ 4294967296 = subst (λ v. v ≤ 4294967296) (sym c.value_or_more.ensures) (value_small (get_or c.args.text.now c.loop-byte.byte-index 0)) in
    record {
      sum = next_sum c.loop-byte.byte-index c.loop-byte.number c.value_or_more.result c.loop-byte.invariant.sum small;
      writes = next_joined c.loop-byte.byte-index c.loop-byte.number c.value_or_more.result _ c.args.text.now c.loop-byte.invariant.writes c.loop-byte-test.true c.value_or_more.ensures refl;
    }
