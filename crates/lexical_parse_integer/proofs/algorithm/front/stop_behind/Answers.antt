use Rattle.std.proofs.Common.{◌<◌, arith, length, sym}
use Rattle.lexical_parse_integer.proofs.reading.Soundness.{suffix_at_within}
use Rattle.lexical_parse_integer.proofs.algorithm.front.stop_behind.Goals as goal

pub overflow_add-result : goal.overflow_add-result
overflow_add-result c =
    let inside : c.args.end < length c.args.bytes.now = suffix_at_within _ c.args.bytes.now _ (sym c.if-suffix_at.ensures) in
    omega arith
