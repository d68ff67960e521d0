use Rattle.std.proofs.Common.{sym, subst, ◌<◌}
use Rattle.lexical_fixed.proofs.JoinedDigits.{shifted_fits, shifted_up}
use Rattle.lexical_fixed.proofs.joined.behind_zeros.Goals as goal

pub overflow_add-result : goal.overflow_add-result
overflow_add-result c =
    let up = shifted_up c.args.count c.args.word c.requires.some c.requires.few c.requires.bytes in
    let small = shifted_fits c.args.count c.args.word c.requires.some c.requires.few c.requires.bytes in
    record { fits = subst (λ n. n < 18446744073709551616) (sym up) small }

pub returns : goal.returns
returns c = shifted_up c.args.count c.args.word c.requires.some c.requires.few c.requires.bytes
