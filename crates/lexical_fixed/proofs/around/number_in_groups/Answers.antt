use Rattle.std.proofs.Common.{◌-◌, arith}
use Rattle.std.proofs.lemmas.Option.{IfSome_then}
use Rattle.lexical_fixed.proofs.AroundPoint.{around_parted, parted_length}
use Rattle.lexical_fixed.proofs.around.number_in_groups.Goals as goal

pub returns-clause-around : goal.returns-clause-around
returns-clause-around g c =
    IfSome_then c.number_without_two.result c.number_without_two.ensures.joined
    (λ number joined. around_parted c.args.format.now (c.args.place - 4) c.args.place number c.args.bytes.now c.requires.separator c.requires.internal c.requires.no_digit
    (omega (arith, c.requires.before)) (omega (arith, c.requires.before)) c.requires.within joined)

pub returns-clause-digits : goal.returns-clause-digits
returns-clause-digits g c =
    IfSome_then c.number_without_two.result c.number_without_two.ensures.joined
    (λ number joined. parted_length c.args.format.now (c.args.place - 4) c.args.place number c.args.bytes.now c.requires.separator c.requires.internal c.requires.no_digit
    (omega (arith, c.requires.before)) (omega (arith, c.requires.before)) c.requires.within joined)
