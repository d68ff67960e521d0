use Rattle.std.proofs.Common.{arith}
use Rattle.std.proofs.lemmas.Option.{IfSome_then}
use Rattle.lexical_fixed.proofs.AroundPoint.{around_joined}
use Rattle.lexical_fixed.proofs.around.value_around_point.Goals as goal

pub returns : goal.returns
returns g c =
    IfSome_then c.value_around.result c.value_around.ensures
    (λ value found. record {
      number = found.number;
      around = around_joined c.args.format.now c.args.place found.number c.args.bytes.now c.requires.before (omega (arith, c.requires.behind)) found.joined;
      worth = found.worth;
      fits = found.fits;
    })
