use Rattle.std.proofs.Common.{◌∙◌, ap}
use Rattle.lexical_literals.specs.Tokens.{number_by, number_of}
use Rattle.lexical_literals.specs.declared.Kind.TheVariants.{Fault}
use Rattle.lexical_literals.proofs.wide_number.Goals as goal

pub returns-in-Ok : goal.returns-in-Ok
unfolding number_of
returns-in-Ok c = ap (number_by c.args.text.now) c.in-Ok.ensures

pub returns-in-Err : goal.returns-in-Err
unfolding number_of
returns-in-Err c =
    ap (λ size. (Fault c.in-Err.fault, size)) c.word_length.ensures.value
    ∙ ap (number_by c.args.text.now) c.in-Err.ensures
