use Rattle.std.proofs.Common.{◌-◌, arith, length, refl}
use Rattle.std.proofs.lemmas.Option.{IfSome_then}
use Rattle.lexical_fixed.proofs.AroundPoint.{digits_grouped, joined_worth, parted_grouped, parted_worth, separated_worth, separator_grouped}
use Rattle.lexical_fixed.proofs.JoinedDigits.{joined_small}
use Rattle.lexical_fixed.proofs.LastFractions.{joined_digits}
use Rattle.lexical_fixed.proofs.around.number_before.Goals as goal

pub returns-then-is_between-clause-grouped : goal.returns-then-is_between-clause-grouped
returns-then-is_between-clause-grouped g c =
    let bytes = c.args.bytes.now in
    let place = length bytes - 1 - c.args.tail in
    IfSome_then c.number_without.result c.number_without.ensures.joined
    (λ number joined. separator_grouped c.args.format.now place bytes (c.if-is_between.ensures.separator refl) (c.if-is_between.ensures.internal refl)
    (omega (arith, c.if-tail-size.true)) (omega (arith, c.requires.tail, c.if-tail-size.true)) joined.digits)

pub returns-then-is_between-clause-worth : goal.returns-then-is_between-clause-worth
returns-then-is_between-clause-worth g c =
    let bytes = c.args.bytes.now in
    let place = length bytes - 1 - c.args.tail in
    IfSome_then c.number_without.result c.number_without.ensures.joined
    (λ number joined. separated_worth c.args.format.now place bytes number (c.if-is_between.ensures.separator refl) c.requires.no_digit (omega (arith, c.if-tail-size.true)) joined)

pub returns-then-is_between-2-clause-grouped : goal.returns-then-is_between-2-clause-grouped
returns-then-is_between-2-clause-grouped g c =
    let bytes = c.args.bytes.now in
    let place = length bytes - 1 - c.args.tail in
    IfSome_then c.number_without_two.result c.number_without_two.ensures.joined
    (λ number joined. parted_grouped c.args.format.now (place - 4) place number bytes (c.if-is_between-2.ensures.separator refl) (c.if-is_between.ensures.internal refl) c.requires.no_digit
    (omega (arith, c.if-place-gt4.true)) (omega (arith, c.if-place-gt4.true)) (omega (arith, c.if-tail-size.true)) joined
    (c.if-is_between.ensures.separator refl) (omega (arith, c.requires.tail, c.if-tail-size.true)))

pub returns-then-is_between-2-clause-worth : goal.returns-then-is_between-2-clause-worth
returns-then-is_between-2-clause-worth g c =
    let bytes = c.args.bytes.now in
    let place = length bytes - 1 - c.args.tail in
    IfSome_then c.number_without_two.result c.number_without_two.ensures.joined
    (λ number joined. parted_worth c.args.format.now (place - 4) place number bytes (c.if-is_between-2.ensures.separator refl) (c.if-is_between.ensures.internal refl) c.requires.no_digit
    (omega (arith, c.if-place-gt4.true)) (omega (arith, c.if-place-gt4.true)) (omega (arith, c.if-tail-size.true)) joined
    (c.if-is_between.ensures.separator refl))

pub returns-clause-grouped : goal.returns-clause-grouped
returns-clause-grouped g c =
    let bytes = c.args.bytes.now in
    IfSome_then c.value_to_16.result c.value_to_16.ensures
    (λ number stands. digits_grouped c.args.format.now bytes c.requires.some (joined_digits _ bytes number stands).digits)

pub returns-clause-worth : goal.returns-clause-worth
returns-clause-worth g c =
    let bytes = c.args.bytes.now in
    IfSome_then c.value_to_16.result c.value_to_16.ensures (λ number stands. joined_worth bytes number (joined_digits _ bytes number stands))

pub returns-clause-small : goal.returns-clause-small
returns-clause-small g c =
    let bytes = c.args.bytes.now in
    IfSome_then c.value_to_16.result c.value_to_16.ensures
    (λ number stands. joined_small bytes number c.requires.few (joined_digits _ bytes number stands))
