use Rattle.std.proofs.Common.{◌≡◌, ◌∙◌, ◌-◌, suc, ap, arith, take, subst}
use Rattle.std.specs.Prelude.{IfSome}
use Rattle.lexical_digits.specs.WrittenNumbers.{WritesDecimal}
use Rattle.lexical_fixed.specs.Quick.{without}
use Rattle.lexical_tables.proofs.numerals.AmountBytes.{around_taken}
use Rattle.lexical_tables.proofs.amounts.number_around.Goals as goal

pub returns-clause-writes : goal.returns-clause-writes
returns-clause-writes c =
    let text = c.args.text.now in
    let n = c.args.count - 1 in
    let whole : suc n ≡ c.args.count = omega (arith, c.requires.within) in
    let same = ap (take n) c.bytes_without.ensures
    ∙ around_taken c.args.place n text (omega (arith, c.requires.within)) (omega (arith, c.requires.few)) c.requires.room
    ∙ ap (λ k. without c.args.place (take k text)) whole in
    subst (λ bytes. IfSome c.number_to_12.result (λ number. WritesDecimal 0 bytes number)) same c.number_to_12.ensures.writes
