use Rattle.std.proofs.Common.{◌==◌, ◌≡◌, ◌*◌, ◌-◌, ◌^◌, ◌∙◌, ap, arith, get_or, length, length-drop, refl, subst, sym, take, true}
use Rattle.lexical_tables.specs.Amounts.{IsAmount}
use Rattle.std.proofs.lemmas.Bool.Decides.{nat_tests}
use Rattle.lexical_digits.proofs.WordsInFront.{rest_is}
use Rattle.lexical_tables.proofs.numerals.AmountTexts.{all_behind, front_amount}
use Rattle.lexical_tables.proofs.amounts.units_of_front.Goals as goal

pub returns-clause-stands : goal.returns-clause-stands
returns-clause-stands c =
    let takes : c.args.takes_fewer ≡ true = grind (arith, nat_tests) in
    subst (λ t. IsAmount c.args.point c.args.places t (get_or c.args.text.now 0 0 == 45) (c.in_ok-number-2.number * c.power_of_ten.result) (take c.args.size c.args.text.now)) (sym takes)
    (front_amount c.args.point c.args.places true (get_or c.args.text.now 0 0 == 45) c.args.text.now _ c.args.size
    _ c.from.result c.count_behind-behind.result c.in_ok-number-2.number c.power_of_ten.result
    c.from.ensures (rest_is c.args.text.now c.from.result)
    (grind (arith, nat_tests, c.if-count-gt12.false, c.from.ensures, c.from-2.ensures)) (grind (arith, nat_tests, c.if-count-gt12.false))
    (omega (arith, c.requires.room)) refl c.count_behind-behind.ensures c.in_ok-number-2.ensures.writes c.power_of_ten.ensures.value c.front_digits.ensures)

pub returns-then-stands_before-clause-stands : goal.returns-then-stands_before-clause-stands
returns-then-stands_before-clause-stands c =
    let text = c.args.text.now in
    let p = c.args.places in
    let b = get_or text 0 0 == 45 in
    let number = c.in_ok-number.number in
    let found = c.if-stands_before.ensures refl in
    let long = ap length (rest_is text c.from.result) ∙ length-drop c.from.result text in
    let none : p - p ≡ 0 = omega arith in
    let one : 1 ≡ 10 ^ (p - p) = sym (ap (λ n. 10 ^ n) none) in
    let same : number * 1 ≡ number = omega arith in
    subst (λ units. IsAmount c.args.point p c.args.takes_fewer b units (take c.args.size text)) same
    (front_amount c.args.point p c.args.takes_fewer b text _ c.args.size _ c.from.result p number 1
    c.from.ensures (rest_is text c.from.result)
    (grind (arith, nat_tests, c.if-count-gt12.false, c.from.ensures, c.from-2.ensures)) (grind (arith, nat_tests, c.if-count-gt12.false))
    (omega (arith, c.requires.room)) refl (all_behind c.args.point p c.args.takes_fewer _ _
    (grind (arith, nat_tests, c.if-count-gt12.false, c.from.ensures, c.from-2.ensures, c.requires.room, long)) found.0 found.1) c.in_ok-number.ensures.writes one c.front_digits.ensures)
