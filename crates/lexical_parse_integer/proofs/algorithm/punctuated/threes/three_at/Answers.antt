use Rattle.std.proofs.Common.{ℕ, ◌≡◌, ◌+◌, ◌-◌, get_or, ap, arith, sym, subst, Some, ◌∙◌}
use Rattle.std.specs.Prelude.{IfSome}
use Rattle.lexical_util.specs.Digit.{digit}
use Rattle.lexical_parse_integer.proofs.punctuated.Threes.{in_four}
use Rattle.lexical_digits.proofs.LongNumbers.{if_found}
use Rattle.lexical_parse_integer.proofs.algorithm.punctuated.threes.three_at.Goals as goal

pub returns-clause-parted : goal.returns-clause-parted
returns-clause-parted c =
    let place : c.args.place + 0 ≡ c.args.place = omega arith in
    let same = ap (λ (k : ℕ). get_or c.args.bytes.now k 0) (sym place) ∙ sym (in_four c.args.bytes.now c.args.place 0 (omega arith)) in
    if_found c.group_value.result (λ n below. same ∙ c.if-t-separator.false) c.group_value.ensures.small

pub returns-clause-first : goal.returns-clause-first
returns-clause-first c = subst (λ (b : ℕ). IfSome c.group_value.result (λ n. digit 10 b ≡ Some (b - 48))) (in_four c.args.bytes.now c.args.place 1 (omega arith)) c.group_value.ensures.first

pub returns-clause-second : goal.returns-clause-second
returns-clause-second c = subst (λ (b : ℕ). IfSome c.group_value.result (λ n. digit 10 b ≡ Some (b - 48))) (in_four c.args.bytes.now c.args.place 2 (omega arith)) c.group_value.ensures.second

pub returns-clause-third : goal.returns-clause-third
returns-clause-third c = subst (λ (b : ℕ). IfSome c.group_value.result (λ n. digit 10 b ≡ Some (b - 48))) (in_four c.args.bytes.now c.args.place 3 (omega arith)) c.group_value.ensures.third

pub returns-clause-value : goal.returns-clause-value
returns-clause-value c =
    let first = in_four c.args.bytes.now c.args.place 1 (omega arith) in
    let second = in_four c.args.bytes.now c.args.place 2 (omega arith) in
    let third = in_four c.args.bytes.now c.args.place 3 (omega arith) in
    if_found c.group_value.result (λ n is. omega (arith, is, first, second, third)) c.group_value.ensures.value

pub returns-clause-small : goal.returns-clause-small
returns-clause-small c = c.group_value.ensures.small
