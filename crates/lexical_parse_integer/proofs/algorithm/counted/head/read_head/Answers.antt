use Rattle.std.proofs.lemmas.Result.{err_from_is_err_and}
use Rattle.std.proofs.Common.{◌≡◌, ◌≤◌, ap, sym, ◌∙◌, arith}
use Rattle.lexical_parse_integer.specs.Affixes.{prefix_radix}
use Rattle.lexical_parse_integer.specs.CursorView.{CursorView}
use Rattle.lexical_parse_integer.proofs.Folds.{fact_of}
use Rattle.lexical_parse_integer.proofs.reading.ParserAnswers.{is_fresh, over_same, sign_short, stays_bare, head_fault, at_prefix, at_bare, identity_behind, identity_octal}
use Rattle.lexical_parse_integer.proofs.algorithm.counted.head.read_head.Goals as goal

pub returns-in_err-is_negative-clause-fault : goal.returns-in_err-is_negative-clause-fault
returns-in_err-is_negative-clause-fault g c =
    let p = err_from_is_err_and c.from_residual.result c.from_residual.ensures.1 in
    rw (p.1, p.2) (head_fault _ _ _ _ (sym c.in_err-is_negative.ensures.answer))

pub read_prefix-requires-clause-front : goal.read_prefix-requires-clause-front
read_prefix-requires-clause-front g c = sign_short _ _ _ _ (sym c.in_ok-is_negative.ensures.answer)

pub read_prefix-requires-clause-no_digit : goal.read_prefix-requires-clause-no_digit
read_prefix-requires-clause-no_digit g c =
    let fresh = is_fresh c.args.c.now (fact_of c.assert_invariant.ensures) c.requires in
    ap (λ (v : CursorView). v.digits) c.in_ok-is_negative.ensures.moved ∙ fresh.no_digit

pub read_octal_zero-is_octal-requires-clause-front : goal.read_octal_zero-is_octal-requires-clause-front
read_octal_zero-is_octal-requires-clause-front g c =
    let same = stays_bare _ c.args.c.now c.parse_sign.new.c _ (is_fresh c.args.c.now (fact_of c.assert_invariant.ensures) c.requires) (sym c.in_ok-is_negative.ensures.answer) c.in_ok-is_negative.ensures.moved c.read_prefix.new.self c.if-read_prefix.ensures.answer c.if-read_prefix.ensures.after in
    let at : c.read_prefix.new.self.position ≡ c.parse_sign.new.c.position = ap (λ (v : CursorView). v.position) same in
    let short : c.parse_sign.new.c.position ≤ 1 = sign_short _ _ _ _ (sym c.in_ok-is_negative.ensures.answer) in
    omega arith

pub read_octal_zero-is_octal-requires-clause-no_digit : goal.read_octal_zero-is_octal-requires-clause-no_digit
read_octal_zero-is_octal-requires-clause-no_digit g c =
    let fresh = is_fresh c.args.c.now (fact_of c.assert_invariant.ensures) c.requires in
    let same = stays_bare _ c.args.c.now c.parse_sign.new.c _ fresh (sym c.in_ok-is_negative.ensures.answer) c.in_ok-is_negative.ensures.moved c.read_prefix.new.self c.if-read_prefix.ensures.answer c.if-read_prefix.ensures.after in
    ap (λ (v : CursorView). v.digits) same ∙ ap (λ (v : CursorView). v.digits) c.in_ok-is_negative.ensures.moved ∙ fresh.no_digit

pub returns-then-read_prefix-clause-head : goal.returns-then-read_prefix-clause-head
returns-then-read_prefix-clause-head g c =
    at_prefix _ c.args.c.now c.parse_sign.new.c _ (is_fresh c.args.c.now (fact_of c.assert_invariant.ensures) c.requires) (sym c.in_ok-is_negative.ensures.answer) c.in_ok-is_negative.ensures.moved c.read_prefix.new.self c.if-read_prefix.ensures.answer c.if-read_prefix.ensures.after

pub returns-clause-head : goal.returns-clause-head
returns-clause-head g c =
    at_bare _ c.args.c.now c.parse_sign.new.c _ (is_fresh c.args.c.now (fact_of c.assert_invariant.ensures) c.requires) (sym c.in_ok-is_negative.ensures.answer) c.in_ok-is_negative.ensures.moved c.read_prefix.new.self c.read_octal_zero-is_octal.new.self _ c.if-read_prefix.ensures.answer c.if-read_prefix.ensures.after c.read_octal_zero-is_octal.ensures.answer c.read_octal_zero-is_octal.ensures.after

pub returns-in_err-is_negative-clause-no_turn : goal.returns-in_err-is_negative-clause-no_turn
returns-in_err-is_negative-clause-no_turn g c =
    let p = err_from_is_err_and c.from_residual.result c.from_residual.ensures.1 in
    let fresh = is_fresh c.args.c.now (fact_of c.assert_invariant.ensures) c.requires in
    rw p.1 (ap (λ (v : CursorView). v.turns) c.in_err-is_negative.ensures.unmoved ∙ fresh.no_turn)

pub returns-in_err-is_negative-clause-over : goal.returns-in_err-is_negative-clause-over
returns-in_err-is_negative-clause-over g c =
    let p = err_from_is_err_and c.from_residual.result c.from_residual.ensures.1 in
    rw p.1 (over_same c.args.c.now c.parse_sign.new.c (fact_of c.assert_invariant.ensures) c.in_err-is_negative.ensures.unmoved)

pub returns-in_err-is_negative-clause-same : goal.returns-in_err-is_negative-clause-same
returns-in_err-is_negative-clause-same g c = ap (λ (v : CursorView). v.identity) c.in_err-is_negative.ensures.unmoved

pub returns-then-read_prefix-clause-same : goal.returns-then-read_prefix-clause-same
returns-then-read_prefix-clause-same g c =
    let v = c.parse_sign.new.c in
    identity_behind v c.read_prefix.new.self (prefix_radix v.format v.bytes v.position) c.if-read_prefix.ensures.after
    ∙ ap (λ (v : CursorView). v.identity) c.in_ok-is_negative.ensures.moved

pub returns-clause-same : goal.returns-clause-same
returns-clause-same g c =
    let v = c.parse_sign.new.c in
    identity_octal c.read_octal_zero-is_octal.result c.read_prefix.new.self c.read_octal_zero-is_octal.new.self c.read_octal_zero-is_octal.ensures.after
    ∙ identity_behind v c.read_prefix.new.self (prefix_radix v.format v.bytes v.position) c.if-read_prefix.ensures.after
    ∙ ap (λ (v : CursorView). v.identity) c.in_ok-is_negative.ensures.moved
