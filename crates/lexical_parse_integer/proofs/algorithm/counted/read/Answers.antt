use Rattle.std.proofs.Common.{refl, sym, ◌∙◌}
use Rattle.std.proofs.lemmas.Result.{err_from_is_err_and}
use Rattle.lexical_parse_integer.proofs.Folds.{fact_of, folded}
use Rattle.lexical_parse_integer.proofs.reading.ParserAnswers.{sign_completes, sign_goes_part, prefix_alone, digit_fault, is_read, over_head, over_numeral, over_suffix, same_but_place}
use Rattle.lexical_parse_integer.proofs.bound.NumeralTurns.{each_behind_head, few_behind_head, no_turn_is_few}
use Rattle.lexical_parse_integer.proofs.algorithm.counted.read.Goals as goal

-- ---- a fault of the sign

pub returns-in_err-is_negative-clause-completes : goal.returns-in_err-is_negative-clause-completes
returns-in_err-is_negative-clause-completes g c =
    let p = err_from_is_err_and c.from_residual.result c.from_residual.ensures.1 in
    rw (p.1, p.2) (sign_completes _ _ _ _ c.in_err-is_negative.ensures.fault)

pub returns-in_err-is_negative-clause-goes_part : goal.returns-in_err-is_negative-clause-goes_part
returns-in_err-is_negative-clause-goes_part g c =
    let p = err_from_is_err_and c.from_residual.result c.from_residual.ensures.1 in
    rw (p.1, p.2) (sign_goes_part _ _ _ _ c.in_err-is_negative.ensures.fault)

pub returns-in_err-is_negative-clause-few : goal.returns-in_err-is_negative-clause-few
returns-in_err-is_negative-clause-few g c = folded (λ _. no_turn_is_few _ _ _ _ c.in_err-is_negative.ensures.no_turn)

pub returns-in_err-is_negative-clause-over : goal.returns-in_err-is_negative-clause-over
returns-in_err-is_negative-clause-over g c = folded c.in_err-is_negative.ensures.over

-- ---- a prefix alone

pub returns-then-is_prefix_alone-clause-over : goal.returns-then-is_prefix_alone-clause-over
returns-then-is_prefix_alone-clause-over g c = folded (over_head _ _ _ _ _ _ _ c.in_ok-is_negative.ensures.head (fact_of c.assert_invariant.ensures))

pub returns-then-is_prefix_alone-clause-completes : goal.returns-then-is_prefix_alone-clause-completes
returns-then-is_prefix_alone-clause-completes g c = (prefix_alone _ _ _ _ _ _ c.read_head.new.c c.in_ok-is_negative.ensures.head _ c.if-is_prefix_alone.ensures c.buffer_length.ensures).0

pub returns-then-is_prefix_alone-clause-goes_part : goal.returns-then-is_prefix_alone-clause-goes_part
returns-then-is_prefix_alone-clause-goes_part g c = (prefix_alone _ _ _ _ _ _ c.read_head.new.c c.in_ok-is_negative.ensures.head _ c.if-is_prefix_alone.ensures c.buffer_length.ensures).1

pub returns-then-is_prefix_alone-clause-few : goal.returns-then-is_prefix_alone-clause-few
returns-then-is_prefix_alone-clause-few g c = folded (λ _. no_turn_is_few _ _ _ _ c.in_ok-is_negative.ensures.head.no_turn)

-- ---- the numeral

pub read_numeral-requires : goal.read_numeral-requires
read_numeral-requires g c =
    let at = c.in_ok-is_negative.ensures.head in
    record { front = record { still_open = at.closed; sound = c.assert_invariant.ensures; none = at.no_digit }; minus = at.minus }

pub returns-in_err-value-clause-over : goal.returns-in_err-value-clause-over
returns-in_err-value-clause-over g c = folded (over_numeral _ _ _ _ _ _ _ _ c.in_ok-is_negative.ensures.head c.in_err-value.ensures.goes_on)

pub returns-in_err-value-clause-completes : goal.returns-in_err-value-clause-completes
returns-in_err-value-clause-completes g c =
    let p = err_from_is_err_and c.from_residual-in_err-value.result c.from_residual-in_err-value.ensures.1 in
    rw (p.1, p.2) (digit_fault _ _ _ _ _ _ c.read_head.new.c c.in_ok-is_negative.ensures.head _ c.if-is_prefix_alone.ensures c.in_err-value.ensures.fault).0

pub returns-in_err-value-clause-goes_part : goal.returns-in_err-value-clause-goes_part
returns-in_err-value-clause-goes_part g c =
    let p = err_from_is_err_and c.from_residual-in_err-value.result c.from_residual-in_err-value.ensures.1 in
    rw (p.1, p.2) (digit_fault _ _ _ _ _ _ c.read_head.new.c c.in_ok-is_negative.ensures.head _ c.if-is_prefix_alone.ensures c.in_err-value.ensures.fault).1

pub returns-in_err-value-clause-few : goal.returns-in_err-value-clause-few
returns-in_err-value-clause-few g c =
    folded (few_behind_head _ _ _ _ _ _ _ _ _ _ _ g.met.T.Integer.bits_law c.in_ok-is_negative.ensures.head c.in_err-value.ensures.turns refl)

-- ---- all is read

pub returns-clause-over : goal.returns-clause-over
returns-clause-over g c =
    folded (over_suffix _ _ _ _ _ _ _ _ _ _ c.in_ok-is_negative.ensures.head c.in_ok-value.ensures.goes_on c.read_suffix.ensures.after c.read_suffix.ensures.sound)

pub returns-clause-found : goal.returns-clause-found
returns-clause-found g c =
    folded (is_read _ _ _ _ _ _ _ _ _ _ _ c.in_ok-is_negative.ensures.head c.if-is_prefix_alone.ensures c.in_ok-value.ensures.goes_on c.in_ok-value.ensures.all c.read_suffix.ensures.at_end c.read_suffix.ensures.after)

pub returns-clause-each : goal.returns-clause-each
returns-clause-each g c =
    let kept = same_but_place c.read_suffix.result c.read_numeral.new.c c.read_suffix.new.self c.read_suffix.ensures.after in
    folded (λ single. kept.3 ∙ each_behind_head _ _ _ _ _ _ _ _ _ _ c.in_ok-is_negative.ensures.head c.in_ok-value.ensures.turns single ∙ sym kept.2)

pub returns-clause-few : goal.returns-clause-few
returns-clause-few g c =
    let kept = same_but_place c.read_suffix.result c.read_numeral.new.c c.read_suffix.new.self c.read_suffix.ensures.after in
    folded (few_behind_head _ _ _ _ _ _ _ _ _ _ _ g.met.T.Integer.bits_law c.in_ok-is_negative.ensures.head c.in_ok-value.ensures.turns kept.3)

-- ---- the cursor is the one that was handed in

pub returns-in_err-value-clause-same : goal.returns-in_err-value-clause-same
returns-in_err-value-clause-same g c = c.in_err-value.ensures.goes_on.identity ∙ c.in_ok-is_negative.ensures.same

pub returns-clause-same : goal.returns-clause-same
returns-clause-same g c =
    let kept = same_but_place c.read_suffix.result c.read_numeral.new.c c.read_suffix.new.self c.read_suffix.ensures.after in
    kept.4 ∙ c.in_ok-value.ensures.goes_on.identity ∙ c.in_ok-is_negative.ensures.same
