use Rattle.std.proofs.Common.{◌≡◌, ◌+◌, refl, ◌∙◌, sym, ap, arith}
use Rattle.std.specs.Option.{option_or}
use Rattle.std.proofs.lemmas.Bool.{false≢true}
use Rattle.std.proofs.lemmas.Result.{IfOk-weaker, MatchResult-weaker}
use Rattle.lexical_parse_integer.specs.CursorView.{CursorView, numeral_of}
use Rattle.lexical_parse_integer.specs.Grammar.{range_fault}
use Rattle.lexical_parse_integer.proofs.Folds.{fact_of}
use Rattle.lexical_parse_integer.proofs.reading.Soundness.{none_from_IsNone}
use Rattle.lexical_parse_integer.proofs.reading.DigitLoop.{digit_below}
use Rattle.lexical_parse_integer.proofs.reading.FirstDigit.{no_zero_here, no_digit_no_zeros, other_first, leading_zeros, reads_first, leaves_first, zero_taken, zero_ahead_told, reads_nothing, reads_lone_zero, looks_at_digit, looks_further}
use Rattle.lexical_parse_integer.proofs.algorithm.counted.zeros.read_first_digit.Goals as goal
use Rattle.lexical_parse_integer.proofs.algorithm.counted.zeros.read_first_digit.Goals.{else-is_contiguous-via-then-is_contiguous+else-ne, else-is_contiguous-via-else-is_contiguous}

pub returns-then-has_more-clause-fault : goal.returns-then-has_more-clause-fault
returns-then-has_more-clause-fault g c =
    let at = c.place-place.ensures in
    let behind : c.read_digit.new.self.position ≡ c.in-Some.ensures.step.place + 1 = ap (λ (v : CursorView). v.position) c.in-Some.ensures.step.after in
    ap (λ z. option_or z (range_fault g.T.Integer.TYPE c.args.is_negative (numeral_of c.args.c.now)))
    (leading_zeros c.args.c.now c.read_digit.new.self c.in-Some.digit (fact_of c.requires.front.sound) c.requires.front.still_open c.requires.front.none c.in-Some.ensures.step c.in-Some.ensures.sound
    c.args.radix_chosen _ c.if-digit-eq0.true (cc (c.no_integer_leading_zeros.ensures, c.format.ensures)) c.if-radix_chosen.false (omega arith) c.if-has_more.ensures.answer)

pub join_checked-requires-clause-digit : goal.join_checked-requires-clause-digit
join_checked-requires-clause-digit g c = digit_below _ _ c.in-Some.digit c.radix.result c.in-Some.ensures.step c.radix.ensures

pub returns-clause-fault : goal.returns-clause-fault
returns-clause-fault g c =
    let at = c.place-place.ensures in
    let behind : c.read_digit.new.self.position ≡ c.in-Some.ensures.step.place + 1 = ap (λ (v : CursorView). v.position) c.in-Some.ensures.step.after in
    MatchResult-weaker c.join_checked.result c.join_checked.ensures.leaves (λ x h. h) (λ e h. leaves_first _ c.args.is_negative c.args.radix_chosen c.args.c.now c.read_digit.new.self c.in-Some.digit c.radix.result _ _ e (fact_of c.requires.front.sound) c.requires.front.still_open c.requires.front.none c.in-Some.ensures.step c.if-digit-eq0.false (ap g.T.Integer.number c.ZERO-2.ensures ∙ g.met.T.Integer.zero_law) c.radix.ensures (omega arith) h.0 h.1)

pub returns-then-ne-clause-first : goal.returns-then-ne-clause-first
returns-then-ne-clause-first g c =
    let none = none_from_IsNone _ (c.is_contiguous.ensures.0 c.if-is_contiguous.true) in
    reads_nothing _ _ c.args.radix_chosen c.args.c.now c.args.c.now _ c.requires.front.none (ap g.T.Integer.number c.ZERO-then-ne.ensures ∙ g.met.T.Integer.zero_law)
    (no_zero_here c.args.c.now c.args.radix_chosen (fact_of c.requires.front.sound) c.requires.front.still_open none c.requires.front.none (λ zero. let t = rw (c.first.ensures ∙ zero) at c.if-ne.ensures in false≢true (sym t)))

pub returns-in-None-clause-first : goal.returns-in-None-clause-first
returns-in-None-clause-first g c =
    let digits : c.read_digit.new.self.digits ≡ c.args.c.now.digits = ap (λ (v : CursorView). v.digits) c.in-None.ensures.step.after in
    reads_nothing _ _ c.args.radix_chosen c.args.c.now c.read_digit.new.self _ (digits ∙ c.requires.front.none) (ap g.T.Integer.number c.ZERO-in-None.ensures ∙ g.met.T.Integer.zero_law)
    (no_digit_no_zeros c.args.c.now c.read_digit.new.self c.args.radix_chosen (fact_of c.requires.front.sound) c.requires.front.still_open c.requires.front.none c.in-None.ensures.step)

pub returns-then-digit-eq0-clause-first : goal.returns-then-digit-eq0-clause-first
returns-then-digit-eq0-clause-first g c =
    reads_lone_zero _ _ c.args.radix_chosen c.args.c.now c.read_digit.new.self c.has_more.new.c c.in-Some.digit _ c.requires.front c.in-Some.ensures.step c.in-Some.ensures.sound
    c.if-digit-eq0.true (ap g.T.Integer.number c.ZERO-then-digit-eq0.ensures ∙ g.met.T.Integer.zero_law) (c.if-has_more.ensures.digits refl) c.if-has_more.ensures.answer

pub returns-then-digit-eq0-clause-ahead : goal.returns-then-digit-eq0-clause-ahead
returns-then-digit-eq0-clause-ahead g c =
    looks_further c.args.c.now c.read_digit.new.self c.has_more.new.c (looks_at_digit c.args.c.now c.read_digit.new.self c.in-Some.digit c.requires.front c.in-Some.ensures.step c.in-Some.ensures.sound)
    c.if-has_more.ensures.goes_on (c.if-has_more.ensures.digits refl) c.if-has_more.ensures.turns

pub returns-clause-ahead : goal.returns-clause-ahead
returns-clause-ahead g c = looks_at_digit c.args.c.now c.read_digit.new.self c.in-Some.digit c.requires.front c.in-Some.ensures.step c.in-Some.ensures.sound

pub returns-clause-first : goal.returns-clause-first
returns-clause-first g c =
    IfOk-weaker c.join_checked.result _ _ (λ x h. record {
      reads = reads_first _ c.args.is_negative c.args.c.now c.read_digit.new.self c.in-Some.digit c.radix.result _ _ (fact_of c.requires.front.sound) c.requires.front.still_open c.requires.front.none c.in-Some.ensures.step (ap g.T.Integer.number c.ZERO-2.ensures ∙ g.met.T.Integer.zero_law) c.radix.ensures h.0 h.1;
      no_zeros = other_first c.args.c.now c.read_digit.new.self c.in-Some.digit c.args.radix_chosen (fact_of c.requires.front.sound) c.requires.front.still_open c.requires.front.none c.in-Some.ensures.step c.if-digit-eq0.false;
      lone = λ none. elim c.else-is_contiguous.branch [
        | else-is_contiguous-via-then-is_contiguous+else-ne w ↦
            absurd (c.if-digit-eq0.false (zero_taken c.args.c.now c.read_digit.new.self c.in-Some.digit (fact_of c.requires.front.sound) c.in-Some.ensures.step (sym w.first.ensures ∙ zero_ahead_told w.first.result w.ne.result w.ne.ensures w.if-ne.false)))
        | else-is_contiguous-via-else-is_contiguous w ↦ absurd (false≢true (sym w.if-is_contiguous.false ∙ c.is_contiguous.ensures.1 none))
      ];
    }) c.join_checked.ensures.fits

pub join_checked-requires-clause-radix : goal.join_checked-requires-clause-radix
join_checked-requires-clause-radix g c = rw c.radix.ensures (fact_of c.in-Some.ensures.sound).radix
