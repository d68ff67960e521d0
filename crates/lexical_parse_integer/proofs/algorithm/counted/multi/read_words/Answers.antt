use Rattle.std.proofs.Common.{◌≡◌, ◌+◌, ◌^◌, ◌≤◌, ◌<◌, ◌↔◌, ℕ, Bool, false, IsTrue, pos, refl, sym, ap, ◌∙◌, subst, arith, inl, inr, None}
use Rattle.std.proofs.Math.Nat.{one-le-pow}
use Rattle.std.proofs.lemmas.Bool.{cases_lt, false≢true}
use Rattle.std.proofs.lemmas.Int.{ints}
use Rattle.lexical_util.specs.Format.{Format}
use Rattle.lexical_util.specs.Number.{HasRoom, mul_add}
use Rattle.lexical_parse_integer.specs.CursorView.{CursorView}
use Rattle.lexical_parse_integer.specs.Reading.{MovesOn}
use Rattle.lexical_parse_integer.specs.Turns.{digits_per_word}
use Rattle.lexical_parse_integer.proofs.Folds.{fact_of}
use Rattle.lexical_parse_integer.proofs.reading.Soundness.{none_from_IsNone}
use Rattle.lexical_parse_integer.proofs.bound.TurnBound.{turn_of_word, word_some}
use Rattle.lexical_parse_integer.proofs.bound.WordSteps.{ReadsWord, reads_word, goes_on_word, few_left_from}
use Rattle.lexical_parse_integer.proofs.algorithm.counted.multi.read_words.Goals as goal
use Rattle.lexical_parse_integer.proofs.algorithm.counted.multi.read_words.Given.{Over}

-- where the test for room fails
no_room : (test : Bool) (digits word most : ℕ) → (IsTrue test ↔ (digits + word ≤ most)) → test ≡ false → most < digits + word
no_room test digits word most says fails = elim (cases_lt most (digits + word)) [ inl l ↦ l | inr l ↦ absurd (false≢true (sym fails ∙ says.1 l)) ]

pub mul_add-value-requires-clause-scale : goal.mul_add-value-requires-clause-scale
mul_add-value-requires-clause-scale g c =
    let two = (fact_of c.requires.ready.sound).radix.low in
    let one = one-le-pow (digits_per_word g.T.Integer.BITS) c.args.c.now.radix (omega arith) in
    rw c.loop-scale.invariant.scale (omega (arith, ints))

the_word : (g : Over) (c : goal.In-Some g) → ReadsWord g.T.Integer.TYPE.bits g.T.Integer.TYPE.is_signed c.args.is_negative c.args.c.now c.loop-scale.c (digits_per_word g.T.Integer.BITS) (mul_add c.args.is_negative (g.T.Integer.number c.loop-scale.value) (g.T.Integer.number c.word_scale-scale.result) (g.T.Integer.number c.in-Some.word))
the_word g c =
    let i = c.loop-scale.invariant in
    let same : c.loop-scale.c.radix ≡ c.args.c.now.radix = i.goes_on.radix in
    let none : c.loop-scale.c.format.digit_separator ≡ None = ap (λ (f : Format). f.digit_separator) i.goes_on.format ∙ none_from_IsNone _ c.requires.contiguous in
    let room = subst (λ (r : ℕ). HasRoom g.T.Integer.TYPE r c.args.most) (sym same) c.requires.room in
    let le : c.digits.result + digits_per_word g.T.Integer.BITS ≤ c.args.most = c.has_room.ensures.0 c.loop-scale-test.true in
    let count = c.digits.ensures in
    let ten = c.requires.radix in
    reads_word _ _ c.args.is_negative c.args.c.now c.loop-scale.c (digits_per_word g.T.Integer.BITS) c.args.most _ _ _ (word_some g.T.Integer.BITS) i.goes_on (omega arith) room c.requires.ready.minus (omega arith) (c.in-Some.ensures.digits.0 refl) i.reads
    (i.scale ∙ ap (λ r. pos (r ^ digits_per_word g.T.Integer.BITS)) (sym same)) c.in-Some.ensures.value

pub mul_add-value-requires-clause-fits : goal.mul_add-value-requires-clause-fits
mul_add-value-requires-clause-fits g c = (the_word g c).fits

pub loop-scale-smaller : goal.loop-scale-smaller
loop-scale-smaller g c =
    let digits : c.try_parse_word.new.c.digits ≡ c.loop-scale.c.digits + digits_per_word g.T.Integer.BITS = ap (λ (v : CursorView). v.digits) c.in-Some.ensures.moved in
    let le : c.digits.result + digits_per_word g.T.Integer.BITS ≤ c.args.most = c.has_room.ensures.0 c.loop-scale-test.true in
    let count = c.digits.ensures in
    let some = word_some g.T.Integer.BITS in
    omega arith

pub loop-scale-preserved : goal.loop-scale-preserved
loop-scale-preserved g c =
    let i = c.loop-scale.invariant in
    let digits : c.try_parse_word.new.c.digits ≡ c.loop-scale.c.digits + digits_per_word g.T.Integer.BITS = ap (λ (v : CursorView). v.digits) c.in-Some.ensures.moved in
    let turns : c.try_parse_word.new.c.turns ≡ c.loop-scale.c.turns + 1 = ap (λ (v : CursorView). v.turns) c.in-Some.ensures.moved in
    let le : c.digits.result + digits_per_word g.T.Integer.BITS ≤ c.args.most = c.has_room.ensures.0 c.loop-scale-test.true in
    let count = c.digits.ensures in
    record {
      goes_on = goes_on_word c.args.c.now c.loop-scale.c c.try_parse_word.new.c (digits_per_word g.T.Integer.BITS) i.goes_on c.in-Some.ensures.sound c.in-Some.ensures.moved;
      reads = rw (c.mul_add-value.ensures, digits) (the_word g c.before).reads;
      turns = turn_of_word (digits_per_word g.T.Integer.BITS) _ _ _ _ _ _ i.turns digits turns;
      within = inr (omega arith);
      scale = i.scale;
      sign = i.sign;
    }

pub returns-in-None : goal.returns-in-None
returns-in-None g c =
    let i = c.loop-scale.invariant in
    let same : c.try_parse_word.new.c ≡ c.loop-scale.c = c.in-None.ensures.moved in
    let none : c.loop-scale.c.format.digit_separator ≡ None = ap (λ (f : Format). f.digit_separator) i.goes_on.format ∙ none_from_IsNone _ c.requires.contiguous in
    let digits : c.try_parse_word.new.c.digits ≡ c.loop-scale.c.digits = ap (λ (v : CursorView). v.digits) same in
    let turns : c.try_parse_word.new.c.turns ≡ c.loop-scale.c.turns = ap (λ (v : CursorView). v.turns) same in
    let few = few_left_from c.args.c.now c.loop-scale.c (digits_per_word g.T.Integer.BITS) i.goes_on none (λ all. false≢true (c.in-None.ensures.digits.1 all)) in
    record {
      words = record {
        reads = rw digits i.reads;
        goes_on = subst (MovesOn c.args.c.now) (sym same) i.goes_on;
        turns = rw (digits, turns) i.turns;
        within = rw digits i.within;
        ended = inr (omega arith);
      };
    }

pub returns : goal.returns
returns g c =
    let i = c.loop-scale.invariant in
    let count = c.digits.ensures in
    let full : c.args.most < c.digits.result + digits_per_word g.T.Integer.BITS = no_room _ _ _ _ c.has_room.ensures c.loop-scale-test.false in
    record {
      words = record {
        reads = i.reads;
        goes_on = i.goes_on;
        turns = i.turns;
        within = i.within;
        ended = inl (omega arith);
      };
    }
