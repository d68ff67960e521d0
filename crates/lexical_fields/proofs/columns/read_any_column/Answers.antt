use Rattle.std.proofs.Common.{◌≡◌, ◌≤◌, ◌<◌, ◌+◌, ◌-◌, ◌∙◌, ℕ, zero, suc, List, [], ◌∷◌, ap, take, drop, length, length-drop, refl, subst, sym, arith, inl, inr, Err}
use Rattle.std.specs.Prelude.{IfSome, IsNone, None}
use Rattle.std.proofs.lemmas.Bool.{cases_lt}
use Rattle.lexical_parse_integer.specs.Grammar.{complete}
use Rattle.lexical_fields.specs.Columns.{outcome_at}
use Rattle.lexical_fields.specs.Fields.{field_length}
use Rattle.lexical_fields.proofs.ColumnSteps.{IsRead, read_all, read_fault, read_full, reading_starts}
use Rattle.lexical_fields.proofs.FieldAnswers.{answered, fault_within, place_fits, valid_of}
use Rattle.lexical_fields.proofs.columns.read_any_column.Goals as goal

take_within : (n : ℕ) (bytes : List ℕ) → length (take n bytes) ≤ length bytes
take_within zero bytes = omega arith
take_within (suc n) [] = omega arith
take_within (suc n) (b ∷ bs) = let shorter = take_within n bs in omega arith

pub overflow_sub-start : goal.overflow_sub-start
overflow_sub-start g c =
    let reading = c.read_any_format-count.ensures.reading c.args.text.now c.args.values.now
    (reading_starts _ g.T.Integer.number c.args.format.now g.T.Integer.TYPE c.args.separator c.args.text.now c.args.values.now) in
    reading.within

pub error_in_text-requires : goal.error_in_text-requires
error_in_text-requires g c =
    let rest = c.read_any_format-count.result.1.now in
    let field = take (field_length c.args.separator rest) rest in
    let reading = c.read_any_format-count.ensures.reading c.args.text.now c.args.values.now
    (reading_starts _ g.T.Integer.number c.args.format.now g.T.Integer.TYPE c.args.separator c.args.text.now c.args.values.now) in
    let told : Err c.in-Some.error ≡ complete c.args.format.now g.T.Integer.TYPE field =
    subst (λ found. IfSome found (λ error. Err error ≡ complete c.args.format.now g.T.Integer.TYPE field)) c.in-Some.is
    c.read_any_format-count.ensures.fault in
    place_fits (length c.args.text.now - length rest) (length field) c.in-Some.error
    (fault_within (length field) _ c.in-Some.error told (c.fault_places.ensures.whole c.args.format.now g.T.Integer.TYPE field))
    (omega (arith, reading.within, take_within (field_length c.args.separator rest) rest))

pub returns-in-Some : goal.returns-in-Some
returns-in-Some g c =
    let rest = c.read_any_format-count.result.1.now in
    let field = take (field_length c.args.separator rest) rest in
    let start = length c.args.text.now - length rest in
    let reading = c.read_any_format-count.ensures.reading c.args.text.now c.args.values.now
    (reading_starts _ g.T.Integer.number c.args.format.now g.T.Integer.TYPE c.args.separator c.args.text.now c.args.values.now) in
    let told : Err c.in-Some.error ≡ complete c.args.format.now g.T.Integer.TYPE field =
    subst (λ found. IfSome found (λ error. Err error ≡ complete c.args.format.now g.T.Integer.TYPE field)) c.in-Some.is
    c.read_any_format-count.ensures.fault in
    let room = subst (λ found. IfSome found (λ error. c.read_any_format-count.result.0 < length c.read_any_format-count.new.values)) c.in-Some.is
    c.read_any_format-count.ensures.room in
    let more = subst (λ found. IfSome found (λ error. 0 < length rest)) c.in-Some.is c.read_any_format-count.ensures.more in
    let shorter = length-drop (field_length c.args.separator rest + 1) rest in
    let r = read_fault _ g.T.Integer.number c.args.format.now g.T.Integer.TYPE c.args.separator
    c.args.text.now c.args.values.now c.read_any_format-count.new.values c.read_any_format-count.result.0 rest
    reading field (drop (field_length c.args.separator rest + 1) rest) c.error_in_text.result (valid_of _ c.requires.valid)
    (omega (arith, room, reading.size)) more refl refl (omega (arith, shorter))
    (ap Err c.error_in_text.ensures
    ∙ answered c.args.format.now g.T.Integer.TYPE start field (Err c.in-Some.error) c.requires.valid told) in
    record { answer = r.answer_is; numbers = r.numbers_are; rest = r.rest_is; size = r.size_is; goes_on = tt }

pub returns-in-None : goal.returns-in-None
returns-in-None g c =
    let rest = c.read_any_format-count.result.1.now in
    let count = c.read_any_format-count.result.0 in
    let values = c.read_any_format-count.new.values in
    let reading = c.read_any_format-count.ensures.reading c.args.text.now c.args.values.now
    (reading_starts _ g.T.Integer.number c.args.format.now g.T.Integer.TYPE c.args.separator c.args.text.now c.args.values.now) in
    let ends : IsRead _ g.T.Integer.number c.args.format.now g.T.Integer.TYPE c.args.separator c.args.text.now
    c.args.values.now values (outcome_at count (length c.args.text.now - length rest) None) =
    elim (cases_lt count (length values)) [
      | inl low ↦ read_all _ g.T.Integer.number c.args.format.now g.T.Integer.TYPE c.args.separator
          c.args.text.now c.args.values.now values count rest reading (valid_of _ c.requires.valid)
          (omega (arith, low, reading.size))
          (c.read_any_format-count.ensures.done (subst IsNone (sym c.in-None.is) refl) low)
      | inr full ↦ read_full _ g.T.Integer.number c.args.format.now g.T.Integer.TYPE c.args.separator
          c.args.text.now c.args.values.now values count rest reading (valid_of _ c.requires.valid)
          (omega (arith, full, reading.size, c.read_any_format-count.ensures.within))
    ] in
    record {
      answer = ends.answer_is;
      numbers = ends.numbers_are;
      rest = ends.rest_is;
      size = ends.size_is;
      goes_on = ends.goes_on;
    }
