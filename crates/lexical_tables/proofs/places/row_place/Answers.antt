use Rattle.std.proofs.Common.{◌≡◌, ◌∙◌, ◌-◌, ap, arith, length, subst, sym}
use Rattle.std.proofs.lemmas.Bool.Decides.{nat_tests}
use Rattle.lexical_tables.specs.Places.{StandsAt, row_place}
use Rattle.lexical_tables.proofs.skipped.RowPlaces.{no_place, passed_goes, place_there, stands_there}
use Rattle.lexical_tables.proofs.places.row_place.Goals as goal

pub returns-then-count-row-clause-place : goal.returns-then-count-row-clause-place
returns-then-count-row-clause-place c =
    let d = c.args.dialect.now in
    let text = c.args.text.now in
    let behind = c.behind_row-behind.ensures in
    let is : c.loop-rest.count ≡ c.args.row = grind (arith, nat_tests) in
    sym (ap (λ k. row_place d k text) (sym is)
    ∙ place_there d text c.loop-rest.count c.loop-rest.rest.now c.loop-rest.invariant.0 c.behind_row-behind.result.now
    (record { shorter = behind.shorter; tail = behind.tail; rows_are = behind.rows; first_counts = behind.first }))

pub returns-then-count-row-clause-stands : goal.returns-then-count-row-clause-stands
returns-then-count-row-clause-stands c =
    let d = c.args.dialect.now in
    let text = c.args.text.now in
    let behind = c.behind_row-behind.ensures in
    let is : c.loop-rest.count ≡ c.args.row = grind (arith, nat_tests) in
    subst (λ k. StandsAt d k text (record {
      start = length text - length c.loop-rest.rest.now;
      stop = length text - length c.behind_row-behind.result.now;
    })) is
    (stands_there d text c.loop-rest.count c.loop-rest.rest.now c.loop-rest.invariant.0 c.behind_row-behind.result.now
    (record { shorter = behind.shorter; tail = behind.tail; rows_are = behind.rows; first_counts = behind.first }))

pub loop-rest-preserved : goal.loop-rest-preserved
loop-rest-preserved c =
    let d = c.args.dialect.now in
    let text = c.args.text.now in
    let behind = c.behind_row-behind.ensures in (
      passed_goes d text c.loop-rest.count c.loop-rest.rest.now c.loop-rest.invariant.0 c.behind_row-behind.result.now
          (record { shorter = behind.shorter; tail = behind.tail; rows_are = behind.rows; first_counts = behind.first }),
      grind (arith, nat_tests),
    )

pub returns-clause-place : goal.returns-clause-place
returns-clause-place c =
    sym (no_place c.args.dialect.now c.args.text.now c.loop-rest.count c.args.row c.loop-rest.rest.now
    c.loop-rest.invariant.0 (grind (arith, nat_tests)) c.loop-rest.invariant.1)
