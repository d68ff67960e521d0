use Rattle.std.proofs.Common.{◌∙◌, ◌+◌, ◌-◌, ◌≡◌, ◌≢◌, ap, arith, drop, get_or, length, sym, take, true}
use Rattle.std.proofs.lemmas.Bool.Decides.{nat_tests}
use Rattle.std.proofs.lemmas.List.{drop-drop}
use Rattle.lexical_tables.specs.Quotes.{length_outside}
use Rattle.lexical_tables.specs.Rows.{carriage_return, line_feed, takes_returns}
use Rattle.lexical_tables.proofs.PassSteps.{cells_end, cells_go, line_behind, no_return_at, row_goes, row_is}
use Rattle.lexical_tables.proofs.next_part.part_to.Goals as goal

pub returns-then-left-end-ne10-clause-part : goal.returns-then-left-end-ne10-clause-part
returns-then-left-end-ne10-clause-part c =
    let d = c.args.dialect.now in
    let s = c.args.separator in
    let text = c.args.text.now in
    let left = c.args.left.now in
    let r = c.args.end in
    let other : get_or left r 0 ≢ line_feed = grind (arith, nat_tests) in
    let found = c.requires.end in record {
      room = found.room;
      within = found.room;
      cells = λ start column. cells_go d s c.requires.marked start text left c.requires.here r found.room (found.cell other)
          (found.parts other) (found.before other) column;
      goes = λ not_last. row_goes d s c.requires.marked 0 text left c.requires.here r found.room (found.cell other)
          (found.parts other) (found.before other) (found.behind other);
      row = λ last. absurd cc;
      line = λ last. absurd cc;
    }

pub returns-clause-part : goal.returns-clause-part
returns-clause-part c =
    let d = c.args.dialect.now in
    let s = c.args.separator in
    let text = c.args.text.now in
    let left = c.args.left.now in
    let r = c.args.end in
    let size = c.last_size-size.result in
    let is : get_or left r 0 ≡ line_feed = grind (arith, nat_tests) in
    let found = c.requires.end in
    let sized = c.last_size-size.ensures in
    let takes = c.takes_returns.ensures in
    let returned : size ≢ r → (size + 1 ≡ r) × (get_or left size 0 ≡ carriage_return) × (takes_returns d ≡ true) =
    λ other. let less = sized.returned other in (less.0, less.1, sym takes ∙ less.2) in
    let at : length text - length left + (r + 1) ≡ length_outside d.has_quotes line_feed text + 1 =
    omega (arith, c.requires.here.line, found.line is) in record {
      room = omega (arith, found.room, sized.within);
      within = found.room;
      cells = λ start column. cells_end d s c.requires.marked start text left c.requires.here r size found.room
          (found.line is) sized.within (λ none. sized.cell (takes ∙ none)) (λ may. sized.bare (takes ∙ may))
          returned (found.last is) column;
      goes = λ not_last. absurd cc;
      row = λ last start.
          ap (λ t. record { start = start; text = take (length text - length left + size) text; lacks_return = t })
          (no_return_at d left r size is returned)
          ∙ row_is d s c.requires.marked start text left c.requires.here r size found.room
          (found.line is) sized.within (λ none. sized.cell (takes ∙ none)) (λ may. sized.bare (takes ∙ may)) returned;
      line = λ last.
          ap (drop (r + 1)) c.requires.here.tail ∙ drop-drop (r + 1) (length text - length left) text
          ∙ ap (λ k. drop k text) at ∙ sym (line_behind d s c.requires.marked 0 text);
    }
