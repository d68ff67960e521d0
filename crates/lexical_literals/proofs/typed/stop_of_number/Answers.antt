use Rattle.std.proofs.Common.{ap, refl, ◌∙◌}
use Rattle.lexical_parse_integer.specs.CursorView.{CursorView}
use Rattle.lexical_literals.proofs.NumberCursors.{stands_behind, stops_at}
use Rattle.lexical_literals.proofs.typed.stop_of_number.Goals as goal

pub returns-clause-stop : goal.returns-clause-stop
returns-clause-stop c head is =
    let end = c.read_digits.ensures.end in
    stops_at c.args.format.now c.args.text.now c.read_head.new.cursor c.read_digits.new.cursor head c.cursor-3.result
    (stands_behind c.new-cursor.result c.read_head.new.cursor _ _ (ap (λ (v : CursorView). v.format) c.new-cursor.ensures) (ap (λ (v : CursorView). v.bytes) c.new-cursor.ensures)
    (c.if-not-read_head.ensures.behind refl)) end
    (c.cursor-3.ensures.place ∙ c.read_suffix.ensures.at_end end.at_end) is
