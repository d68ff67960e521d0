use Rattle.std.proofs.Common.{◌≡◌, ap, ◌∙◌, sym}
use Rattle.lexical_parse_integer.specs.CursorView.{CursorView}
use Rattle.lexical_parse_integer.specs.Seeking.{starts_behind_prefix}
use Rattle.lexical_parse_integer.proofs.reading.Soundness.{IsSound-octal}
use Rattle.lexical_parse_integer.proofs.cursor.Cursor.read_octal_zero.Goals as goal

pub invariant_of-self : goal.invariant_of-self
invariant_of-self c =
    let i = c.self.inside in
    let v : CursorView = record { bytes = i.bytes.now; format = i.format; is_prefixed = starts_behind_prefix i.start; radix = i.radix; start = i.start; position = i.position; digits = i.digits; closed = i.closed; turns = i.turns; identity = i.identity } in
    let none : i.digits ≡ 0 = ap (λ (u : CursorView). u.digits) c.self.view_is ∙ c.requires.no_digit in
    let at : i.position ≡ i.start = ap (λ (u : CursorView). u.position) c.self.view_is ∙ c.requires.at_start ∙ sym (ap (λ (u : CursorView). u.start) c.self.view_is) in
    IsSound-octal v c.self.invariant at none (sym c.if-not-octal_zero_at.ensures)
