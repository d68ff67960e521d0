use Rattle.std.proofs.Common.{◌≡◌, ◌+◌, ◌-◌, ◌/◌, ◌^◌, sym, subst, length, take, drop, length-drop, arith}
use Rattle.std.proofs.lemmas.List.{take_all}
use Rattle.lexical_fields.specs.Search.{AreMarks}
use Rattle.lexical_fields.proofs.Marks.{marks_end}
use Rattle.lexical_fields.proofs.marked.split_marked.Goals as goal

pub overflow_shr-result : goal.overflow_shr-result
overflow_shr-result c =
    (marks_end c.args.separator c.args.text.now _ _ c.requires.marks c.lowest_mark-size.ensures.set
    c.lowest_mark-size.ensures.below).few

pub returns : goal.returns
returns c =
    let text = c.args.text.now in
    let r = c.lowest_mark-size.result in
    let e = marks_end c.args.separator text _ r c.requires.marks c.lowest_mark-size.ensures.set
    c.lowest_mark-size.ensures.below in
    let size = length-drop (r + 1) text in
    let whole : take (length text - (r + 1)) (drop (r + 1) text) ≡ drop (r + 1) text =
    take_all (length text - (r + 1)) (drop (r + 1) text) (omega (arith, size)) in
    record {
      size = e.ends;
      room = e.room;
      behind = whole;
      marks = subst (λ l. AreMarks c.args.separator l (c.args.marks / 2 ^ r / 2)) (sym whole) e.behind;
    }
