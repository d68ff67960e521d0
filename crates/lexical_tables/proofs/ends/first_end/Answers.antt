use Rattle.lexical_tables.proofs.CellEnds.{first_end}
use Rattle.lexical_tables.proofs.ends.first_end.Goals as goal

pub returns : goal.returns
returns c =
    let e = first_end c.args.has_quotes c.args.separator c.args.text.now c.args.marks c.lowest_mark.result c.requires.marks
    c.requires.quoted c.lowest_mark.ensures.set c.lowest_mark.ensures.below in
    record { few = e.few; end = e.first; left = e.ends }
