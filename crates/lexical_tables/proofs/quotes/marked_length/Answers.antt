use Rattle.lexical_fields.proofs.Marks.{no_marks}
use Rattle.lexical_tables.proofs.quotes.marked_length.Goals as goal

pub next_marks-marks-requires : goal.next_marks-marks-requires
next_marks-marks-requires c = no_marks c.args.separator c.args.text.now
