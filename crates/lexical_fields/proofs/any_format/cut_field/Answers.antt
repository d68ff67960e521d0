use Rattle.std.proofs.Common.{◌+◌, ◌∙◌, ap, length, take, drop, length-drop, arith}
use Rattle.lexical_fields.proofs.Marks.{no_marks}
use Rattle.lexical_fields.proofs.any_format.cut_field.Goals as goal

pub returns-then-marks-eq0-clause-marks : goal.returns-then-marks-eq0-clause-marks
returns-then-marks-eq0-clause-marks c = no_marks c.args.separator c.split_field.result.1.now

pub returns : goal.returns
returns c =
    let text = c.args.text.now in
    let split = c.split_marked-size.ensures in
    let size = ap (λ n. n + 1) split.size in
    let shorter = ap length split.behind ∙ length-drop (c.split_marked-size.result.0 + 1) text in
    record {
      field = ap (λ n. take n text) split.size;
      behind = split.behind ∙ ap (λ n. drop n text) size;
      shorter = omega (arith, shorter);
      marks = split.marks;
    }
