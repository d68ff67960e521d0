use Rattle.std.proofs.Common.{◌∙◌, arith, sym}
use Rattle.lexical_formats.proofs.FormatAmong.{found_behind, found_here, found_none}
use Rattle.lexical_formats.proofs.names.format_among.Goals as goal

pub returns-then-is_name : goal.returns-then-is_name
returns-then-is_name c =
    sym (c.loop-entry.invariant ∙ found_here c.args.name.now c.args.formats.now c.loop-entry.entry-index
    c.entry-item.result c.loop-entry-test.true c.entry-item.is
    (sym c.is_name.ensures ∙ c.if-is_name.true))

pub loop-entry-preserved : goal.loop-entry-preserved
loop-entry-preserved c =
    c.loop-entry.invariant ∙ found_behind c.args.name.now c.args.formats.now c.loop-entry.entry-index
    c.entry-item.result c.loop-entry-test.true c.entry-item.is
    (sym c.is_name.ensures ∙ c.if-is_name.false)

pub returns : goal.returns
returns c =
    sym (c.loop-entry.invariant ∙ found_none c.args.name.now c.args.formats.now c.loop-entry.entry-index
    (omega arith))
