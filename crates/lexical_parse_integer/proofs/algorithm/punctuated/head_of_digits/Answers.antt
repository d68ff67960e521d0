use Rattle.std.proofs.Common.{ap, false, refl, sym, ◌∙◌}
use Rattle.lexical_parse_integer.proofs.plain.DigitFaults.{nonzero_from}
use Rattle.lexical_parse_integer.proofs.punctuated.BareHeads.{no_octal_here, no_prefix_here, rule_behind, told_head}
use Rattle.lexical_parse_integer.proofs.punctuated.PunctuatedAnswers.{head_bare}
use Rattle.lexical_parse_integer.proofs.algorithm.punctuated.head_of_digits.Goals as goal

pub returns-then-bytes-start-ne48-clause-head : goal.returns-then-bytes-start-ne48-clause-head
returns-then-bytes-start-ne48-clause-head g c =
    head_bare _ _ c.args.bytes.now (c.args.is_negative, c.args.start) false c.args.format.now.mantissa_radix c.requires.sign
    (no_prefix_here c.args.format.now c.args.bytes.now c.args.start c.requires.some c.if-bytes-start-ne48.true)
    (no_octal_here c.args.format.now c.args.bytes.now c.args.start c.requires.some c.if-bytes-start-ne48.true) refl
    ∙ ap told_head (sym c.bare_head.ensures)

pub returns-then-bytes-start-ne48-clause-rule : goal.returns-then-bytes-start-ne48-clause-rule
returns-then-bytes-start-ne48-clause-rule g c =
    ap (rule_behind c.args.format.now c.args.bytes.now) c.bare_head.ensures
    ∙ nonzero_from c.args.format.now c.args.bytes.now c.args.start (λ asked. c.if-bytes-start-ne48.true)
