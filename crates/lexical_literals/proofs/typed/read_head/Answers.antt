use Rattle.std.proofs.Common.{ap, arith}
use Rattle.lexical_parse_integer.specs.CursorView.{CursorView}
use Rattle.lexical_literals.proofs.NumberCursors.{behind_a_prefix, behind_bare, fault_of_sign, reads_sign, sign_is_short, stays_bare}
use Rattle.lexical_literals.proofs.typed.read_head.Goals as goal

pub returns-then-is_err-clause-fault : goal.returns-then-is_err-clause-fault
returns-then-is_err-clause-fault c e =
    fault_of_sign c.args.cursor.now.format c.args.cursor.now.bytes c.parse_sign.result _ c.if-is_err.ensures.value c.parse_sign.ensures.answer

pub read_prefix-requires-clause-front : goal.read_prefix-requires-clause-front
read_prefix-requires-clause-front c =
    sign_is_short c.args.cursor.now c.parse_sign.new.c
    (reads_sign c.args.cursor.now c.parse_sign.new.c c.parse_sign.result c.if-is_err.ensures.value c.parse_sign.ensures.answer c.parse_sign.ensures.moved)

pub returns-then-read_prefix-clause-behind : goal.returns-then-read_prefix-clause-behind
returns-then-read_prefix-clause-behind c e =
    behind_a_prefix c.args.cursor.now c.parse_sign.new.c c.read_prefix.new.self
    (reads_sign c.args.cursor.now c.parse_sign.new.c c.parse_sign.result c.if-is_err.ensures.value c.parse_sign.ensures.answer c.parse_sign.ensures.moved)
    c.requires.is_open c.if-read_prefix.ensures.answer c.if-read_prefix.ensures.after

pub read_octal_zero-requires-clause-front : goal.read_octal_zero-requires-clause-front
read_octal_zero-requires-clause-front c =
    let stays = stays_bare c.parse_sign.new.c c.read_prefix.new.self c.if-read_prefix.ensures.answer c.if-read_prefix.ensures.after in
    let short =
    sign_is_short c.args.cursor.now c.parse_sign.new.c
    (reads_sign c.args.cursor.now c.parse_sign.new.c c.parse_sign.result c.if-is_err.ensures.value c.parse_sign.ensures.answer c.parse_sign.ensures.moved) in
    let at = ap (λ (c : CursorView). c.position) stays.0 in
    omega arith

pub returns-clause-behind : goal.returns-clause-behind
returns-clause-behind c e =
    behind_bare c.args.cursor.now c.parse_sign.new.c c.read_prefix.new.self c.read_octal_zero.new.self c.read_octal_zero.result
    (reads_sign c.args.cursor.now c.parse_sign.new.c c.parse_sign.result c.if-is_err.ensures.value c.parse_sign.ensures.answer c.parse_sign.ensures.moved)
    c.requires.is_open c.requires.bare c.requires.radix
    (stays_bare c.parse_sign.new.c c.read_prefix.new.self c.if-read_prefix.ensures.answer c.if-read_prefix.ensures.after)
    c.read_octal_zero.ensures.answer c.read_octal_zero.ensures.after
