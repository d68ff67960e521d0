use Rattle.std.proofs.Common.{false, sym, true}
use Rattle.std.proofs.lemmas.Result.{err_from_is_err_and}
use Rattle.lexical_parse_integer.proofs.punctuated.PunctuatedAnswers.{head_signed}
use Rattle.lexical_parse_integer.proofs.reading.FrontAnswers.{front_answer, front_read, numeral_answer, prefix_answer, sound_head}
use Rattle.lexical_parse_integer.proofs.algorithm.front.front_behind.Goals as goal

pub returns-then-is_prefix_alone : goal.returns-then-is_prefix_alone
returns-then-is_prefix_alone g c = sym (prefix_answer _ _ c.args.bytes.now _ c.requires.head c.if-is_prefix_alone.ensures)

pub read_numeral-requires-clause-sound : goal.read_numeral-requires-clause-sound
read_numeral-requires-clause-sound g c = sound_head _ _ c.args.bytes.now _ c.requires.valid c.requires.head

pub read_numeral-requires-clause-minus : goal.read_numeral-requires-clause-minus
read_numeral-requires-clause-minus g c = head_signed _ _ c.args.bytes.now _ c.requires.head

pub returns-in_err-value : goal.returns-in_err-value
returns-in_err-value g c =
    let p = err_from_is_err_and c.from_residual.result c.from_residual.ensures.1 in
    rw (p.1, p.2) (sym (numeral_answer _ _ c.args.bytes.now _ _ c.requires.head c.if-is_prefix_alone.ensures c.in_err-value.ensures.fault))

pub returns-then-is_empty_fault : goal.returns-then-is_empty_fault
returns-then-is_empty_fault g c =
    let read = front_read _ _ c.args.bytes.now _ _ _ _ _ c.requires.head c.if-is_prefix_alone.ensures c.in_ok-value.ensures.all c.stop_behind-stop.ensures in
    sym (front_answer _ _ c.args.bytes.now _ _ true read c.if-is_empty_fault.ensures)

pub returns : goal.returns
returns g c =
    let read = front_read _ _ c.args.bytes.now _ _ _ _ _ c.requires.head c.if-is_prefix_alone.ensures c.in_ok-value.ensures.all c.stop_behind-stop.ensures in
    sym (front_answer _ _ c.args.bytes.now _ _ false read c.if-is_empty_fault.ensures)
