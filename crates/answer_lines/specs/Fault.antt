-- What the program says of a run that did not end well.
use Rattle.std.specs.Prelude.{ℕ, List, codes}
use Rattle.answer_lines.specs.declared.fault.RunError.{RunError}
use Rattle.answer_lines.specs.declared.fault.RunError.TheVariants.{Read, Write, Memory}

-- the message of a fault, without a line feed
abbrev pub message_of : RunError → List ℕ
message_of Read = codes "lexint: read failed"
message_of Write = codes "lexint: write failed"
message_of Memory = codes "lexint: out of memory"
