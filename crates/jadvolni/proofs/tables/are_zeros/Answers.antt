use Rattle.std.proofs.Common.{◌∙◌, ap, nat_eq, ◌&&◌, get_or, rules}
use Rattle.jadvolni.proofs.ZeroBytes.{nine_zeros}
use Rattle.jadvolni.proofs.tables.are_zeros.Goals as goal

pub returns : goal.returns
returns c =
    ap (λ word. nat_eq word 0 && nat_eq (get_or c.args.bytes 8 0) 0) c.from_le_bytes-word.ensures
    ∙ nine_zeros c.args.bytes (search rules)
