use Rattle.std.proofs.Common.{◌≡◌, ◌∙◌, ap₂, ◌&&◌, nat_eq, nat_lt, length, rules}
use Rattle.jadvolni.proofs.ZeroBytes.{last_bytes}
use Rattle.jadvolni.proofs.format.FormatFields.are_known.Goals as goal

pub returns : goal.returns
returns c =
    let fields = c.args.self.now in
    let size : length fields.reserved ≡ 13 = search rules in
    ap₂ (λ x y. x && nat_eq y 0) (ap₂ (λ x y. nat_lt x 8 && nat_eq y 0) c.from_le_bytes-low.ensures c.from_le_bytes-middle.ensures) c.from_le_bytes-high.ensures
    ∙ last_bytes fields.nul_is_punctuation fields.reserved size
