use Rattle.std.proofs.Common.{◌≡◌, length, rules}
use Rattle.jadvolni.proofs.ZeroBytes.{lanes_of_zeros}
use Rattle.jadvolni.proofs.format_words.asks_for_no_literals.Goals as goal

pub returns : goal.returns
returns c =
    let fields = c.args.fields.now in
    let size : length fields.reserved ≡ 13 = search rules in
    lanes_of_zeros fields.literal_prefixes fields.literal_octal_zero fields.nul_is_punctuation fields.reserved size
