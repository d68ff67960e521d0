use Rattle.std.proofs.Common.{ℕ, take, length-take-le}
use Rattle.std.proofs.lemmas.Simd.{zip2_splat}
use Rattle.lexical_fields.proofs.ThreeDigits.{text_shuffled}
use Rattle.lexical_fields.proofs.threes.digits_in_threes.Goals as goal

pub returns : goal.returns
returns c =
    let text = c.args.text.now in
    text_shuffled c.args.count _ _ text c.requires.few c.requires.room
    (zip2_splat {Y = ℕ} _ (take 16 text) 16 48 (length-take-le 16 text c.requires.room))
