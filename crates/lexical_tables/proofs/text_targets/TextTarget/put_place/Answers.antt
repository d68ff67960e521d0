use Rattle.std.proofs.Common.{ap}
use Rattle.std.proofs.lemmas.List.{map-set}
use Rattle.lexical_tables.specs.Readings.{Text}
use Rattle.lexical_tables.specs.Targets.{view_of_text, view_of_texts}
use Rattle.lexical_tables.proofs.text_targets.TextTarget.put_place.Goals as goal

pub returns : goal.returns
returns c =
    ap (λ values. record (view_of_texts c.args.self.now) { values = values })
    (map-set (λ text. Text (view_of_text text)) c.args.self.now.texts.now c.args.row c.args.text)
