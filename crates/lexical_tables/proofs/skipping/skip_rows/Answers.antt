use Rattle.std.proofs.lemmas.List.{get_or-replicate}
use Rattle.lexical_tables.proofs.skipping.skip_rows.Goals as goal

pub ask_codes-requires : goal.ask_codes-requires
ask_codes-requires g c = record { unknown = λ k low. get_or-replicate 256 k 0 0 low }
