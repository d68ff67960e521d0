-- Descriptions of fixed-point numbers, as contracts see them: the records of their fields.
use Rattle.std.specs.Prelude.{ℕ, Bool}
use Rattle.lexical_util.specs.Format.{Format}

-- What a description says of the texts that it admits. `FixedFormat` says what each field does.
pub record Fixed : Type 0 where
  pub integer : Format
  pub point : ℕ
  pub places : ℕ
  pub takes_fewer : Bool
