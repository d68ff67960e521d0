-- Options, as contracts see them.
use Rattle.std.specs.Prelude.{Bool}

-- The parser's options, which are hints about its input.
pub record OptionsView : Type 0 where
  -- whether numbers are expected to have few digits, so that digits are taken one at a time
  pub no_multi_digit : Bool
