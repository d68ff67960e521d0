-- What the lines so far have set.
use Rattle.std.specs.Prelude.{Bool, true}
use Rattle.lexical_util.specs.Format.{Format, standard}

-- The format that texts are parsed by, and whether their digits are taken one at a time.
pub record Settings : Type 0 where
  pub format : Format
  pub no_multi_digit : Bool

-- the standard format and the standard options
abbrev pub standard_settings : Settings
standard_settings = record { format = standard; no_multi_digit = true }
