-- What a change gives each field, and that it leaves the others.
use Rattle.std.proofs.Common.{◌≡◌, arith}
use Rattle.std.specs.Option.{unwrap_or}
use Rattle.answer_lines.specs.Change.{with_change}
use Rattle.answer_lines.specs.Given.{flag_given, flag_value, punctuation_given, punctuation_value, no_multi_digit_given, radix_given}
use Rattle.answer_lines.specs.Settings.{Settings}
use Rattle.answer_lines.specs.declared.field.Punctuation.{Punctuation}
use Rattle.answer_lines.specs.declared.field.Flag.{Flag}
use Rattle.answer_lines.specs.declared.field.Change.{Change}

pub radix_by : (change : Change) (settings : Settings)
    → (with_change change settings).format.mantissa_radix
    ≡ unwrap_or (radix_given change) settings.format.mantissa_radix
radix_by change settings = grind arith

pub punctuation_by : (punctuation : Punctuation) (change : Change) (settings : Settings)
    → punctuation_value punctuation (with_change change settings).format
    ≡ unwrap_or (punctuation_given punctuation change) (punctuation_value punctuation settings.format)
punctuation_by punctuation change settings = grind arith

pub flag_by : (flag : Flag) (change : Change) (settings : Settings)
    → flag_value flag (with_change change settings).format
    ≡ unwrap_or (flag_given flag change) (flag_value flag settings.format)
flag_by flag change settings = grind arith

pub no_multi_digit_by : (change : Change) (settings : Settings)
    → (with_change change settings).no_multi_digit
    ≡ unwrap_or (no_multi_digit_given change) settings.no_multi_digit
no_multi_digit_by change settings = grind arith
