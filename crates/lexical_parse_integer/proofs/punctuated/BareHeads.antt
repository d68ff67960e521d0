-- Where another byte than a zero stands, neither a prefix nor an octal zero does.
use Rattle.std.proofs.Common.{◌≡◌, ◌≢◌, ℕ, ◌+◌, ◌<◌, Bool, false, ◌&&◌, ◌||◌, cond, List, length, sym, ap, ◌∙◌, Some, None, Ok, Result}
use Rattle.std.specs.Prelude.{slice_get, slice_index, slice_range}
use Rattle.std.proofs.Math.Bool.{and-false}
use Rattle.std.proofs.lemmas.Bool.{ne_eqb}
use Rattle.std.proofs.lemmas.Option.{slice_get-get_or}
use Rattle.lexical_util.specs.Format.{Format}
use Rattle.lexical_parse_integer.specs.Affixes.{named_radix, octal_zero_at, prefix_radix}
use Rattle.lexical_util.specs.declared.error.Error.{Error}
use Rattle.lexical_parse_integer.specs.declared.algorithm.front.Head as Told
use Rattle.lexical_parse_integer.specs.Head.{Head}
use Rattle.lexical_parse_integer.specs.Plain.{keeps_zero_rule}
use Rattle.lexical_parse_integer.specs.Runs.{are_same}

-- ---- another byte than a zero

no_zero : (text : List ℕ) (k : ℕ) → k < length text → slice_index text k ≢ 48 → are_same (Some 48) (slice_get text k) ≡ false
unfolding are_same
no_zero text k low other = ap (are_same (Some 48)) (slice_get-get_or text k 0 low) ∙ ne_eqb (slice_index text k) 48 other

pub no_prefix_here : (f : Format) (text : List ℕ) (k : ℕ) → k < length text → slice_index text k ≢ 48 → None ≡ prefix_radix f text k
unfolding prefix_radix
no_prefix_here f text k low other = sym (ap (λ (b : Bool). cond b (named_radix f (slice_get text (k + 1))) None) (no_zero text k low other))

pub no_octal_here : (f : Format) (text : List ℕ) (k : ℕ) → k < length text → slice_index text k ≢ 48 → false ≡ octal_zero_at f text k
unfolding octal_zero_at
no_octal_here f text k low other = sym (ap (λ (b : Bool). f.literal_octal_zero && b) (no_zero text k low other) ∙ and-false f.literal_octal_zero)

-- ---- the head that a function answers

abbrev pub told_head : Told.Head → Result Head Error
told_head h = Ok (record { is_negative = h.is_negative; is_prefixed = h.is_prefixed; is_octal = h.is_octal; start = h.start; radix = h.radix })

-- whether the digits behind it keep the rule on zeros
abbrev pub rule_behind : Format → List ℕ → Told.Head → Bool
rule_behind f text h = (h.is_prefixed || h.is_octal) || keeps_zero_rule f (slice_range text h.start (length text))
