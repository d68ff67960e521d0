use Rattle.std.proofs.Common.{◌≡◌, ◌∙◌, Bool, true, Some, ap, refl, sym, ℕ}
use Rattle.std.specs.Prelude.{slice_index}
use Rattle.std.proofs.lemmas.Bool.{false≢true}
use Rattle.lexical_util.specs.Format.{Format}
use Rattle.lexical_parse_integer.specs.Affixes.{literal_radix}
use Rattle.lexical_literals.proofs.DecimalFronts.{bare_by_letter}
use Rattle.lexical_literals.proofs.GroupedFronts.{named_by_letter, none_by_letter, of_b, of_o, of_x, stands_here}
use Rattle.lexical_literals.proofs.groups.front_behind_zero.Goals as goal

-- a byte tells the same radix as a letter that is known
told : (f : Format) (byte letter known : ℕ) (exact : Bool) → exact ≡ f.case_sensitive_base_prefix
    → literal_radix exact (Some byte) ≡ literal_radix true (Some letter) → letter ≡ known
    → literal_radix f.case_sensitive_base_prefix (Some byte) ≡ literal_radix true (Some known)
told f byte letter known exact own same is =
    sym (ap (λ e. literal_radix e (Some byte)) own) ∙ same ∙ ap (λ l. literal_radix true (Some l)) is

pub front_of_decimal-requires-clause-bare : goal.front_of_decimal-requires-clause-bare
front_of_decimal-requires-clause-bare c =
    bare_by_letter c.args.format.now c.args.text.now c.requires.decimal
    (λ asked. absurd (false≢true (sym c.if-not-literal_prefixes.true ∙ c.literal_prefixes.ensures ∙ asked)))

pub number_behind_prefix-requires-clause-prefix : goal.number_behind_prefix-requires-clause-prefix
number_behind_prefix-requires-clause-prefix c =
    named_by_letter c.args.format.now c.args.text.now (slice_index c.args.text.now 1) 120 16 c.requires.decimal
    (sym c.literal_prefixes.ensures ∙ c.if-not-literal_prefixes.false) (stands_here c.args.text.now 1 _ c.requires.more refl)
    (told c.args.format.now (slice_index c.args.text.now 1) c.letter_of_prefix-letter.result 120
    c.case_sensitive_base_prefix.result c.case_sensitive_base_prefix.ensures c.letter_of_prefix-letter.ensures
    c.if-letter-eq120.true) of_x

pub number_behind_prefix-requires-then-letter-eq111-clause-prefix : goal.number_behind_prefix-requires-then-letter-eq111-clause-prefix
number_behind_prefix-requires-then-letter-eq111-clause-prefix c =
    named_by_letter c.args.format.now c.args.text.now (slice_index c.args.text.now 1) 111 8 c.requires.decimal
    (sym c.literal_prefixes.ensures ∙ c.if-not-literal_prefixes.false) (stands_here c.args.text.now 1 _ c.requires.more refl)
    (told c.args.format.now (slice_index c.args.text.now 1) c.letter_of_prefix-letter.result 111
    c.case_sensitive_base_prefix.result c.case_sensitive_base_prefix.ensures c.letter_of_prefix-letter.ensures
    c.if-letter-eq111.true) of_o

pub number_behind_prefix-requires-then-letter-eq98-clause-prefix : goal.number_behind_prefix-requires-then-letter-eq98-clause-prefix
number_behind_prefix-requires-then-letter-eq98-clause-prefix c =
    named_by_letter c.args.format.now c.args.text.now (slice_index c.args.text.now 1) 98 2 c.requires.decimal
    (sym c.literal_prefixes.ensures ∙ c.if-not-literal_prefixes.false) (stands_here c.args.text.now 1 _ c.requires.more refl)
    (told c.args.format.now (slice_index c.args.text.now 1) c.letter_of_prefix-letter.result 98
    c.case_sensitive_base_prefix.result c.case_sensitive_base_prefix.ensures c.letter_of_prefix-letter.ensures
    c.if-letter-eq98.true) of_b

pub front_of_decimal-requires-2-clause-bare : goal.front_of_decimal-requires-2-clause-bare
front_of_decimal-requires-2-clause-bare c =
    none_by_letter c.args.format.now c.args.text.now (slice_index c.args.text.now 1) c.letter_of_prefix-letter.result
    c.requires.decimal (stands_here c.args.text.now 1 _ c.requires.more refl)
    (told c.args.format.now (slice_index c.args.text.now 1) c.letter_of_prefix-letter.result c.letter_of_prefix-letter.result
    c.case_sensitive_base_prefix.result c.case_sensitive_base_prefix.ensures c.letter_of_prefix-letter.ensures refl)
    c.if-letter-eq120.false c.if-letter-eq111.false c.if-letter-eq98.false
