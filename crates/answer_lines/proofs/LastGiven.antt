-- A field has the value that it was last given.
use Rattle.std.proofs.Common.{◌≡◌, ℕ, Bool, true, false, cond, List, [], ◌∷◌, ◌++◌, Option, None, Some, codes, refl, ap, sym, ◌∙◌, append_assoc}
use Rattle.std.specs.List.{after_last, cons_option, filter_map, fold}
use Rattle.std.specs.Option.{option_and_then, option_map, unwrap_or}
use Rattle.std.specs.Str.{bytes_eq}
use Rattle.answer_lines.proofs.AfterLast.{is_none, at_first, at_none, at_rest}
use Rattle.answer_lines.specs.Change.{with_change}
use Rattle.answer_lines.specs.Command.{Command, command_in, command_of, change_named, parts, parse_complete, parse_partial, list_tokens, change, reset, type_and_text}
use Rattle.answer_lines.proofs.FieldChanges.{flag_by, punctuation_by, no_multi_digit_by, radix_by}
use Rattle.answer_lines.specs.Given.{change_made, flag_given, flag_value, is_reset, last_of, punctuation_given, punctuation_value, no_multi_digit_given, radix_given, settings_left, IsAnsweredInTurn, LeavesLastGiven}
use Rattle.answer_lines.specs.Output.{answer_to, answers_to, command_effect, settings_after}
use Rattle.answer_lines.specs.Settings.{Settings, standard_settings}
use Rattle.answer_lines.specs.declared.command.TypeName.{TypeName}
use Rattle.answer_lines.specs.declared.field.Change.{Change}

-- ---- one line

-- it is no reset
abbrev IsNoReset : Option Command → Type 0
IsNoReset None = Unit {0}
IsNoReset (Some (parse_complete type text)) = Unit {0}
IsNoReset (Some (parse_partial type text)) = Unit {0}
IsNoReset (Some (list_tokens text)) = Unit {0}
IsNoReset (Some (change asked)) = Unit {0}
IsNoReset (Some reset) = ⊥

complete_is_none : (typed : Option (TypeName × List ℕ)) → IsNoReset (option_map (λ t. parse_complete t.0 t.1) typed)
complete_is_none None = tt
complete_is_none (Some t) = tt

partial_is_none : (typed : Option (TypeName × List ℕ)) → IsNoReset (option_map (λ t. parse_partial t.0 t.1) typed)
partial_is_none None = tt
partial_is_none (Some t) = tt

change_is_none : (asked : Option Change) → IsNoReset (option_map change asked)
change_is_none None = tt
change_is_none (Some c) = tt

-- whichever of four
choice : (c p t f : Bool) (w x y z : Option Command) → IsNoReset w → IsNoReset x → IsNoReset y → IsNoReset z
    → IsNoReset (cond c w (cond p x (cond t y (cond f z None))))
choice true p t f w x y z a b d e = a
choice false true t f w x y z a b d e = b
choice false false true f w x y z a b d e = d
choice false false false true w x y z a b d e = e
choice false false false false w x y z a b d e = tt

cut_is_none : (cut : Option (List ℕ × List ℕ)) → IsNoReset (option_and_then command_of cut)
cut_is_none None = tt
cut_is_none (Some cut) =
    choice (bytes_eq cut.0 (codes "c")) (bytes_eq cut.0 (codes "p")) (bytes_eq cut.0 (codes "t"))
    (bytes_eq cut.0 (codes "f")) _ _ _ _
    (complete_is_none (type_and_text cut.1)) (partial_is_none (type_and_text cut.1)) tt
    (change_is_none (change_named cut.1))

-- ---- a field by its value in the settings, and what a change gives it

module _ {A : Type 0} (value : Settings → A) (given : Change → Option A)
    (by_change : (c : Change) (s : Settings)
    → value (with_change c s) ≡ unwrap_or (given c) (value s)) where
  -- what a command gives
  abbrev of_command : Option Command → List A
  of_command command = filter_map given (cons_option (change_made command) [])

  -- what lines give, in order
  abbrev pub values_given : List (List ℕ) → List A
  values_given lines = filter_map given (filter_map (λ line. change_made (command_in line)) lines)

  given_last : (o : Option A) (v : A) → unwrap_or o v ≡ last_of v (cons_option o [])
  given_last None v = refl
  given_last (Some x) v = refl

  after_no_reset : (s : Settings) (o : Option Command) → IsNoReset o
      → value (command_effect s o) ≡ last_of (value s) (of_command o)
  after_no_reset s None none = refl
  after_no_reset s (Some (parse_complete type text)) none = refl
  after_no_reset s (Some (parse_partial type text)) none = refl
  after_no_reset s (Some (list_tokens text)) none = refl
  after_no_reset s (Some (change asked)) none = by_change asked s ∙ given_last (given asked) (value s)
  after_no_reset s (Some reset) none = absurd none

  after_command : (s : Settings) (b : Bool) (o : Option Command) → IsNoReset o
      → value (command_effect s (cond b (Some reset) o))
      ≡ cond b (value standard_settings) (last_of (value s) (of_command (cond b (Some reset) o)))
  after_command s true o none = refl
  after_command s false o none = after_no_reset s o none

  after_line : (s : Settings) (line : List ℕ)
      → value (settings_after s line) ≡ cond (is_reset line) (value standard_settings)
      (last_of (value s) (values_given (line ∷ [])))
  unfolding settings_after
  after_line s line =
      after_command s (is_reset line) (option_and_then command_of (parts line))
      (cut_is_none (parts line))

  -- ---- lines in a row

  one_more : (v : A) (o : Option Change) (cs : List Change)
      → last_of v (filter_map given (cons_option o cs))
      ≡ last_of (last_of v (filter_map given (cons_option o []))) (filter_map given cs)
  one_more v None cs = refl
  one_more v (Some c) cs =
      elim (given c) as (λ (o : Option A). last_of v (cons_option o (filter_map given cs))
      ≡ last_of (last_of v (cons_option o [])) (filter_map given cs)) [
        | None ↦ refl
        | Some x ↦ refl
      ]

  -- what lines give, from the value before them, or from the standard one behind a reset
  abbrev pub from_start : Bool → Settings → List (List ℕ) → A
  from_start is_kept s lines = last_of (cond is_kept (value s) (value standard_settings)) (values_given lines)

  abbrev pub claim : Settings → List (List ℕ) → A
  claim s lines = from_start (is_none is_reset lines) s (after_last is_reset lines)

  claim_is : (s : Settings) (lines rest : List (List ℕ)) (b : Bool) → is_none is_reset lines ≡ b
      → after_last is_reset lines ≡ rest
      → claim s lines ≡ from_start b s rest
  claim_is s lines rest b e f = ap (λ x. from_start x s (after_last is_reset lines)) e ∙ ap (λ x. from_start b s x) f

  first_line : (s : Settings) (line : List ℕ) (lines : List (List ℕ)) (b r : Bool)
      → is_none is_reset lines ≡ b → is_reset line ≡ r
      → claim (settings_after s line) lines ≡ claim s (line ∷ lines)
  first_line s line lines true true none resets =
      let (more, rest, all) = at_first is_reset line lines none resets in
      let v : value (settings_after s line) ≡ value standard_settings =
      after_line s line ∙ ap (λ x. cond x (value standard_settings)
      (last_of (value s) (values_given (line ∷ [])))) resets in
      claim_is (settings_after s line) lines lines true none rest
      ∙ ap (λ x. last_of x (values_given lines)) v
      ∙ sym (claim_is s (line ∷ lines) lines false more all)
  first_line s line lines true false none other =
      let (more, rest, all) = at_none is_reset line lines none other in
      let v : value (settings_after s line) ≡ last_of (value s) (values_given (line ∷ [])) =
      after_line s line ∙ ap (λ x. cond x (value standard_settings)
      (last_of (value s) (values_given (line ∷ [])))) other in
      claim_is (settings_after s line) lines lines true none rest ∙ ap (λ x. last_of x (values_given lines)) v
      ∙ sym (one_more (value s) (change_made (command_in line)) (filter_map (λ l. change_made (command_in l)) lines))
      ∙ sym (claim_is s (line ∷ lines) (line ∷ lines) true more all)
  first_line s line lines false r some is =
      let (more, all) = at_rest is_reset line lines some in
      claim_is (settings_after s line) lines (after_last is_reset lines) false some refl
      ∙ sym (claim_is s (line ∷ lines) (after_last is_reset lines) false more all)

  pub holds_given : (s : Settings) (lines : List (List ℕ)) → value (fold settings_after s lines) ≡ claim s lines
  holds_given s [] = refl
  holds_given s (line ∷ lines) =
      holds_given (settings_after s line) lines
      ∙ first_line s line lines (is_none is_reset lines) (is_reset line) refl refl

  -- from the standard settings on
  pub holds_last : (lines : List (List ℕ))
      → value (settings_left lines) ≡ last_of (value standard_settings)
      (values_given (after_last is_reset lines))
  holds_last lines =
      holds_given standard_settings lines
      ∙ same (is_none is_reset lines)
    where
      same : (b : Bool) → from_start b standard_settings (after_last is_reset lines)
          ≡ last_of (value standard_settings) (values_given (after_last is_reset lines))
      same true = refl
      same false = refl

-- ---- each line in turn

answers-append : (s : Settings) (before after : List (List ℕ))
    → answers_to s (before ++ after) ≡ answers_to s before ++ answers_to (fold settings_after s before) after
answers-append s [] after = refl
answers-append s (line ∷ before) after =
    ap (λ l. answer_to s line ++ 10 ∷ [] ++ l) (answers-append (settings_after s line) before after)
    ∙ sym (append_assoc (answer_to s line ++ 10 ∷ []) (answers_to (settings_after s line) before)
    (answers_to (fold settings_after (settings_after s line) before) after))

fold-append : (s : Settings) (before : List (List ℕ)) (line : List ℕ)
    → fold settings_after s (before ++ line ∷ [])
    ≡ settings_after (fold settings_after s before) line
fold-append s [] line = refl
fold-append s (first ∷ before) line = fold-append (settings_after s first) before line

pub in_turn : (before : List (List ℕ)) (line : List ℕ) (after : List (List ℕ)) → IsAnsweredInTurn before line after
in_turn before line after =
    answers-append standard_settings before (line ∷ after)
    ∙ ap (λ s. answers_to standard_settings before
    ++ (answer_to (settings_left before) line ++ 10 ∷ [] ++ answers_to s after))
    (sym (fold-append standard_settings before line))

-- ---- all fields

pub leaves_last_given : (lines : List (List ℕ)) → LeavesLastGiven lines
leaves_last_given lines = record {
  radix = holds_last (λ s. s.format.mantissa_radix) radix_given radix_by lines;
  punctuation = λ m. holds_last (λ s. punctuation_value m s.format) (punctuation_given m) (punctuation_by m) lines;
  flag = λ f. holds_last (λ s. flag_value f s.format) (flag_given f) (flag_by f) lines;
  no_multi_digit = holds_last (λ s. s.no_multi_digit) no_multi_digit_given no_multi_digit_by lines;
}
