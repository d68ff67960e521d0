-- The lines of the output are those of the answers.
use Rattle.std.proofs.Common.{◌≡◌, ℕ, ◌+◌, Bool, true, false, cond, ◌||◌, eqb, List, [], ◌∷◌, ◌++◌, map, Option, None, Some, Result, Ok, Err, pos, negsuc, suc, codes, refl, ap, sym, ◌∙◌, append_assoc, arith}
use Rattle.std.specs.List.{flat_map, list_any, scan}
use Rattle.std.specs.Int.Digits.{digits_of}
use Rattle.std.proofs.lemmas.Bool.Decides.{nat_tests}
use Rattle.std.proofs.lemmas.List.Folds.{list_any-append}
use lib.IntN.{ℤ}
use Rattle.lexical_parse_integer.specs.Grammar.{complete_if_valid, partial_if_valid}
use Rattle.lexical_util.specs.declared.error.Error.{Error}
use Rattle.lexical_util.specs.declared.error.Error.TheVariants.{Overflow}
use Rattle.lexical_util.specs.Faults.{place_of}
use Rattle.answer_lines.specs.Command.{Command, command_in, parse_complete, parse_partial, list_tokens, change, reset, type_of}
use Rattle.answer_lines.specs.Lines.{lines, onto_line}
use Rattle.answer_lines.specs.Decimal.{decimal_text, signed_text}
use Rattle.answer_lines.specs.Output.{answer_lines, answer_to, answers_to, command_answer, command_lines, complete_text, fault_answer, fault_name, kind_text, output, partial_text, place_text, settings_after, token_text, tokens_text}
use Rattle.answer_lines.specs.Settings.{Settings, standard_settings}
use Rattle.lexical_literals.specs.Tokens.{TokenView, tokens}
use Rattle.lexical_literals.specs.declared.Kind.{Kind}
use Rattle.lexical_literals.specs.declared.Kind.TheVariants.{Number, Word, Byte, Fault}

-- ---- no answer holds a line feed

-- whether a text holds a line feed
abbrev has_feed : List ℕ → Bool
has_feed text = list_any (λ b. eqb b 10) text

abbrev HasNoFeed : List ℕ → Type 0
HasNoFeed text = has_feed text ≡ false

both : (xs ys : List ℕ) → HasNoFeed xs → HasNoFeed ys → HasNoFeed (xs ++ ys)
both xs ys p q = list_any-append (λ b. eqb b 10) xs ys ∙ ap (λ b. b || has_feed ys) p ∙ q

digits_have_none : (ds : List ℕ) → HasNoFeed (map (λ d. 48 + d) ds)
digits_have_none [] = refl
digits_have_none (d ∷ ds) =
    let e : eqb (48 + d) 10 ≡ false = grind (arith, nat_tests) in
    ap (λ b. b || has_feed (map (λ c. 48 + c) ds)) e ∙ digits_have_none ds

decimal_has_none : (n : ℕ) → HasNoFeed (decimal_text n)
decimal_has_none n = pick (eqb n 0)
  where
    pick : (b : Bool) → HasNoFeed (cond b (48 ∷ []) (map (λ d. 48 + d) (digits_of 10 n)))
    pick true = refl
    pick false = digits_have_none (digits_of 10 n)

signed_has_none : (z : ℤ) → HasNoFeed (signed_text z)
signed_has_none (pos n) = decimal_has_none n
signed_has_none (negsuc n) = decimal_has_none (suc n)

name_has_none : (fault : Error) → HasNoFeed (fault_name fault)
name_has_none (Overflow place) = refl
name_has_none _ = refl

place_has_none : (place : Option ℕ) → HasNoFeed (place_text place)
place_has_none None = refl
place_has_none (Some place) = both (codes " ") (decimal_text place) refl (decimal_has_none place)

fault_has_none : (fault : Error) → HasNoFeed (fault_answer fault)
fault_has_none fault =
    both (codes "err " ++ fault_name fault) (place_text (place_of fault))
    (both (codes "err ") (fault_name fault) refl (name_has_none fault))
    (place_has_none (place_of fault))

value_has_none : (z : ℤ) → HasNoFeed (codes "ok " ++ signed_text z)
value_has_none z = both (codes "ok ") (signed_text z) refl (signed_has_none z)

complete_has_none : (found : Result ℤ Error) → HasNoFeed (complete_text found)
complete_has_none (Ok z) = value_has_none z
complete_has_none (Err fault) = fault_has_none fault

partial_has_none : (found : Result (ℤ × ℕ) Error) → HasNoFeed (partial_text found)
partial_has_none (Ok found) =
    both (codes "ok " ++ signed_text found.0) (place_text (Some found.1)) (value_has_none found.0)
    (place_has_none (Some found.1))
partial_has_none (Err fault) = fault_has_none fault

kind_has_none : (kind : Kind) → HasNoFeed (kind_text kind)
kind_has_none (Number value) = both (codes "number ") (decimal_text value) refl (decimal_has_none value)
kind_has_none Word = refl
kind_has_none Byte = refl
kind_has_none (Fault fault) =
    both (codes "fault " ++ fault_name fault) (place_text (place_of fault))
    (both (codes "fault ") (fault_name fault) refl (name_has_none fault))
    (place_has_none (place_of fault))

token_has_none : (token : TokenView) → HasNoFeed (token_text token)
token_has_none token =
    both (kind_text token.kind ++ place_text (Some token.start)) (place_text (Some token.stop))
    (both (kind_text token.kind) (place_text (Some token.start)) (kind_has_none token.kind)
    (place_has_none (Some token.start)))
    (place_has_none (Some token.stop))

-- ---- lines

none_first : (b c : Bool) → (b || c) ≡ false → (b ≡ false) × (c ≡ false)
none_first true c e = (e, absurd (cc))
none_first false c e = (refl, e)

-- the first line of an answer, a line feed and more
first_line : (text more : List ℕ) → HasNoFeed text → lines (text ++ 10 ∷ [] ++ more) ≡ text ∷ lines more
first_line [] more none = refl
first_line (b ∷ text) more none =
    let (here, there) = none_first (eqb b 10) (has_feed text) none in
    ap (λ c. cond c ([] ∷ lines (text ++ 10 ∷ [] ++ more)) (onto_line b (lines (text ++ 10 ∷ [] ++ more)))) here
    ∙ ap (λ ls. onto_line b ls) (first_line text more there)

tokens_in_lines : (ts : List TokenView) (more : List ℕ)
    → lines (tokens_text ts ++ 10 ∷ [] ++ more)
    ≡ (map token_text ts ++ codes "end" ∷ []) ++ lines more
tokens_in_lines [] more = first_line (codes "end") more refl
tokens_in_lines (t ∷ ts) more =
    let first = token_text t ++ 10 ∷ [] in
    let rest = tokens_text ts in
    ap lines (append_assoc (first ++ rest) (10 ∷ []) more ∙ append_assoc first rest (10 ∷ more)
    ∙ ap (λ l. first ++ l) (sym (append_assoc rest (10 ∷ []) more)))
    ∙ first_line (token_text t) (tokens_text ts ++ 10 ∷ [] ++ more) (token_has_none t)
    ∙ ap (λ ls. token_text t ∷ ls) (tokens_in_lines ts more)

command_in_lines : (settings : Settings) (command : Option Command) (more : List ℕ)
    → lines (command_answer settings command ++ 10 ∷ [] ++ more) ≡ command_lines settings command ++ lines more
command_in_lines settings None more = first_line (codes "bad line") more refl
command_in_lines settings (Some (parse_complete type text)) more =
    let found = complete_if_valid settings.format (type_of type) text in
    first_line (complete_text found) more (complete_has_none found)
command_in_lines settings (Some (parse_partial type text)) more =
    let found = partial_if_valid settings.format (type_of type) text in
    first_line (partial_text found) more (partial_has_none found)
command_in_lines settings (Some (list_tokens text)) more = tokens_in_lines (tokens text) more
command_in_lines settings (Some (change asked)) more = first_line (codes "ok") more refl
command_in_lines settings (Some reset) more = first_line (codes "ok") more refl

answer_in_lines : (settings : Settings) (line more : List ℕ)
    → lines (answer_to settings line ++ 10 ∷ [] ++ more) ≡ answer_lines settings line ++ lines more
unfolding answer_to answer_lines
answer_in_lines settings line more = command_in_lines settings (command_in line) more

answers_in_lines : (settings : Settings) (ls : List (List ℕ))
    → lines (answers_to settings ls) ≡ flat_map (λ answer. answer)
    (scan settings_after answer_lines settings ls)
answers_in_lines settings [] = refl
answers_in_lines settings (line ∷ ls) =
    answer_in_lines settings line (answers_to (settings_after settings line) ls)
    ∙ ap (λ more. answer_lines settings line ++ more) (answers_in_lines (settings_after settings line) ls)

pub output_in_lines : (input : List ℕ)
    → lines (output input) ≡ flat_map (λ answer. answer)
    (scan settings_after answer_lines standard_settings (lines input))
output_in_lines input = answers_in_lines standard_settings (lines input)
