-- A line that begins with a letter and a space, and the answer to what it asks for.
use Rattle.std.proofs.Common.{◌≡◌, ℕ, ◌+◌, ◌-◌, ◌≤◌, List, [], ◌∷◌, ◌++◌, Option, None, Some, codes, cond, length, take, drop, get_or, refl, ap, subst, sym, ◌∙◌, arith}
use Rattle.std.proofs.lemmas.Bool.{lt-ltb}
use Rattle.std.proofs.lemmas.List.{take_rest}
use Rattle.std.specs.Prelude.{option_and_then, option_map}
use Rattle.answer_lines.specs.Command.{Command, change, change_named, command_in, command_of, list_tokens, parse_complete, parse_in, parse_partial, type_and_text}
use Rattle.answer_lines.specs.declared.command.TypeName.{TypeName}
use Rattle.answer_lines.specs.Gather.{GainsFront, Sends}
use Rattle.answer_lines.specs.Output.{answer_to, command_answer, command_effect, settings_after}
use Rattle.answer_lines.specs.Settings.{Settings}

-- ---- what a line asks for

behind_c : (rest : List ℕ) → command_of (codes "c", rest) ≡ command_in (99 ∷ 32 ∷ rest)
behind_c rest =
    let line = 99 ∷ 32 ∷ rest in
    sym (ap (λ within. option_and_then command_of
    (option_map (λ end. (take end line, drop (end + 1) line)) (cond within (Some 1) None)))
    (lt-ltb 1 (length line) (omega arith)))

behind_p : (rest : List ℕ) → command_of (codes "p", rest) ≡ command_in (112 ∷ 32 ∷ rest)
behind_p rest =
    let line = 112 ∷ 32 ∷ rest in
    sym (ap (λ within. option_and_then command_of
    (option_map (λ end. (take end line, drop (end + 1) line)) (cond within (Some 1) None)))
    (lt-ltb 1 (length line) (omega arith)))

behind_t : (rest : List ℕ) → command_of (codes "t", rest) ≡ command_in (116 ∷ 32 ∷ rest)
behind_t rest =
    let line = 116 ∷ 32 ∷ rest in
    sym (ap (λ within. option_and_then command_of
    (option_map (λ end. (take end line, drop (end + 1) line)) (cond within (Some 1) None)))
    (lt-ltb 1 (length line) (omega arith)))

behind_f : (rest : List ℕ) → command_of (codes "f", rest) ≡ command_in (102 ∷ 32 ∷ rest)
behind_f rest =
    let line = 102 ∷ 32 ∷ rest in
    sym (ap (λ within. option_and_then command_of
    (option_map (λ end. (take end line, drop (end + 1) line)) (cond within (Some 1) None)))
    (lt-ltb 1 (length line) (omega arith)))

-- a line asks for what stands behind its letter and the space
behind_letter : (letter : ℕ) (line : List ℕ) → 2 ≤ length line → get_or line 0 0 ≡ letter → get_or line 1 0 ≡ 32
    → ((rest : List ℕ) → command_of (letter ∷ [], rest) ≡ command_in (letter ∷ 32 ∷ rest))
    → command_of (letter ∷ [], take (length line - 2) (drop 2 line)) ≡ command_in line
behind_letter letter [] long first space asks = absurd (omega arith)
behind_letter letter (a ∷ []) long first space asks = absurd (omega arith)
behind_letter letter (a ∷ b ∷ rest) long first space asks =
    let here : a ≡ letter = first in
    let there : b ≡ 32 = space in
    ap (λ l. command_of (letter ∷ [], l)) (take_rest (a ∷ b ∷ rest) 2) ∙ rw (here, there) (asks rest)

pub complete_in_line : (line : List ℕ) → 2 ≤ length line → get_or line 0 0 ≡ 99 → get_or line 1 0 ≡ 32
    → parse_in parse_complete (take (length line - 2) (drop 2 line)) ≡ command_in line
complete_in_line line long letter space = behind_letter 99 line long letter space behind_c

pub partial_in_line : (line : List ℕ) → 2 ≤ length line → get_or line 0 0 ≡ 112 → get_or line 1 0 ≡ 32
    → parse_in parse_partial (take (length line - 2) (drop 2 line)) ≡ command_in line
partial_in_line line long letter space = behind_letter 112 line long letter space behind_p

pub tokens_in_line : (line : List ℕ) → 2 ≤ length line → get_or line 0 0 ≡ 116 → get_or line 1 0 ≡ 32
    → Some (list_tokens (take (length line - 2) (drop 2 line))) ≡ command_in line
tokens_in_line line long letter space = behind_letter 116 line long letter space behind_t

pub change_in_line : (line : List ℕ) → 2 ≤ length line → get_or line 0 0 ≡ 102 → get_or line 1 0 ≡ 32
    → option_map change (change_named (take (length line - 2) (drop 2 line))) ≡ command_in line
change_in_line line long letter space = behind_letter 102 line long letter space behind_f

-- ---- the answer to a command is that to its line

pub answer_of_line : (settings : Settings) (line waits between : List ℕ) (command : Option Command)
    → command ≡ command_in line → waits ≡ between ++ (command_answer settings command ++ 10 ∷ [])
    → waits ≡ between ++ (answer_to settings line ++ 10 ∷ [])
unfolding answer_to
answer_of_line settings line waits between command e w =
    w ∙ ap (λ asked. between ++ (command_answer settings asked ++ 10 ∷ [])) e

pub sends_answer : (a b : Option (List ℕ)) (settings : Settings) (line waited waits : List ℕ) (command : Option Command)
    → command ≡ command_in line
    → Sends a b (waited ++ (command_answer settings command ++ 10 ∷ [])) waits
    → Sends a b (waited ++ (answer_to settings line ++ 10 ∷ [])) waits
unfolding answer_to
sends_answer a b settings line waited waits command e s =
    subst (λ asked. Sends a b (waited ++ (command_answer settings asked ++ 10 ∷ [])) waits) e s

pub front_answer : (a b : Option (List ℕ)) (settings : Settings) (line waited : List ℕ) (command : Option Command)
    → command ≡ command_in line
    → GainsFront a b (waited ++ (command_answer settings command ++ 10 ∷ []))
    → GainsFront a b (waited ++ (answer_to settings line ++ 10 ∷ []))
unfolding answer_to
front_answer a b settings line waited command e g =
    subst (λ asked. GainsFront a b (waited ++ (command_answer settings asked ++ 10 ∷ []))) e g

-- what a command sets is what its line sets
pub effect_of_line : (settings after : Settings) (line : List ℕ) (command : Option Command)
    → command ≡ command_in line → after ≡ command_effect settings command
    → after ≡ settings_after settings line
unfolding settings_after
effect_of_line settings after line command e f = f ∙ ap (command_effect settings) e

-- a parse sets nothing
nothing_set : (settings : Settings) (parse : TypeName → List ℕ → Command) (found : Option (TypeName × List ℕ))
    → ((type : TypeName) → (text : List ℕ) → command_effect settings (Some (parse type text)) ≡ settings)
    → settings ≡ command_effect settings (option_map (λ (type, rest). parse type rest) found)
nothing_set settings parse None none = refl
nothing_set settings parse (Some found) none = sym (none found.0 found.1)

pub complete_sets_nothing : (settings : Settings) (text : List ℕ)
    → settings ≡ command_effect settings (parse_in parse_complete text)
complete_sets_nothing settings text =
    nothing_set settings parse_complete (type_and_text text) (λ type rest. refl)

pub partial_sets_nothing : (settings : Settings) (text : List ℕ)
    → settings ≡ command_effect settings (parse_in parse_partial text)
partial_sets_nothing settings text =
    nothing_set settings parse_partial (type_and_text text) (λ type rest. refl)
