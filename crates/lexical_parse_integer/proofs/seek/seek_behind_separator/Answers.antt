use Rattle.std.proofs.Common.{◌≡◌, true, false, length, Some, None, refl, sym, ◌∙◌}
use Rattle.lexical_parse_integer.specs.Runs.{digit_at, run_stop, separator_at}
use Rattle.lexical_parse_integer.specs.Seeking.{starts_behind_prefix}
use Rattle.lexical_parse_integer.proofs.grammar.NumeralEnd.{digit_before, ends_behind, ends_here, ends_refused, finds_behind}
use Rattle.lexical_parse_integer.proofs.grammar.Stretches.{IsStop, IsStop-stop_of}
use Rattle.lexical_parse_integer.proofs.seek.seek_behind_separator.Goals as goal

pub returns-then-not-separator_at : goal.returns-then-not-separator_at
returns-then-not-separator_at c =
    let none : separator_at c.args.format.now c.args.bytes.now c.args.position ≡ false = cc in
    ends_here c.args.format.now (starts_behind_prefix c.args.start) c.args.radix c.args.bytes.now c.args.start c.args.position c.requires.after_start c.requires.before_end c.requires.within c.requires.no_digit none

pub behind_run-requires-clause-digit : goal.behind_run-requires-clause-digit
behind_run-requires-clause-digit c =
    digit_before c.args.format.now (starts_behind_prefix c.args.start) c.args.radix c.args.bytes.now c.args.start c.args.position c.requires.after_start c.requires.before_end c.requires.within
    (sym c.separator_at.ensures ∙ c.if-not-separator_at.false) c.requires.at_run_start

pub returns-in_default : goal.returns-in_default
returns-in_default c =
    let f = c.args.format.now in
    let b = c.args.bytes.now in
    let first : separator_at f b c.args.position ≡ true = sym c.separator_at.ensures ∙ c.if-not-separator_at.false in
    let run : IsStop (separator_at f b) c.args.position (length b) (run_stop f b c.args.position) = IsStop-stop_of (separator_at f b) c.args.position (length b) c.requires.within in
    ends_refused f (starts_behind_prefix c.args.start) c.args.radix b c.args.start c.args.position c.requires.after_start c.requires.before_end c.requires.within (run_stop f b c.args.position) first c.requires.separator c.requires.at_run_start run (c.in_default.ensures.ends refl)

pub returns-in-Some-digit_at : goal.returns-in-Some-digit_at
returns-in-Some-digit_at c =
    let f = c.args.format.now in
    let b = c.args.bytes.now in
    let told = c.in-Some.ensures.passes in
    let first : separator_at f b c.args.position ≡ true = sym c.separator_at.ensures ∙ c.if-not-separator_at.false in
    let run : IsStop (separator_at f b) c.args.position (length b) c.in-Some.stop = rw told.0 (IsStop-stop_of (separator_at f b) c.args.position (length b) c.requires.within) in
    let value : digit_at c.args.radix b c.in-Some.stop ≡ Some c.in-Some-digit_at.value = sym c.digit_at.ensures ∙ c.in-Some-digit_at.is in
    finds_behind f (starts_behind_prefix c.args.start) c.args.radix b c.args.start c.args.position c.requires.after_start c.requires.before_end c.requires.within c.in-Some.stop first c.requires.separator c.requires.at_run_start run told.1 _ value

pub returns-in-None : goal.returns-in-None
returns-in-None c =
    let f = c.args.format.now in
    let b = c.args.bytes.now in
    let told = c.in-Some.ensures.passes in
    let first : separator_at f b c.args.position ≡ true = sym c.separator_at.ensures ∙ c.if-not-separator_at.false in
    let run : IsStop (separator_at f b) c.args.position (length b) c.in-Some.stop = rw told.0 (IsStop-stop_of (separator_at f b) c.args.position (length b) c.requires.within) in
    let none : digit_at c.args.radix b c.in-Some.stop ≡ None = sym c.digit_at.ensures ∙ c.in-None.is in
    ends_behind f (starts_behind_prefix c.args.start) c.args.radix b c.args.start c.args.position c.requires.after_start c.requires.before_end c.requires.within c.in-Some.stop first c.requires.separator c.requires.at_run_start run told.1 none
