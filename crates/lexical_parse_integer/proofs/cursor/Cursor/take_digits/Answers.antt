use Rattle.std.proofs.Common.{◌≡◌, ℕ, ◌+◌, ◌≤◌, ◌<◌, ◌⊎◌, false, true, None, is_some, IsSome, length, ap, ◌∙◌, inl, inr, arith}
use Rattle.lexical_parse_integer.specs.CursorView.{CursorView}
use Rattle.lexical_parse_integer.specs.Runs.{digit_at}
use Rattle.lexical_parse_integer.specs.Seeking.{starts_behind_prefix}
use Rattle.lexical_parse_integer.proofs.reading.Soundness.{IsSound-word, none_from_IsNone, word_fits}
use Rattle.lexical_parse_integer.proofs.cursor.Cursor.take_digits.Goals as goal

positive : (n : ℕ) → (n ≡ 4) ⊎ (n ≡ 8) → 0 < n
positive n h = elim h [ inl e ↦ omega arith | inr e ↦ omega arith ]

-- what is said of the view holds of the fields
digits_in : (v w : CursorView) (n : ℕ) → v ≡ w → ((k : ℕ) → w.position ≤ k → k < w.position + n → IsSome (digit_at w.radix w.bytes k)) → (k : ℕ) → v.position ≤ k → k < v.position + n → is_some (digit_at v.radix v.bytes k) ≡ true
digits_in v w n is all k low high =
    let same = ap (λ (u : CursorView). u.position) is in
    ap (λ (u : CursorView). is_some (digit_at u.radix u.bytes k)) is ∙ all k (omega arith) (omega arith)

pub overflow_add-self-2 : goal.overflow_add-self-2
overflow_add-self-2 c =
    let i = c.self.inside in
    let v : CursorView = record { bytes = i.bytes.now; format = i.format; is_prefixed = starts_behind_prefix i.start; radix = i.radix; start = i.start; position = i.position; digits = i.digits; closed = i.closed; turns = i.turns; identity = i.identity } in
    let open_now : i.closed ≡ false = ap (λ (u : CursorView). u.closed) c.self.view_is ∙ c.requires.is_open in
    let fits : i.digits + c.args.n ≤ length i.bytes.now = word_fits v c.args.n c.self.invariant open_now (positive _ c.requires.word) (digits_in v _ _ c.self.view_is c.requires.digits) in
    omega (arith, c.self.told.0)

pub invariant_of-self : goal.invariant_of-self
invariant_of-self c =
    let i = c.self.inside in
    let v : CursorView = record { bytes = i.bytes.now; format = i.format; is_prefixed = starts_behind_prefix i.start; radix = i.radix; start = i.start; position = i.position; digits = i.digits; closed = i.closed; turns = i.turns; identity = i.identity } in
    let open_now : i.closed ≡ false = ap (λ (u : CursorView). u.closed) c.self.view_is ∙ c.requires.is_open in
    let contiguous : i.format.digit_separator ≡ None = ap (λ (u : CursorView). u.format.digit_separator) c.self.view_is ∙ none_from_IsNone _ c.requires.contiguous in
    IsSound-word v _ c.args.n c.self.invariant open_now contiguous (positive _ c.requires.word) c.tick.ensures (digits_in v _ _ c.self.view_is c.requires.digits)
