use Rattle.std.proofs.Common.{ℕ, List, [], ◌∷◌, ◌∙◌, ◌++◌, Option, ap, append_assoc, codes, subst}
use Rattle.answer_lines.proofs.Sending.{front_more, front_wider, gathers_added, on_err, sends_held, sends_more, sends_piece}
use Rattle.answer_lines.specs.Gather.{Sends}
use Rattle.answer_lines.specs.Output.{token_text, tokens_text}
use Rattle.lexical_literals.specs.Tokens.{TokenView, view_of_token, tokens}
use Rattle.answer_lines.proofs.answer.tokens.answer_tokens.Goals as goal

-- the first line is told apart from the others
first_apart : (a b : Option (List ℕ)) (bytes waited piece rest : List ℕ)
    → Sends a b bytes (waited ++ (piece ++ rest ++ 10 ∷ []))
    → Sends a b bytes (waited ++ (piece ++ (rest ++ 10 ∷ [])))
first_apart a b bytes waited piece rest s =
    subst (λ l. Sends a b bytes (waited ++ l)) (append_assoc piece rest (10 ∷ [])) s

pub loop-token-init : goal.loop-token-init
loop-token-init g c =
    let whole : List TokenView → List ℕ = λ items. c.args.batch.now ++ (tokens_text items ++ 10 ∷ []) in
    sends_held _ _ _ (ap whole (c.into_iter-token-iterator.ensures.into_iter_gives ∙ c.new-token-items.ensures.tokens))

pub loop-token-preserved : goal.loop-token-preserved
loop-token-preserved g c =
    let line = token_text (view_of_token c.in-Some.token) ++ 10 ∷ [] in
    let left : List TokenView → Type 0 = λ more.
    Sends (g.W.Write.contents c.args.out.now) (g.W.Write.contents c.loop-token.out)
    (c.args.batch.now ++ (tokens_text (tokens c.args.source.now) ++ 10 ∷ []))
    (c.loop-token.batch ++ (tokens_text more ++ 10 ∷ [])) in
    sends_piece _ _ _ _ c.loop-token.batch _ line (tokens_text c.next.new.self ++ 10 ∷ [])
    (first_apart _ _ _ _ line (tokens_text c.next.new.self) (subst left c.in-Some.ensures.steps c.loop-token.invariant))
    (gathers_added _ _ _ _ _ line c.in_ok-make_room.ensures.ok c.add_token_line.ensures)

pub returns-in_err-make_room-clause-front : goal.returns-in_err-make_room-clause-front
returns-in_err-make_room-clause-front g c =
    on_err _ (front_more _ _ _ _ _ c.loop-token.invariant (front_wider _ _ _ _ c.in_err-make_room.ensures.front))

pub returns-in_err-make_room-2-clause-front : goal.returns-in_err-make_room-2-clause-front
returns-in_err-make_room-2-clause-front g c =
    on_err _ (front_more _ _ _ _ _ c.loop-token.invariant (front_wider _ _ _ _ c.in_err-make_room-2.ensures.front))

pub returns-clause-ok : goal.returns-clause-ok
returns-clause-ok g c =
    let left : List TokenView → Type 0 = λ more.
    Sends (g.W.Write.contents c.args.out.now) (g.W.Write.contents c.loop-token.out)
    (c.args.batch.now ++ (tokens_text (tokens c.args.source.now) ++ 10 ∷ []))
    (c.loop-token.batch ++ (tokens_text more ++ 10 ∷ [])) in
    sends_more _ _ _ _ _ _ (subst left c.in-None.ensures.steps.0 c.loop-token.invariant)
    (gathers_added _ _ _ _ _ (codes "end" ++ 10 ∷ []) c.in_ok-make_room-2.ensures.ok c.add_text_line.ensures)
