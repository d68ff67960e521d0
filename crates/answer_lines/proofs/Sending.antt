-- Bytes that go out, or come in, by several calls.
use Rattle.std.proofs.Common.{◌≡◌, ℕ, ◌-◌, List, [], ◌∷◌, ◌++◌, arith, take, drop, length, Option, None, Some, IfSome, refl, subst, ◌∙◌, ap, sym, append_assoc, append-nil}
use Rattle.std.proofs.lemmas.List.{take_rest, take-append-drop}
use Rattle.std.specs.Prelude.{Result, Ok, Err, OnErr, OnOk}
use Rattle.std.specs.Io.KnownBytes.{Appends, Consumes, Keeps}
use Rattle.answer_lines.specs.Gather.{GainsFront, Grows, LosesFront, Sends, gains_front, grows, loses_front, sends}

-- what is known of a reader has lost `front`, and the bytes are those from before and `front`
pub data Takes (old now : Option (List ℕ)) (start bytes : List ℕ) : Type 0 where
  takes : (front : List ℕ) → Consumes old now front → bytes ≡ start ++ front → Takes old now start bytes

Consumes-none : (a : Option (List ℕ)) → Consumes a a []
Consumes-none None = tt
Consumes-none (Some u) = refl

Consumes-more : (a b c : Option (List ℕ)) (xs ys : List ℕ) → Consumes a b xs → Consumes b c ys → Consumes a c (xs ++ ys)
Consumes-more None b c xs ys p q = tt
Consumes-more (Some u) None c xs ys p q = absurd p
Consumes-more (Some u) (Some v) None xs ys p q = absurd q
Consumes-more (Some u) (Some v) (Some w) xs ys p q = p ∙ ap (λ l. xs ++ l) q ∙ sym (append_assoc xs ys w)

Consumes-kept : (a b c : Option (List ℕ)) (xs : List ℕ) → Consumes a b xs → Keeps b c → Consumes a c xs
Consumes-kept None b c xs p q = tt
Consumes-kept (Some u) None c xs p q = absurd p
Consumes-kept (Some u) (Some v) None xs p q = absurd q
Consumes-kept (Some u) (Some v) (Some w) xs p q = p ∙ ap (λ l. xs ++ l) (sym q)

-- nothing came in yet
pub takes_none : (a : Option (List ℕ)) (start : List ℕ) → Takes a a start start
takes_none a start = takes [] (Consumes-none a) (sym (append-nil start))

-- one more piece came in, and was added
pub takes_more : (a b c : Option (List ℕ)) (start bytes more piece : List ℕ) → Takes a b start bytes
    → Consumes b c piece → more ≡ bytes ++ piece → Takes a c start more
takes_more a b c start bytes more piece (takes f p e) q added =
    takes (f ++ piece) (Consumes-more a b c f piece p q) (added ∙ ap (λ l. l ++ piece) e ∙ append_assoc start f piece)

-- the reader keeps its bytes
pub takes_kept : (a b c : Option (List ℕ)) (start bytes : List ℕ) → Takes a b start bytes
    → Keeps b c → Takes a c start bytes
takes_kept a b c start bytes (takes f p e) k = takes f (Consumes-kept a b c f p k) e

pub front_of_taken : (a b : Option (List ℕ)) (start bytes : List ℕ) → Takes a b start bytes → LosesFront a b
front_of_taken a b start bytes (takes f p e) = loses_front f p

-- one more piece came in, and wasn't added
pub takes_lost : (a b c : Option (List ℕ)) (start bytes piece : List ℕ) → Takes a b start bytes
    → Consumes b c piece → LosesFront a c
takes_lost a b c start bytes piece (takes f p e) q = loses_front (f ++ piece) (Consumes-more a b c f piece p q)

-- what holds is so where a call ended well, and where it failed
pub on_ok : {T E P : Type 0} (r : Result T E) → P → OnOk r P
on_ok (Ok value) p = p
on_ok (Err fault) p = tt

pub on_err : {T E P : Type 0} (r : Result T E) → P → OnErr r P
on_err (Ok value) p = tt
on_err (Err fault) p = p

-- ---- what a writer gained

Appends-none : (a : Option (List ℕ)) → Appends a a []
Appends-none None = tt
Appends-none (Some u) = sym (append-nil u)

Appends-more : (a b c : Option (List ℕ)) (xs ys : List ℕ) → Appends a b xs → Appends b c ys → Appends a c (xs ++ ys)
Appends-more None b c xs ys p q = tt
Appends-more (Some u) None c xs ys p q = absurd p
Appends-more (Some u) (Some v) None xs ys p q = absurd q
Appends-more (Some u) (Some v) (Some w) xs ys p q = q ∙ ap (λ l. l ++ ys) p ∙ append_assoc u xs ys

Appends-kept : (a b c : Option (List ℕ)) (xs : List ℕ) → Appends a b xs → Keeps b c → Appends a c xs
Appends-kept None b c xs p q = tt
Appends-kept (Some u) None c xs p q = absurd p
Appends-kept (Some u) (Some v) None xs p q = absurd q
Appends-kept (Some u) (Some v) (Some w) xs p q = q ∙ p

-- ---- some went out, and some is left

-- nothing went out
pub sends_none : (a : Option (List ℕ)) (bytes : List ℕ) → Sends a a bytes bytes
sends_none a bytes = sends [] (Appends-none a) refl

-- all went out
pub sends_all : (a b : Option (List ℕ)) (bytes : List ℕ) → Appends a b bytes → Sends a b bytes []
sends_all a b bytes p = sends bytes p (sym (append-nil bytes))

-- of what was left some more went out
pub sends_more : (a b c : Option (List ℕ)) (bytes left rest : List ℕ) → Sends a b bytes left
    → Sends b c left rest → Sends a c bytes rest
sends_more a b c bytes left rest (sends f p d) (sends g q e) =
    sends (f ++ g) (Appends-more a b c f g p q) (d ∙ ap (λ l. f ++ l) e ∙ sym (append_assoc f g rest))

-- more bytes are left behind what is left
pub sends_wider : (a b : Option (List ℕ)) (bytes left more : List ℕ) → Sends a b bytes left
    → Sends a b (bytes ++ more) (left ++ more)
sends_wider a b bytes left more (sends f p e) = sends f p (ap (λ l. l ++ more) e ∙ append_assoc f left more)

-- the first n bytes of what was left went out
pub sends_taken : (a b c : Option (List ℕ)) (bytes rest : List ℕ) (n : ℕ) → Sends a b bytes rest
    → Appends b c (take n rest) → Sends a c bytes (take (length rest - n) (drop n rest))
sends_taken a b c bytes rest n s p =
    let t : Sends b c rest (drop n rest) = sends (take n rest) p (sym (take-append-drop n rest)) in
    rw (take_rest rest n) (sends_more a b c bytes rest (drop n rest) s t)

-- then the writer keeps its bytes
pub sends_kept : (a b c : Option (List ℕ)) (bytes left : List ℕ) → Sends a b bytes left → Keeps b c
    → Sends a c bytes left
sends_kept a b c bytes left (sends f p e) k = sends f (Appends-kept a b c f p k) e

-- no byte is left
pub sends_done : (a b : Option (List ℕ)) (bytes left : List ℕ) → Sends a b bytes left
    → length left ≡ 0 → Appends a b bytes
sends_done a b bytes [] (sends f p e) none = subst (Appends a b) (sym (e ∙ append-nil f)) p
sends_done a b bytes (x ∷ left) s none = absurd (omega arith)

-- nothing went out, and what is left is told another way
pub sends_held : (a : Option (List ℕ)) (bytes left : List ℕ) → left ≡ bytes → Sends a a bytes left
sends_held a bytes left e = subst (Sends a a bytes) (sym e) (sends_none a bytes)

-- ---- more bytes wait

-- the batch went out, and is as empty as it was
pub gathers_sent : (a b : Option (List ℕ)) (empty bytes : List ℕ) → empty ≡ [] → Appends a b bytes
    → Sends a b bytes empty
gathers_sent a b empty bytes none p = subst (Sends a b bytes) (sym none) (sends_all a b bytes p)

-- bytes were added behind what was left
pub gathers_added : (a b : Option (List ℕ)) (waited between waits bytes : List ℕ) → Sends a b waited between
    → waits ≡ between ++ bytes → Sends a b (waited ++ bytes) waits
gathers_added a b waited between waits bytes s e =
    subst (Sends a b (waited ++ bytes)) (sym e) (sends_wider a b waited between bytes s)

-- some went out, and then more of what was left and of more bytes
pub gathers_then : (a b c : Option (List ℕ)) (waited between waits bytes : List ℕ) → Sends a b waited between
    → Sends b c (between ++ bytes) waits → Sends a c (waited ++ bytes) waits
gathers_then a b c waited between waits bytes s t =
    sends_more a b c _ _ waits (sends_wider a b waited between bytes s) t

-- a piece of what is left goes out, behind what waited
pub sends_piece : (a b c : Option (List ℕ)) (bytes waited waits piece rest : List ℕ)
    → Sends a b bytes (waited ++ (piece ++ rest)) → Sends b c (waited ++ piece) waits
    → Sends a c bytes (waits ++ rest)
sends_piece a b c bytes waited waits piece rest s t =
    sends_more a b c bytes _ _ (rw (← append_assoc waited piece rest) at s)
    (sends_wider b c (waited ++ piece) waits rest t)

-- what is left has gone out too
pub sends_sent : (a b c : Option (List ℕ)) (bytes left : List ℕ) → Sends a b bytes left
    → Appends b c left → Appends a c bytes
sends_sent a b c bytes left (sends f q e) p = subst (Appends a c) (sym e) (Appends-more a b c f left q p)

-- ---- a front of the bytes went out

-- none of them
pub front_here : (a : Option (List ℕ)) (bytes : List ℕ) → GainsFront a a bytes
front_here a bytes = gains_front bytes (sends_none a bytes)

pub front_of_sent : (a b : Option (List ℕ)) (bytes left : List ℕ) → Sends a b bytes left → GainsFront a b bytes
front_of_sent a b bytes left s = gains_front left s

-- the first n bytes of what was left went out
pub front_taken : (a b c : Option (List ℕ)) (bytes rest : List ℕ) (n : ℕ) → Sends a b bytes rest
    → Appends b c (take n rest) → GainsFront a c bytes
front_taken a b c bytes rest n s p = front_of_sent a c bytes _ (sends_taken a b c bytes rest n s p)

-- of what was left none went out
pub front_refused : (a b c : Option (List ℕ)) (bytes left : List ℕ) → Sends a b bytes left
    → Keeps b c → GainsFront a c bytes
front_refused a b c bytes left s k = front_of_sent a c bytes left (sends_kept a b c bytes left s k)

-- a front of what was left
pub front_more : (a b c : Option (List ℕ)) (bytes left : List ℕ) → Sends a b bytes left
    → GainsFront b c left → GainsFront a c bytes
front_more a b c bytes left s (gains_front rest t) = gains_front rest (sends_more a b c bytes left rest s t)

-- a front of what waited then and a piece
pub front_piece : (a b c : Option (List ℕ)) (bytes waited piece rest : List ℕ)
    → Sends a b bytes (waited ++ (piece ++ rest)) → GainsFront b c (waited ++ piece)
    → GainsFront a c bytes
front_piece a b c bytes waited piece rest s (gains_front left t) =
    front_more a b c bytes _ (rw (← append_assoc waited piece rest) at s)
    (gains_front (left ++ rest) (sends_wider b c (waited ++ piece) left rest t))

-- a front of the first bytes
pub front_wider : (a b : Option (List ℕ)) (bytes more : List ℕ) → GainsFront a b bytes → GainsFront a b (bytes ++ more)
front_wider a b bytes more (gains_front left s) = gains_front (left ++ more) (sends_wider a b bytes left more s)

-- a front of what was left and of more bytes
pub front_then : (a b c : Option (List ℕ)) (waited between bytes : List ℕ) → Sends a b waited between
    → GainsFront b c (between ++ bytes) → GainsFront a c (waited ++ bytes)
front_then a b c waited between bytes s g =
    front_more a b c _ _ (sends_wider a b waited between bytes s) g

-- then the writer keeps its bytes
pub front_kept : (a b c : Option (List ℕ)) (bytes : List ℕ) → GainsFront a b bytes → Keeps b c → GainsFront a c bytes
front_kept a b c bytes (gains_front left s) k = gains_front left (sends_kept a b c bytes left s k)

pub grown_by_front : (a b : Option (List ℕ)) (bytes : List ℕ) → GainsFront a b bytes → Grows a b
grown_by_front a b bytes (gains_front left (sends f p e)) = grows f p

pub grown_by_none : (a : Option (List ℕ)) → Grows a a
grown_by_none a = grows [] (Appends-none a)

-- ---- a front of the output for what a reader had, where it tells its bytes

pub written_none : (known a : Option (List ℕ)) (made : List ℕ → List ℕ)
    → IfSome known (λ all. GainsFront a a (made all))
written_none None a made = tt
written_none (Some all) a made = front_here a (made all)

pub written_all : (known a b : Option (List ℕ)) (made : List ℕ → List ℕ) (start held bytes : List ℕ)
    → start ≡ [] → IfSome known (λ all. held ≡ start ++ all) → bytes ≡ held
    → GainsFront a b (made bytes) → IfSome known (λ all. GainsFront a b (made all))
written_all None a b made start held bytes none read same g = tt
written_all (Some all) a b made start held bytes none read same g =
    subst (λ l. GainsFront a b (made l)) (same ∙ read ∙ ap (λ l. l ++ all) none) g
