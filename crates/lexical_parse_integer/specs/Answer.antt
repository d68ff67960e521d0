-- What a call answered, with its integer as a whole number.
use Rattle.std.specs.Prelude.{ℕ, Result, Ok, Err}

-- an answer, with its value as view shows it
abbrev pub view_of : {X Y E : Type 0} → (X → Y) → Result X E → Result Y E
view_of view (Ok value) = Ok (view value)
view_of view (Err error) = Err error

-- a value and a place, with the value as view shows it
abbrev pub with_place : {X Y : Type 0} → (X → Y) → X × ℕ → Y × ℕ
with_place view found = (view found.0, found.1)
