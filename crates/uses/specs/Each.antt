-- The answers of several parses, one after another.
use Rattle.std.specs.Prelude.{ℕ, ◌+◌, List, [], ◌∷◌, Result, Ok, Err}

-- a value put before those that others gave, or the fault among these, whose index is then one more
abbrev pub in_front_of : {A E : Type 0} → A → Result (List A) (ℕ × E) → Result (List A) (ℕ × E)
in_front_of value (Ok values) = Ok (value ∷ values)
in_front_of value (Err fault) = Err (fault.0 + 1, fault.1)

-- the values of all answers, or the index of the first fault with it
abbrev pub each : {A E : Type 0} → List (Result A E) → Result (List A) (ℕ × E)
each [] = Ok []
each (Err e ∷ answers) = Err (0, e)
each (Ok value ∷ answers) = in_front_of value (each answers)
