-- How many turns words take, and the bound on them: for the answers of `algorithm::counted::multi`, `algorithm::counted::numeral`
-- and `algorithm::counted::read`.
pub mod NumeralTurns
pub mod TurnBound
pub mod WordSteps
