-- Facts that contracts keep folded: no search takes one apart, so that a proof that fails ends soon.

-- a fact, which an answer opens by `fact_of`
unfoldable pub Folded : Type 0 → Type 0
Folded Fact = Fact
