-- What a folded fact says.
use Rattle.lexical_parse_integer.specs.Folded.{Folded}

pub fact_of : {Fact : Type 0} → Folded Fact → Fact
unfolding Folded
fact_of fact = fact

pub folded : {Fact : Type 0} → Fact → Folded Fact
unfolding Folded
folded fact = fact
