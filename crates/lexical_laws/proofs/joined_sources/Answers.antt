use Rattle.std.proofs.Common.{refl}
use Rattle.lexical_literals.specs.Tokens.{literals}
use Rattle.lexical_laws.proofs.JoinedTokens.{line_feed_parts, tokens_joined}
use Rattle.lexical_laws.proofs.joined_sources.Goals as goal

pub returns-clause-lines : goal.returns-clause-lines
returns-clause-lines c = λ first second.
    tokens_joined (record { within = c.front_end.ensures.within; some = c.front_end.ensures.some })
    literals 10 second refl line_feed_parts first

pub returns-clause-parts : goal.returns-clause-parts
returns-clause-parts c = λ format byte first second valid parts.
    tokens_joined (record { within = c.front_end.ensures.within; some = c.front_end.ensures.some })
    format byte second valid parts first
