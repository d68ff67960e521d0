use Rattle.lexical_literals.proofs.TokenLists.{tokens_are_few, tokens_are_parts, tokens_in_turn}
use Rattle.lexical_literals.proofs.Tokens.with_format.Goals as goal

pub returns-clause-order : goal.returns-clause-order
returns-clause-order c =
    tokens_in_turn (record { within = c.front_end.ensures.within; some = c.front_end.ensures.some })
    c.args.format.now c.args.source.now

pub returns-clause-parts : goal.returns-clause-parts
returns-clause-parts c =
    tokens_are_parts (record {
      within = c.front_end.ensures.within;
      some =
          c.front_end.ensures.some;
    }) c.args.format.now c.args.source.now

pub returns-clause-count : goal.returns-clause-count
returns-clause-count c = tokens_are_few c.args.format.now c.args.source.now
