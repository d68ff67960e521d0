use Rattle.lexical_fields.proofs.FieldSteps.{read_are_few}
use Rattle.lexical_fields.proofs.FieldPieces.{read_are_pieces}
use Rattle.lexical_fields.proofs.iterator.Fields.new.Goals as goal

pub returns-clause-count : goal.returns-clause-count
returns-clause-count g c = read_are_few c.args.format.now g.T.Integer.TYPE c.args.separator 0 c.args.text.now

pub returns-clause-pieces : goal.returns-clause-pieces
returns-clause-pieces g c = read_are_pieces c.args.format.now g.T.Integer.TYPE c.args.separator 0 c.args.text.now
