use Rattle.std.proofs.Common.{sym}
use Rattle.lexical_literals.specs.TypedLiterals.{type_of}
use Rattle.lexical_literals.proofs.NumberStops.{none_is_there, some_is_there}
use Rattle.lexical_literals.proofs.TypedFronts.{read_by_type, refused_by_all, refused_by_type}
use Rattle.lexical_literals.proofs.typed.value_as.Goals.{in-Some+else-is_of_kind, in_default}
use Rattle.lexical_literals.proofs.typed.value_as.Goals as goal

pub returns-then-is_of_kind : goal.returns-then-is_of_kind
returns-then-is_of_kind c =
    let front = c.args.front.now in
    read_by_type c.args.format.now c.args.text.now front.stop c.requires.stop (type_of c.args.kind) c.in-Some.value
    (some_is_there _ _ _ c.in-Some.is c.requires.value) (sym c.if-is_of_kind.ensures)

pub fault_in_kind-requires : goal.fault_in_kind-requires
fault_in_kind-requires c =
    let front = c.args.front.now in
    elim c.match-front.branch [
      | in-Some+else-is_of_kind w ↦
          refused_by_type c.args.format.now c.args.text.now front.stop c.requires.stop (type_of c.args.kind) w.in-Some.value
          (some_is_there _ _ _ w.in-Some.is c.requires.value) (sym w.if-is_of_kind.ensures)
      | in_default w ↦
          refused_by_all c.args.format.now c.args.text.now front.stop c.requires.stop c.args.kind
          (none_is_there _ _ w.in_default.is c.requires.no_room)
    ]
