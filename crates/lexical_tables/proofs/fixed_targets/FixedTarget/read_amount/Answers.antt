use Rattle.std.proofs.Common.{◌≤◌, ◌+◌, ◌*◌, length, refl, sym, subst}
use Rattle.std.specs.Prelude.{IfSome}
use Rattle.lexical_tables.proofs.fixed_targets.FixedTarget.read_amount.Goals as goal

pub put_presence-requires : goal.put_presence-requires
put_presence-requires c = record {
  room = subst (λ target. IfSome target.present (λ bytes. c.args.row + 1 ≤ 8 * length bytes))
      (sym (c.if-not-put_amount.ensures.target refl 0)) c.requires.usable.2;
}
