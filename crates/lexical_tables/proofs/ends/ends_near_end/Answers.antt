use Rattle.std.proofs.Common.{◌<◌, ◌-◌, ◌+◌, ◌≡◌, ◌∙◌, ℕ, length, ap, arith, cond}
use Rattle.lexical_tables.specs.Ends.{is_end}
use Rattle.lexical_tables.proofs.EndLooks.{low_mark, no_mark, same_end}
use Rattle.lexical_tables.proofs.ends.ends_near_end.Goals as goal

pub returns : goal.returns
returns c =
    let few : length c.args.text.now - 16 < 64 = omega (arith, c.requires.few) in
    record {
      seen = length c.args.text.now - 16;
      few = omega (arith, few);
      room = λ some. omega (arith, c.if-text-le-ROOM_BEHIND.false);
      here = λ k low.
          let at : 0 + k ≡ k = omega arith in
          low_mark c.look_at_64-look.result.ends (length c.args.text.now - 16) k few low
          ∙ c.look_at_64-look.ensures.here k (omega (arith, few, low))
          ∙ ap (λ t. cond {A = ℕ} t 1 0) (ap (is_end c.args.has_quotes c.args.separator c.with_zeros_behind-bytes.result) at
          ∙ same_end c.args.has_quotes c.args.separator c.with_zeros_behind-bytes.result c.args.text.now
          (length c.args.text.now - 16) k (c.with_zeros_behind-bytes.ensures (length c.args.text.now - 16)
          (omega (arith, c.if-text-le-ROOM_BEHIND.false)) (omega (arith, few))) low);
      beyond = λ k high. no_mark c.look_at_64-look.result.ends (length c.args.text.now - 16) k few high;
    }
