use Rattle.std.proofs.Common.{◌≡◌, true, refl, subst}
use Rattle.std.specs.Prelude.{◌&&◌}
use Rattle.std.specs.Bool.{Decides}
use Rattle.std.proofs.lemmas.Bool.{and_parts}
use Rattle.lexical_util.specs.declared.format.kind.FormatKind.{FormatKind}
use Rattle.lexical_util.specs.declared.format.kind.FormatKind.TheVariants.{Decimal, Plain, Other, Invalid}
use Rattle.lexical_util.specs.Format.{Format}
use Rattle.lexical_util.specs.Kind.{kind_of}
use Rattle.lexical_util.proofs.Same.{format_eq, format_eq_decides}
use Rattle.lexical_util.specs.contracts.format.kind.FormatKindPartialEq.TheImpl.{ghosts as kinds}
use Rattle.library_tests.proofs.tests.util.derives.are_equal_formats.Goals as goal

same : (kind : FormatKind) → kinds.eq kind kind ≡ true
same Decimal = refl
same Plain = refl
same Other = refl
same Invalid = refl

decided : (a b : Format) → Decides (format_eq a b && kinds.eq (kind_of a) (kind_of b)) (a ≡ b)
decided a b = (
  (λ e. (format_eq_decides a b).0 (and_parts (format_eq a b) _ e).0),
  (λ e. subst (λ f. (format_eq a f && kinds.eq (kind_of a) (kind_of f)) ≡ true) e both),
)
  where
    both : (format_eq a a && kinds.eq (kind_of a) (kind_of a)) ≡ true
    both = rw ((format_eq_decides a a).1 refl) (same (kind_of a))

pub returns : goal.returns
returns c = rw c.eq.ensures (decided c.args.format.now c.args.other.now)
