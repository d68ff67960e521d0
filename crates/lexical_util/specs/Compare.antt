-- Comparisons of a type's values are those of the numbers that they stand for. An unsigned type's values
-- are natural numbers, and a signed type's are integers. These lemmas stand here because an `impl` can name
-- none of its own crate's `proofs/`.
use Rattle.std.specs.Prelude.{◌≡◌, ◌↔◌, ◌==◌, ◌<◌, ◌<ℤ◌, ℕ, T, pos, Some, IsTrue}
use Rattle.std.specs.Cmp.{int_cmp_is, ranks}
use Rattle.std.specs.Ordering.{MatchOrdering, int_cmp, int_eq, nat_cmp}
use Rattle.std.specs.declared.cmp.Ordering.{Ordering}
use Rattle.std.specs.declared.cmp.Ordering.TheVariants.{Less, Equal, Greater}
use Rattle.std.proofs.Common.{ap, subst, sym}
use Rattle.std.proofs.lemmas.Bool.{lt-ltb}
use Rattle.std.proofs.lemmas.Bool.Decides.{Decides-eqb, Decides-int_eq}
use lib.IntN.{ℤ}
use lib.Signed.{lt_z_yes, mag}

-- `==` of an unsigned type
pub unsigned-eq : (value other : ℕ) → IsTrue (value == other) ↔ (pos value ≡ pos other)
unsigned-eq value other =
    let decided = Decides-eqb value other in
    ((λ same. ap pos (decided.0 same)), (λ same. decided.1 (ap mag same)))

-- `==` of a signed type
pub signed-eq : (value other : ℤ) → IsTrue (int_eq value other) ↔ (value ≡ other)
signed-eq value other = Decides-int_eq value other

pos-less : (value other : ℕ) → value < other → pos value <ℤ pos other
pos-less value other less = lt_z_yes (subst T (sym (lt-ltb value other less)) tt)

-- what the order of natural numbers tells, of integers
order_of_numbers : (value other : ℕ) (order : Ordering)
    → MatchOrdering order (value < other) (value ≡ other) (other < value)
    → MatchOrdering order (pos value <ℤ pos other) (pos value ≡ pos other) (pos other <ℤ pos value)
order_of_numbers value other Less less = pos-less value other less
order_of_numbers value other Equal same = ap pos same
order_of_numbers value other Greater greater = pos-less other value greater

-- `cmp` of an unsigned type
pub unsigned-cmp : (value other : ℕ) → nat_cmp value other ≡ int_cmp (pos value) (pos other)
unsigned-cmp value other =
    int_cmp_is (pos value) (pos other) (nat_cmp value other)
    (order_of_numbers value other (nat_cmp value other) (ranks value other))

-- `partial_cmp` of an unsigned type
pub unsigned-order : (value other : ℕ)
    → Some (nat_cmp value other) ≡ Some (int_cmp (pos value) (pos other))
unsigned-order value other = ap Some (unsigned-cmp value other)

-- no two values of an unsigned type are one number
pub pos-injective : (value other : ℕ) → pos value ≡ pos other → value ≡ other
pos-injective value other same = ap mag same
