-- The cluster of a slot held against the limits: what the search says of it, by the limits of the table. Assumes nothing.
use mathlib.Core.Path.{◌≡◌, sym, ap, ◌∙◌, subst}
use Prim.Native.Nat.{ℕ}
use mathlib.Core.Bool.{false}
use native.Mathlib.Omega.{arith}
use lib.Dec.{leb}
use Rattle.pool_table.specs.declared.Limits.{Limits}
use Rattle.pool_table.specs.Words.{pool_of}
use Rattle.pool_table.specs.Links.{in_cluster, count_of}
use Rattle.pool_clusters.specs.Clusters.{AllOf}
use Rattle.pool_clusters.proofs.Limits.{size_small, too_many, too_heavy, stands}
use Rattle.pool_clusters.proofs.Slots.limited_cluster.Goals as goal
use Rattle.pool_clusters.proofs.Slots.limited_cluster.Goals.{In_ok-found}

pub returns-in_err-found : goal.returns-in_err-found
returns-in_err-found c =
    let p = pool_of c.args.self.now.table.now in
    let few : leb (count_of p (in_cluster p c.args.a)) p.limits.count ≡ false =
    ap (λ (l : Limits). leb (count_of p (in_cluster p c.args.a)) l.count) (sym c.requires.limits_value.are) ∙ c.in_err-found.ensures in
    rw c.from_residual.ensures (too_many p (in_cluster p c.args.a) few)

size_is : (c : In_ok-found) → c.args.limits.size ≡ (pool_of c.args.self.now.table.now).limits.size
size_is c = ap (λ (l : Limits). l.size) c.requires.limits_value.are

all_of : (c : In_ok-found) → let p = pool_of c.args.self.now.table.now in AllOf p (in_cluster p c.args.a) p.limits.count c.in_ok-found.found
all_of c =
    let p = pool_of c.args.self.now.table.now in
    let P : ℕ → Type 0 = λ n. AllOf p (in_cluster p c.args.a) n c.in_ok-found.found in
    subst P (ap (λ (l : Limits). l.count) c.requires.limits_value.are) c.in_ok-found.ensures

pub overflow_mul-limits : goal.overflow_mul-limits
overflow_mul-limits c =
    let r = c.requires.limits_value in
    omega (arith, ap (λ (l : Limits). l.size) r.are, size_small (pool_of c.args.self.now.table.now).limits r.ranged)

pub returns-then-limits-found : goal.returns-then-limits-found
returns-then-limits-found c =
    let k = (goal.at.returns-then-limits-found c).In_ok-found in
    let p = pool_of c.args.self.now.table.now in
    too_heavy p (in_cluster p c.args.a) c.in_ok-found.found (all_of k) (size_small p.limits c.requires.limits_value.ranged)
    (omega (arith, size_is k))

pub returns : goal.returns
returns c =
    let k = (goal.at.returns c).In_ok-found in
    let p = pool_of c.args.self.now.table.now in
    record {
      within =
          stands p (in_cluster p c.args.a) c.in_ok-found.found (all_of k) (size_small p.limits c.requires.limits_value.ranged)
          (omega (arith, size_is k));
      members = c.in_ok-found.ensures.members;
    }
