use mathlib.Core.Path.{◌≡◌, ◌∙◌}
use Prim.Native.Nat.{ℕ}
use native.Mathlib.Omega.{arith}
use lib.Dec.{eqb}
use Rattle.txset.specs.Sets.{has_in}
use Rattle.txset.proofs.Words.{has_in_zeros}
use Rattle.pool_table.specs.Words.{pool_of}
use Rattle.pool_clusters.proofs.Words.{seed_one}
use Rattle.pool_clusters.proofs.Gathering.{slots_few}
use Rattle.pool_clusters.proofs.Limits.{gathered_same, of_one}
use Rattle.pool_clusters.proofs.Slots.cluster.Goals as goal

pub returns : goal.returns
returns c = let args = c.args in
    let p = pool_of args.self.now.table.now in
    -- the one seed
    let seed : (i : ℕ) → has_in c.insert.new.set i ≡ eqb i args.a =
    λ i.
    c.insert.ensures.by_index i
    ∙ seed_one args.a i _ (omega (arith, slots_few p args.self.now.all c.args.self.now.all_slots, c.requires)) (has_in_zeros 16 i) in
    gathered_same p _ _ (of_one p _ args.a c.requires seed) args.limit c.gather.result c.gather.ensures
