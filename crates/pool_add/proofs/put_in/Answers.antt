use mathlib.Core.Path.{ap}
use Prim.Native.Nat.{ℕ, ◌+◌}
use Rattle.pool_add.proofs.Links.{put_becomes}
use Rattle.pool_add.proofs.put_in.Goals as goal

pub returns : goal.returns
returns c = let a = c.args in
    put_becomes _ a.slot a.entry (ap (λ (n : ℕ). n + a.entry.weight.0) c.total.ensures) c.put_total.ensures c.put_entry.ensures c.link_parents.ensures
