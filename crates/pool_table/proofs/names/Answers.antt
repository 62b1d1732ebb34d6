use mathlib.Core.Path.{ap, ◌∙◌}
use Prim.Native.Nat.{ℕ, ◌%◌}
use Rattle.txset.specs.Sets.{has, has_in}
use Rattle.txset.proofs.Bits.{has_shift}
use Rattle.pool_table.proofs.names.Goals as goal

pub returns : goal.returns
unfolding has_in
returns c = let b = c.args.b in
    has_shift c.link_word.result (b % 64) ∙ ap (λ (w : ℕ). has w (b % 64)) c.link_word.ensures
