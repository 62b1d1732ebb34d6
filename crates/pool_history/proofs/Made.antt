-- A pool made anew, and a pool that was cleared, is sound. Assumes nothing.
use mathlib.Core.Path.{◌≡◌, sym, ap, ◌∙◌}
use mathlib.Core.Bool.{true, false}
use Prim.Native.Nat.{ℕ}
use Rattle.lists.proofs.Bools.{clash}
use Rattle.txset.specs.Sets.{has_in}
use Rattle.ways.specs.Ways.{Way, step, further}
use Rattle.pool_table.specs.declared.Limits.{Limits}
use Rattle.pool_table.specs.declared.Side.{Side}
use Rattle.pool_table.specs.declared.Side.TheVariants.{Parents, Children}
use Rattle.pool_table.specs.Pool.{Slot, Pool, slot_count, is_occupied, occupied}
use Rattle.pool_table.specs.Changes.{made}
use Rattle.pool_table.specs.Ranges.{limits_in_range}
use Rattle.pool_table.specs.Links.{side_of, is_parent}
use Rattle.pool_table.specs.WellFormed.{sound}
use Rattle.pool_table.proofs.Pools.{made_at}
use Rattle.pool_table.proofs.Named.{free_side}
use Rattle.pool_rules.specs.Module8.{cleared}
use Rattle.pool_rules.proofs.Sound.{sound_parts}
use Rattle.pool_history.proofs.Plain.{names, parent_names, plain_sound}
use Rattle.pool_history.proofs.Compared.{weightless}

module _ (l : Limits) (n : ℕ) where
  -- no slot is occupied, and none names another
  pub made_free : (s : ℕ) → occupied (made l n) s ≡ false
  unfolding is_occupied
  made_free s = ap is_occupied (made_at l n s)

  pub made_names : (side : Side) (a b : ℕ) → names (made l n) side a b ≡ false
  made_names side a b = ap (λ (x : Slot). has_in (side_of side x) b) (made_at l n a) ∙ free_side side b

  no_chain : (a b : ℕ) → Way (is_parent (made l n)) a b → ⊥
  no_chain a b (step e) = clash (parent_names (made l n) a b e) (made_names Parents a b)
  no_chain a b (further {p = c} e u) = clash (parent_names (made l n) a c e) (made_names Parents a c)

  pub sound_made : limits_in_range l ≡ true → sound (made l n) ≡ true
  unfolding made
  sound_made h =
      plain_sound
      (record {
        limits = h;
        numbers = λ s o. clash o (made_free s);
        distinct = λ a b o q e. clash o (made_free a);
        total = sym (weightless (made l n) (λ s. true) (λ s. ap (λ (x : Slot). x.entry.weight.0) (made_at l n s)));
        empty = λ s o. made_at l n s;
        links = λ a b. made_names Parents a b ∙ sym (made_names Children b a);
        named = λ side a b e. clash e (made_names side a b);
        acyclic = λ a u. no_chain a a u;
        within = λ s o. clash o (made_free s);
      })

pub sound_cleared : (p : Pool) → sound p ≡ true → sound (cleared p) ≡ true
unfolding cleared
sound_cleared p h = sound_made p.limits (slot_count p) (sound_parts p h).limits
