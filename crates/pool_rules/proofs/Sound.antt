-- A well-formed table, part by part, and a free slot of a sound pool. Assumes nothing.
use mathlib.Core.Path.{◌≡◌, refl, sym, ap, ◌∙◌}
use mathlib.Core.Bool.{Bool, true, false, ◌||◌}
use mathlib.Core.List.{List}
use Prim.Native.Nat.{ℕ, ◌+◌, ◌<◌}
use native.Mathlib.Nat.{zero-add}
use native.Mathlib.Omega.{arith}
use lib.Dec.{eqb}
use lib.ListN.{length, get_or}
use Rattle.lists.specs.Lists.{all_of}
use Rattle.lists.proofs.Below.{all_at}
use Rattle.lists.proofs.Bools.{and_both, and_left, and_right, clash}
use Rattle.pool_table.specs.Pool.{Slot, Pool, free, slot_at, slot_count, occupied}
use Rattle.pool_table.specs.Words.{is_legal, pool_of, slot_words}
use Rattle.pool_table.specs.Ranges.{limits_in_range}
use Rattle.pool_table.specs.WellFormed.{numbers_in_range, txids_distinct, total_is_sum, free_zeroed, links_mutual, acyclic, clusters_within, sound, well_formed}
use Rattle.pool_table.proofs.Rows.{Whole, whole_free, slot_is, zeroed_free}
use Rattle.pool_table.proofs.Named.{zeros_at}

-- ---- the parts

pub record Sound (p : Pool) : Type 0 where
  pub limits : limits_in_range p.limits ≡ true
  pub numbers : numbers_in_range p ≡ true
  pub distinct : txids_distinct p ≡ true
  pub total : total_is_sum p ≡ true
  pub zeroed : free_zeroed p ≡ true
  pub links : links_mutual p ≡ true
  pub acyclic : acyclic p ≡ true
  pub within : clusters_within p ≡ true

pub sound_parts : (p : Pool) → sound p ≡ true → Sound p
unfolding sound
sound_parts p h =
    let a = and_both (limits_in_range p.limits) _ h in
    let b = and_both (numbers_in_range p) _ a.1 in
    let c = and_both (txids_distinct p) _ b.1 in
    let d = and_both (total_is_sum p) _ c.1 in
    let e = and_both (free_zeroed p) _ d.1 in
    let f = and_both (links_mutual p) _ e.1 in
    let g = and_both (acyclic p) (clusters_within p) f.1 in
    record { limits = a.0; numbers = b.0; distinct = c.0; total = d.0; zeroed = e.0; links = f.0; acyclic = g.0; within = g.1 }

module _ (t : List ℕ) (h : well_formed t ≡ true) where
  pub well_legal : is_legal (length t) ≡ true
  unfolding well_formed
  well_legal = and_left (is_legal (length t)) (sound (pool_of t)) h

  pub well_sound : Sound (pool_of t)
  unfolding well_formed
  well_sound = sound_parts (pool_of t) (and_right (is_legal (length t)) (sound (pool_of t)) h)

-- ---- a free slot

-- a slot whose words are all 0 is the free one
pub zeroed_is : (x : Slot) → Whole x → all_of (eqb 0) (slot_words x) ≡ true → x ≡ free
zeroed_is x w h =
    let ws = slot_words x in
    sym (slot_is ws 0 x w (λ k _. ap (λ (n : ℕ). get_or ws n 0) (zero-add k)))
    ∙ slot_is ws 0 free whole_free (λ k _. zeros_at ws (0 + k) h ∙ sym (zeros_at (slot_words free) k zeroed_free))

pub free_is : (p : Pool) → Sound p → (s : ℕ) → s < slot_count p → Whole (slot_at p s) → occupied p s ≡ false → slot_at p s ≡ free
unfolding free_zeroed
free_is p h s l w o =
    zeroed_is (slot_at p s) w
    (else (occupied p s) (all_of (eqb 0) (slot_words (slot_at p s))) o
    (all_at (λ s. occupied p s || all_of (eqb 0) (slot_words (slot_at p s))) (slot_count p) 0 h.zeroed s (omega arith) (omega arith)))
  where
    else : (b c : Bool) → b ≡ false → (b || c) ≡ true → c ≡ true
    else true c e q = clash refl e
    else false c e q = q
