-- A pool of which the account of events is right is the pool that stands by them (specs/Standing.antt). Assumes nothing.
use mathlib.Core.Path.{◌≡◌, refl, sym, ◌∙◌}
use mathlib.Core.Bool.{Bool, true, ◌&&◌}
use mathlib.Core.List.{List}
use Prim.Native.Nat.{ℕ}
use native.Mathlib.Omega.{arith}
use Rattle.lists.proofs.Bools.{clash, cases, is_false}
use Rattle.slotsets.proofs.SlotSets.{set_is}
use Rattle.txids.specs.declared.Txid.{Txid}
use Rattle.pool_table.specs.declared.Side.TheVariants.{Parents, Children}
use Rattle.pool_table.specs.Pool.{Slot, Pool, slot_at, slot_count}
use Rattle.pool_table.specs.Changes.{made}
use Rattle.pool_table.proofs.Pools.{pool_ext, made_count}
use Rattle.pool_table.proofs.Rows.{slot_same}
use Rattle.pool_table.proofs.Theorems.{Wholes}
use Rattle.pool_rules.specs.Module8.{with_slots}
use Rattle.pool_rules.proofs.Pools.{count_with, slot_with}
use Rattle.pool_history.specs.History.{Event}
use Rattle.pool_history.specs.Standing.{linked, total_weight, board, limits_now, standing_at, standing}
use Rattle.pool_history.proofs.Plain.{names, Plain}
use Rattle.pool_history.proofs.Places.{At}
use Rattle.pool_history.proofs.Account.{account, Right}
use Rattle.pool_history.proofs.Fitting.{Fitting}

pub standing_limits : (n : ℕ) (es : List Event) → (standing n es).limits ≡ limits_now es
unfolding standing with_slots made
standing_limits n es = refl

module _ {n : ℕ} {p : Pool} (es : List Event) (h : Right n (account n es) p) (plain : Plain p) (w : Wholes p.slots)
    (fit : (s : ℕ) → Fitting (slot_at p s)) where
  abbrev who : ℕ → Txid
  who s = (board n es).who s

  abbrev used : ℕ → Bool
  used s = (board n es).used s

  -- in a slot in use stands whose it is
  whose : (s : ℕ) → used s ≡ true → At p (who s) s
  whose s u =
      let a : At p (slot_at p s).entry.txid s = record { there = h.used s ∙ u; named = refl } in
      record { there = a.there; named = sym (h.told (slot_at p s).entry.txid s a).who }

  link_is : (a b : ℕ) → used a ≡ true → names p Parents a b ≡ (used b && linked es (who a) (who b))
  link_is a b u =
      cases (used b)
      (λ v. rw v (h.links (who a) (who b) a b (whose a u) (whose b v)))
      (λ v. rw v (is_false (names p Parents a b) (λ e. clash (plain.named Parents a b e) (h.used b ∙ v))))

  child_is : (a b : ℕ) → used a ≡ true → names p Children a b ≡ (used b && linked es (who b) (who a))
  child_is a b u =
      cases (used b)
      (λ v. rw v (sym (plain.links b a) ∙ h.links (who b) (who a) b a (whose b v) (whose a u)))
      (λ v. rw v (is_false (names p Children a b) (λ e. clash (plain.named Children a b e) (h.used b ∙ v))))

  slot_stands : (s : ℕ) → slot_at p s ≡ standing_at n es s
  unfolding standing_at slot_at
  slot_stands s =
      cases (used s)
      (λ u.
      rw u
      (slot_same
      (h.told (who s) s (whose s u)).held
      (sym (set_is _ (slot_at p s).parents (w s).parents (fit s).parents (λ i _. link_is s i u)))
      (sym (set_is _ (slot_at p s).children (w s).children (fit s).children (λ i _. child_is s i u)))))
      (λ u. rw u (plain.empty s (h.used s ∙ u)))

  pub pool_stands : p ≡ standing n es
  unfolding standing total_weight with_slots made
  pool_stands =
      let q = made (limits_now es) n in
      let f : ℕ → Slot → Slot = λ s x. standing_at n es s in
      let m : slot_count (standing n es) ≡ n = count_with q (total_weight es) f ∙ made_count (limits_now es) n in
      pool_ext p (standing n es) h.limits (omega (arith, h.total)) (h.count ∙ sym m)
      (λ s l. slot_stands s ∙ sym (slot_with q (total_weight es) f s (omega (arith, h.count, made_count (limits_now es) n))))
