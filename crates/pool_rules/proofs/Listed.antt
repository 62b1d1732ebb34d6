-- The set of the slots that a list of txids names, one txid after the other. Assumes nothing.
use mathlib.Core.Path.{◌≡◌, sym, ap, ap₂, ◌∙◌}
use mathlib.Core.Bool.{Bool, true, false, not, ◌&&◌, ◌||◌, and-false, or-false}
use mathlib.Core.List.{List}
use Prim.Native.Nat.{ℕ, ◌+◌, ◌*◌, ◌<◌}
use native.Mathlib.Nat.{zero-add}
use native.Mathlib.Omega.{arith}
use lib.Dec.{eqb, ltb}
use lib.ListN.{length, replicate}
use borrow.Author.Tests.{lt-ltb, eqb-true}
use Rattle.lists.specs.Below.{any_from, first_from}
use Rattle.lists.proofs.Below.{any_split, first_below, first_has}
use Rattle.lists.proofs.Bools.{and_both, and_left, and_right}
use Rattle.lists.proofs.Numbers.{flip}
use Rattle.txset.specs.Sets.{has_in}
use Rattle.txset.proofs.Words.{Fits}
use Rattle.slotsets.specs.SlotSets.{set_words, span, set_of}
use Rattle.slotsets.proofs.SlotSets.{set_is, set_at, set_ext, none_zeros}
use Rattle.txids.specs.declared.Txid.{Txid}
use Rattle.txids.specs.Txids.{same_txid, txid_at, listed_count}
use Rattle.pool_table.specs.Pool.{Pool, slot_count, occupied}
use Rattle.pool_rules.specs.Module8.{holds, is_in, slot_of, is_place_of, is_listed}

module _ (p : Pool) (own t : Txid) where
  -- ---- one txid

  pub own_nowhere : same_txid t own ≡ true → (i : ℕ) → is_place_of p own t i ≡ false
  unfolding is_place_of
  own_nowhere e i = rw e

  pub absent_nowhere : is_in p t ≡ false → (i : ℕ) → is_place_of p own t i ≡ false
  unfolding is_place_of
  absent_nowhere e i = rw e (and-false (not (same_txid t own)))

  place_at : (s : ℕ) → same_txid t own ≡ false → (is_in p t ≡ true) × (slot_of p t ≡ s) → (i : ℕ) → eqb i s ≡ is_place_of p own t i
  unfolding is_place_of
  place_at s n e i = rw (n, e.0, e.1) (flip i s)

  -- a set with its place
  abbrev pub with_place : List ℕ → List ℕ
  with_place ws = set_of (λ i. has_in ws i || is_place_of p own t i)

  -- where it has none, nothing is entered
  pub entered_none : (ws : List ℕ) → length ws ≡ set_words → Fits ws → ((i : ℕ) → is_place_of p own t i ≡ false) → ws ≡ with_place ws
  entered_none ws l f e = sym (set_is _ ws l f (λ i _. sym (ap (λ (b : Bool). has_in ws i || b) (e i) ∙ or-false (has_in ws i))))

  pub entered_at : (s : ℕ) → same_txid t own ≡ false → (is_in p t ≡ true) × (slot_of p t ≡ s) → (ws new : List ℕ) → length ws ≡ set_words → Fits new
      → (length new ≡ length ws) × ((i : ℕ) → has_in new i ≡ (has_in ws i || (ltb i (span ws) && eqb i s))) → new ≡ with_place ws
  entered_at s n e ws new l f h =
      sym (set_is _ new (h.0 ∙ l) f
      (λ i m.
      h.1 i
      ∙ ap (λ (b : Bool). has_in ws i || b) (ap₂ ◌&&◌ (lt-ltb i (span ws) (omega arith)) (place_at s n e i))))

-- ---- one after the other

module _ (p : Pool) (own : Txid) (listed : List ℕ) where
  -- the place of one of the first j
  abbrev pub among : ℕ → ℕ → Bool
  among j i = any_from (λ k. is_place_of p own (txid_at listed (32 * k)) i) j 0

  pub listed_start : replicate set_words 0 ≡ set_of (among 0)
  unfolding any_from
  listed_start = sym none_zeros

  pub listed_turn : (j : ℕ) (ws new : List ℕ) (t : Txid) → ws ≡ set_of (among j) → t ≡ txid_at listed (32 * j) → new ≡ with_place p own t ws
      → new ≡ set_of (among (j + 1))
  unfolding any_from
  listed_turn j ws new t e z h =
      h ∙ set_ext _ _
      (λ i l.
      let f : ℕ → Bool = λ k. is_place_of p own (txid_at listed (32 * k)) i in
      ap₂ ◌||◌ (ap (λ (us : List ℕ). has_in us i) e ∙ set_at (among j) i l) (ap (λ (u : Txid). is_place_of p own u i) z)
      ∙ sym (any_split f j 1 0 ∙ ap (λ (b : Bool). any_from f j 0 || b) (or-false (f (0 + j)) ∙ ap f (zero-add j))))

  pub listed_done : (j : ℕ) (ws : List ℕ) → j ≡ listed_count listed → ws ≡ set_of (among j) → ws ≡ set_of (is_listed p own listed)
  unfolding is_listed
  listed_done j ws e h = h ∙ ap (λ (k : ℕ). set_of (among k)) e

  -- ---- what is listed

  place_held : (t : Txid) (s : ℕ) → is_place_of p own t s ≡ true → (s < slot_count p) × (occupied p s ≡ true)
  unfolding is_place_of is_in slot_of holds
  place_held t s h =
      let n = slot_count p in
      let b = and_both (is_in p t) (eqb (slot_of p t) s) (and_right (not (same_txid t own)) _ h) in
      let e : slot_of p t ≡ s = eqb-true (slot_of p t) s b.1 in
      let l : slot_of p t < 0 + n = first_below (holds p t) n 0 b.0 in
      let o : occupied p (slot_of p t) ≡ true = and_left (occupied p (slot_of p t)) _ (first_has (holds p t) n 0 b.0) in
      (omega arith, rw e at o)

  -- it is an entry's slot
  pub listed_held : (s : ℕ) → is_listed p own listed s ≡ true → (s < slot_count p) × (occupied p s ≡ true)
  unfolding is_listed
  listed_held s h =
      let f : ℕ → Bool = λ j. is_place_of p own (txid_at listed (32 * j)) s in
      place_held (txid_at listed (32 * first_from f (listed_count listed) 0)) s (first_has f (listed_count listed) 0 h)
