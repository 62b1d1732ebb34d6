-- A cluster that is not refused, ordered and cut. Assumes nothing.
use Prim.Native.Nat.{ℕ}
use native.Mathlib.Omega.{arith}
use mathlib.Core.Path.{◌≡◌, refl, sym, ap, ◌∙◌}
use mathlib.Core.Bool.{false}
use mathlib.Core.List.{List}
use lib.ListN.{length, take, drop}
use lib.Seq.{take_at}
use lib.IntN.{ℤ}
use borrow.Author.Tests.{eq-eqb, le-ltb}
use Rattle.lists.specs.Lists.{overwrite}
use Rattle.txset.specs.Sets.{positions}
use Rattle.refusals.specs.Refusals.{differ₃}
use Rattle.refusals.proofs.Lines.{Past, Takes, none_past, past, all_past, writes}
use Rattle.chunking.specs.Orders.{order_lengths, lengths_written, lengths_filled}
use Rattle.chunking.proofs.Orders.{all_lengths}
use Rattle.linearize.specs.Linearize.{linear_order, refusals, room_after}
use Rattle.linearize.proofs.Theorems.{linear_length}
use Rattle.pool_chunks.specs.Steps.{Answered}

module _ {fs : List ℤ} {ss ps order lens : List ℕ} (a : Answered fs ss ps order lens) where
  abbrev o : List ℕ
  o = linear_order fs ss ps

  takes : Takes (refusals fs ss ps order)
  unfolding refusals
  takes =
      let alike : differ₃ (length fs) (length ss) (length ps) ≡ false =
      rw (eq-eqb (length fs) (length ss) (sym a.sizes), eq-eqb (length fs) (length ps) (sym a.parents)) in
      let few : Past (refusals fs ss ps order) 2 = past (past (none_past refl) alike) (le-ltb positions (length fs) a.few) in
      all_past (past (past (past few (le-ltb (length order) (length fs) a.wide)) a.inside) a.acyclic) refl

  long : length o ≡ length fs
  long = linear_length fs ss ps a.parents a.acyclic

  -- what the three rooms and the count are
  abbrev pub Cut : ℕ → List ℕ → List ℕ → Type 0
  Cut r new lengths = (r ≡ length (order_lengths fs ss o)) × ((new ≡ overwrite o order) × (lengths ≡ overwrite (order_lengths fs ss o) lens))

  -- by both calls
  pub calls_cut : {new lengths : List ℕ} {r : ℕ} → new ≡ room_after fs ss ps order → r ≡ lengths_written fs ss (take (length fs) new) lens
      → lengths ≡ lengths_filled fs ss (take (length fs) new) lens → Cut r new lengths
  unfolding room_after
  calls_cut {new} {lengths} {r} e f g =
      let w : new ≡ overwrite o order = e ∙ sym (writes order (overwrite o order) takes refl) in
      let t : take (length fs) new ≡ o = ap (take (length fs)) w ∙ take_at o (drop (length o) order) (length fs) long in
      let all = all_lengths fs ss o lens lengths r (omega (arith, long, a.few)) (omega (arith, long, a.wide_lens)) (rw t at f) (rw t at g) in
      (all.0, (w, all.1 ∙ rw all.0))
