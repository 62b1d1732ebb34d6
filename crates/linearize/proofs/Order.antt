-- The four steps of linearize as one. Assumes nothing.
use Prim.Native.Nat.{ℕ, ◌≤◌}
use native.Mathlib.Omega.{arith}
use mathlib.Core.Path.{◌≡◌, sym, ap, ap₂, ◌∙◌}
use mathlib.Core.Bool.{Bool, true, cond, ◌&&◌}
use mathlib.Core.List.{List, ◌++◌, append-nil}
use lib.ListN.{length, drop, drop_of_length-le}
use lib.Dec.{leb}
use lib.IntN.{ℤ}
use borrow.Author.Tests.{le-leb}
use Rattle.lists.specs.Lists.{overwrite}
use Rattle.txset.specs.Sets.{positions, mem_at}
use Rattle.depgraph.specs.declared.DepGraph.{DepGraph}
use Rattle.depgraph.specs.Closed.{Closed}
use Rattle.depgraph.proofs.Theorems.{ancestor_refl}
use Rattle.passes.specs.Pass.{back_pass, forward_pass}
use Rattle.passes.proofs.Theorems.{back_same, forward_same}
use Rattle.post_linearize.specs.PostLinearize.{post_linearize}
use Rattle.post_linearize.proofs.Checks.{ancestors_are, descendants_are}
use Rattle.candidates.specs.Candidates
use Rattle.candidates.specs.Candidates.{ancestor_order}
use Rattle.candidates.proofs.Theorems.{as_many}
use Rattle.output_order.specs.Output
use Rattle.output_order.specs.Output.{output_order}
use Rattle.linearize.specs.Linearize.{linear_order}
use Rattle.linearize.specs.Steps.{steps_of, Checked, Ready}

nothing_behind : {n : ℕ} (xs ys : List ℕ) → length ys ≡ n → xs ++ drop n ys ≡ xs
nothing_behind {n} xs ys e =
    let h : length ys ≤ n = omega arith in
    rw (drop_of_length-le ys h) (append-nil xs)

module _ (fs : List ℤ) (ss A D order room : List ℕ) (r : Ready fs A order room) where
  -- the candidates fill the list
  taken : (o : List ℕ) → o ≡ Candidates.filled fs ss (mem_at A) (mem_at D) order → o ≡ ancestor_order fs ss (mem_at A) (mem_at D)
  unfolding Candidates.filled Candidates.fits
  taken o e =
      e ∙ rw (le-leb (length fs) positions r.few, le-leb (length fs) (length order) (omega (arith, r.long)), as_many fs ss (mem_at A) (mem_at D) r.own)
      (nothing_behind (ancestor_order fs ss (mem_at A) (mem_at D)) order r.long)

  pub steps : (o mid last : List ℕ) (k : ℕ) (out : List ℕ) → o ≡ Candidates.filled fs ss (mem_at A) (mem_at D) order
      → mid ≡ cond (leb (length o) positions) (back_pass fs ss (mem_at D) o) o
      → last ≡ cond (leb (length mid) positions) (forward_pass fs ss (mem_at A) mid) mid
      → k ≡ Output.written fs ss (mem_at A) last room → out ≡ Output.filled fs ss (mem_at A) last room
      → (k ≡ length (steps_of fs ss (mem_at A) (mem_at D))) × (out ≡ steps_of fs ss (mem_at A) (mem_at D) ++ drop k room)
  unfolding steps_of Output.written Output.filled Output.fits
  steps o mid last k out e f g h w =
      let first : o ≡ ancestor_order fs ss (mem_at A) (mem_at D) = taken o e in
      let n1 : length o ≡ length fs = ap length first ∙ as_many fs ss (mem_at A) (mem_at D) r.own in
      let back : mid ≡ back_pass fs ss (mem_at D) (ancestor_order fs ss (mem_at A) (mem_at D)) = f ∙ rw (le-leb (length o) positions (omega (arith, r.few)), first) in
      let n2 : length mid ≡ length fs = ap length back ∙ (back_same fs ss (mem_at D) (ancestor_order fs ss (mem_at A) (mem_at D))).long ∙ as_many fs ss (mem_at A) (mem_at D) r.own in
      let fore : last ≡ forward_pass fs ss (mem_at A) (back_pass fs ss (mem_at D) (ancestor_order fs ss (mem_at A) (mem_at D))) = g ∙ rw (le-leb (length mid) positions (omega (arith, r.few)), back) in
      let n3 : length last ≡ length fs =
      ap length fore ∙ (forward_same fs ss (mem_at A) (back_pass fs ss (mem_at D) (ancestor_order fs ss (mem_at A) (mem_at D)))).long ∙ sym (ap length back) ∙ n2 in
      let fit : (leb (length fs) positions && (leb (length last) (length fs) && leb (length fs) (length room))) ≡ true =
      rw (le-leb (length fs) positions r.few, le-leb (length last) (length fs) (omega arith), le-leb (length fs) (length room) r.wide) in
      let long : k ≡ length (output_order fs ss (mem_at A) last) = h ∙ rw fit in
      (long ∙ rw fore, w ∙ rw (fit, ← long, fore))

module _ (fs : List ℤ) {ps up down : List ℕ} {g : DepGraph} (c : Closed ps up down g) where
  -- what the steps ask, of the graph of the members
  pub ready : {order room : List ℕ} → Checked fs ps room → length order ≡ length fs → Ready fs up order room
  ready h o = record {
    few = h.few;
    own = λ i l. c.ancestors i i ∙ ancestor_refl ps i (omega (arith, h.same));
    long = o;
    wide = h.wide;
  }

  -- of that graph the steps give the order of the cluster
  is_linear : (ss : List ℕ) → steps_of fs ss (mem_at up) (mem_at down) ≡ linear_order fs ss ps
  unfolding steps_of linear_order post_linearize
  is_linear ss =
      ap₂ (λ (a d : ℕ → ℕ → Bool). output_order fs ss a (forward_pass fs ss a (back_pass fs ss d (ancestor_order fs ss a d))))
      (ancestors_are c) (descendants_are c)

  pub linear_done : (ss room : List ℕ) (k : ℕ) (out : List ℕ) → k ≡ length (steps_of fs ss (mem_at up) (mem_at down))
      → out ≡ steps_of fs ss (mem_at up) (mem_at down) ++ drop k room
      → (k ≡ length (linear_order fs ss ps)) × (out ≡ overwrite (linear_order fs ss ps) room)
  linear_done ss room k out e f =
      let n : k ≡ length (linear_order fs ss ps) = e ∙ ap length (is_linear ss) in
      (n, f ∙ ap₂ ◌++◌ (is_linear ss) (ap (λ (j : ℕ). drop j room) n))
