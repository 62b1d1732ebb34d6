-- A slot linked with one parent after the other: the walk of `link_parents`. Assumes nothing.
use mathlib.Core.Path.{◌≡◌, sym, ap, ◌∙◌}
use mathlib.Core.Bool.{Bool, true, false}
use mathlib.Core.List.{List}
use Prim.Native.Nat.{ℕ, ◌+◌}
use native.Mathlib.Numerals.{add-one}
use Rattle.pool_table.specs.declared.Entry.{Entry}
use Rattle.pool_table.specs.declared.Side.TheVariants.{Parents, Children}
use Rattle.pool_table.specs.Pool.{slot_count}
use Rattle.pool_table.specs.Words.{pool_of}
use Rattle.pool_table.specs.Changes.{Becomes, changed, with_entry, with_link, with_total}
use Rattle.pool_table.proofs.Pools.{changed_count}
use Rattle.pool_rules.proofs.Tables.{becomes_itself, becomes_then, becomes_as}
use Rattle.pool_add.specs.Steps.{linked_to, put_in}

module _ (f : ℕ → Bool) (r : ℕ) where
  pub linked_start : (t : List ℕ) → Becomes (linked_to f r 0) t t
  unfolding linked_to
  linked_start t = becomes_itself t

  module _ {t u : List ℕ} (s : ℕ) (b : Becomes (linked_to f r s) t u) where
    -- slot s is no parent
    pub linked_skip : f s ≡ false → Becomes (linked_to f r (s + 1)) t u
    unfolding linked_to
    linked_skip e = becomes_as (sym (ap (λ (n : ℕ). linked_to f r n (pool_of t)) (add-one s) ∙ rw e)) b

    -- it is one
    pub linked_more : {v w : List ℕ} → f s ≡ true → Becomes (changed r (with_link Parents s)) u v → Becomes (changed s (with_link Children r)) v w
        → Becomes (linked_to f r (s + 1)) t w
    unfolding linked_to
    linked_more e x y =
        becomes_as (sym (ap (λ (n : ℕ). linked_to f r n (pool_of t)) (add-one s) ∙ rw e)) (becomes_then (becomes_then b x) y)

    -- that was the last
    pub linked_done : s ≡ slot_count (pool_of t) → Becomes (λ p. linked_to f r (slot_count p) p) t u
    linked_done e = becomes_as (ap (λ (n : ℕ). linked_to f r n (pool_of t)) e) b

-- the three steps of `put_in`
pub put_becomes : (f : ℕ → Bool) (r : ℕ) (e : Entry) {n : ℕ} {t u v w : List ℕ} → n ≡ (pool_of t).total + e.weight.0
    → Becomes (with_total n) t u → Becomes (changed r (with_entry e)) u v → Becomes (λ p. linked_to f r (slot_count p) p) v w → Becomes (put_in r e f) t w
unfolding put_in
put_becomes f r e {n} {t} z x y l =
    becomes_as
    (ap (λ (k : ℕ). linked_to f r k (changed r (with_entry e) (with_total n (pool_of t)))) (changed_count r (with_entry e) (with_total n (pool_of t)))
    ∙ ap (λ (k : ℕ). linked_to f r (slot_count (pool_of t)) (changed r (with_entry e) (with_total k (pool_of t)))) z)
    (becomes_then (becomes_then x y) l)
