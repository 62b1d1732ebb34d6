-- How `add` writes, step by step. That a well-formed pool comes to be `added` of pool_rules by these steps is a law
-- (proofs/Written.antt). Assumes nothing.
use Rattle.std.specs.Prelude.{ℕ, zero, suc, ◌+◌, Bool, cond}
use Rattle.pool_table.specs.declared.Entry.{Entry}
use Rattle.pool_table.specs.declared.Side.TheVariants.{Parents, Children}
use Rattle.pool_table.specs.Pool.{Pool, slot_count}
use Rattle.pool_table.specs.Changes.{changed, with_entry, with_link, with_total}

-- slot r made a child of slot k: it names the parent, and the parent names it
abbrev pub linked_with : ℕ → ℕ → Pool → Pool
linked_with r k p = changed k (with_link Children r) (changed r (with_link Parents k) p)

-- and of the slots below k that have f, one after the other
unfoldable pub linked_to : (ℕ → Bool) → ℕ → ℕ → Pool → Pool
linked_to f r zero p = p
linked_to f r (suc k) p = cond (f k) (linked_with r k (linked_to f r k p)) (linked_to f r k p)

-- an entry put into slot r, its weight added to the total, and linked
unfoldable pub put_in : ℕ → Entry → (ℕ → Bool) → Pool → Pool
put_in r e f p = linked_to f r (slot_count p) (changed r (with_entry e) (with_total (p.total + e.weight.0) p))
