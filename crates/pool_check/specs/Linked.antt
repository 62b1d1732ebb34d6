-- Refusal 12 of document 01 but for one part, that no cluster passes a limit: a function that finds each cluster anyway asks that of each as
-- it finds it. Assumes nothing.
use Rattle.std.specs.Prelude.{ℕ, ◌≡◌, Bool, true, ◌&&◌, List, length}
use Rattle.pool_table.specs.Pool.{Pool, slot_count}
use Rattle.pool_table.specs.Words.{is_legal, pool_of}
use Rattle.pool_table.specs.Ranges.{limits_in_range}
use Rattle.pool_table.specs.WellFormed.{numbers_in_range, txids_distinct, total_is_sum, free_zeroed, links_mutual, acyclic}
use Rattle.pool_order.specs.Order.{roomy}

-- every part of `sound` but the last
unfoldable pub sound_links : Pool → Bool
sound_links p =
    limits_in_range p.limits && (numbers_in_range p && (txids_distinct p && (total_is_sum p && (free_zeroed p && (links_mutual p && acyclic p)))))

-- such a pool in a table of a legal length, and rooms of these lengths have a place for each of its slots and one more
unfoldable pub linked_in : List ℕ → List ℕ → Bool
linked_in t rooms = roomy (slot_count (pool_of t)) rooms && (is_legal (length t) && sound_links (pool_of t))

-- what a search for clusters needs of it
pub record Linked (t : List ℕ) : Type 0 where
  pub legal : is_legal (length t) ≡ true
  pub limits : limits_in_range (pool_of t).limits ≡ true
  pub links : links_mutual (pool_of t) ≡ true
