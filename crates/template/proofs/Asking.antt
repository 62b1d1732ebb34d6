-- Laws of what is asked of some slots: whether one has a property, whether all have it, and their sums. Assumes nothing.
use Rattle.std.specs.List.{list_any, list_all}
use mathlib.Core.Path.{◌≡◌, refl, sym, ap, ap₂, ◌∙◌}
use mathlib.Core.Bool.{Bool, true, ◌&&◌, ◌||◌}
use mathlib.Core.List.{List, [], ◌∷◌}
use Prim.Native.Nat.{ℕ, ◌+◌, ◌*◌, ◌≤◌, ◌<◌, min}
use native.Mathlib.Numerals.{add-one}
use native.Mathlib.Omega.{arith}
use lib.ListN.{length, get_or, drop, drop_of_length-le}
use lib.Seq.{drop-cons}
use Rattle.lists.specs.Lists.{any_of, all_of}
use Rattle.lists.proofs.Below.{all_at}
use Rattle.lists.proofs.Lists.{elem_head, elem_tail}
use Rattle.weights.specs.Weights.{most}
use Rattle.slotsets.specs.SlotSets.{capacity}
use Rattle.pool_table.specs.Pool.{Pool, slot_at, slot_count, weight_at}
use Rattle.pool_table.specs.WellFormed.{numbers_in_range, free_zeroed, sound}
use Rattle.pool_links.proofs.Mutual.{occupied_in}
use Rattle.pool_scan.specs.Rows.{in_ranges, zeroed, row_stands}
use Rattle.pool_scan.proofs.Scan.{weight_small}
use Rattle.pool_rules.proofs.Sound.{Sound, sound_parts}
use Rattle.template_rules.specs.Filling.{raw_sum, cost_sum}
use Rattle.template.specs.declared.tests.Used.{Used}
use Rattle.template.specs.Selecting.{Occupied}
use Rattle.template.specs.Trying.{sums_of}

-- ---- one of them, or all, as std asks it of a list

pub any_list : (f : ℕ → Bool) (l : List ℕ) → list_any f l ≡ any_of f l
unfolding any_of
any_list f [] = refl
any_list f (x ∷ l) = ap (λ (b : Bool). f x || b) (any_list f l)

pub all_list : (f : ℕ → Bool) (l : List ℕ) → list_all f l ≡ all_of f l
unfolding all_of
all_list f [] = refl
all_list f (x ∷ l) = ap (λ (b : Bool). f x && b) (all_list f l)

-- ---- sums

-- the sums so far, and then those of the slots from i on, are the sums of all
pub record Summing (p : Pool) (l : List ℕ) (weight cost i : ℕ) : Type 0 where
  pub raw : weight + raw_sum p (drop i l) ≡ raw_sum p l
  pub held : min (cost + cost_sum p (drop i l)) most ≡ min (cost_sum p l) most
  pub low : cost ≤ most

pub sum_start : (p : Pool) (l : List ℕ) → Summing p l 0 0 0
sum_start p l = record { raw = omega arith; held = omega arith; low = omega arith }

module _ (p : Pool) (l : List ℕ) (i : ℕ) (h : i < length l) where
  raw_next : raw_sum p (drop i l) ≡ weight_at p (get_or l i 0) + raw_sum p (drop (i + 1) l)
  unfolding raw_sum
  raw_next = ap (raw_sum p) (drop-cons l i 0 h) ∙ ap (λ (k : ℕ). weight_at p (get_or l i 0) + raw_sum p (drop k l)) (sym (add-one i))

  cost_next : cost_sum p (drop i l) ≡ (slot_at p (get_or l i 0)).entry.cost + cost_sum p (drop (i + 1) l)
  unfolding cost_sum
  cost_next = ap (cost_sum p) (drop-cons l i 0 h) ∙ ap (λ (k : ℕ). (slot_at p (get_or l i 0)).entry.cost + cost_sum p (drop k l)) (sym (add-one i))

-- a slot of a sound pool weighs at most 4,000,000
weight_most : (p : Pool) → Sound p → (s : ℕ) → s < slot_count p → weight_at p s ≤ 4000000
unfolding row_stands numbers_in_range free_zeroed
weight_most p sound s l =
    weight_small p s
    (ap₂ ◌&&◌ (all_at (in_ranges p) (slot_count p) 0 sound.numbers s (omega arith) (omega arith))
    (all_at (zeroed p) (slot_count p) 0 sound.zeroed s (omega arith) (omega arith)))

raw_most : (p : Pool) → Sound p → (l : List ℕ) → Occupied p l → raw_sum p l ≤ 4000000 * length l
unfolding raw_sum
raw_most p sound [] o = omega arith
raw_most p sound (s ∷ l) o =
    omega (
      arith,
      weight_most p sound s (occupied_in p s (o s (elem_head s l))),
      raw_most p sound l (λ x e. o x (elem_tail x s l e)),
    )

module _ {p : Pool} {l : List ℕ} {weight cost i : ℕ} (c : Summing p l weight cost i) where
  pub sum_fits : sound p ≡ true → Occupied p l → length l ≤ capacity → i < length l → weight + weight_at p (get_or l i 0) ≤ 4096000000
  sum_fits t o few h = omega (arith, raw_next p l i h, raw_most p (sound_parts p t) l o, c.raw)

  pub sum_turn : i < length l → Summing p l (weight + weight_at p (get_or l i 0)) (min (cost + (slot_at p (get_or l i 0)).entry.cost) most) (i + 1)
  sum_turn h =
      record {
        raw = omega (arith, c.raw, raw_next p l i h);
        held = omega (arith, c.held, cost_next p l i h);
        low = omega arith;
      }

  pub sum_done : length l ≤ i → ◌≡◌ {A = Used} (record { count = length l; weight = record { 0 = weight }; cost = cost }) (sums_of p l)
  unfolding sums_of raw_sum cost_sum
  sum_done h =
      let none = drop_of_length-le l h in
      let w : weight ≡ raw_sum p l = omega (arith, c.raw, ap (raw_sum p) none) in
      let k : cost ≡ min (cost_sum p l) most = omega (arith, c.held, c.low, ap (cost_sum p) none) in
      rw (← w, ← k)
