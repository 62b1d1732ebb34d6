-- The words of a set that have members, and a walk over these alone: what it passes has none. Assumes nothing.
use mathlib.Core.Path.{◌≡◌, sym, ap, ◌∙◌}
use mathlib.Core.Bool.{Bool, true, false, not, ◌&&◌, and-true, and-false}
use mathlib.Core.Logic.{⊎_elim}
use mathlib.Core.List.{List}
use Prim.Native.Nat.{ℕ, ◌+◌, ◌-◌, ◌*◌, ◌/◌, ◌%◌, ◌≤◌, ◌<◌}
use native.Mathlib.Omega.{arith}
use lib.Dec.{eqb, ltb, leb}
use lib.ListN.{length, get_or, get_or-eq_default}
use borrow.Author.Tests.{lt-ltb, le-ltb, le-leb, lt-leb, leb-true, eq-eqb, ne_eqb, eqb-true, not-false}
use Rattle.lists.specs.Below.{count_from}
use Rattle.lists.proofs.Bools.{clash, and_both}
use Rattle.lists.proofs.Numbers.{lt_or_ge}
use Rattle.lists.proofs.Below.{first_is, count_shift, count_split}
use Rattle.lists.proofs.Ranges.{count_none}
use Rattle.txset.specs.declared.TxSet.{TxSet}
use Rattle.txset.specs.Sets.{has, has_in, positions, mem, is_empty, lowest_of}
use Rattle.txset.proofs.Bits.{has_nil}
use Rattle.txset.proofs.Sets.{empty_mem}
use Rattle.txset.proofs.Walk.{lowest_mem, Turn}
use Rattle.slotsets.specs.SlotSets.{set_words}

-- whether word k of a set has members
abbrev pub is_filled : List ℕ → ℕ → Bool
is_filled ws k = not (eqb (get_or ws k 0) 0)

pub filled_past : (ws : List ℕ) (k : ℕ) → length ws ≤ k → is_filled ws k ≡ false
filled_past ws k l = ap not (eq-eqb (get_or ws k 0) 0 (get_or-eq_default ws 0 l))

-- ---- words without members

-- the words from x on and before y
abbrev pub Gap : List ℕ → ℕ → ℕ → Type 0
Gap ws x y = (k : ℕ) → x ≤ k → k < y → is_filled ws k ≡ false

module _ (ws : List ℕ) (x y : ℕ) (up : x ≤ y) (gap : Gap ws x y) where
  gap_has : (c : ℕ) → 64 * x ≤ c → c < 64 * y → has_in ws c ≡ false
  unfolding has_in
  gap_has c l m =
      ap (λ (w : ℕ). has w (c % 64)) (eqb-true (get_or ws (c / 64) 0) 0 (not-false _ (gap (c / 64) (omega arith) (omega arith)))) ∙ has_nil (c % 64)

  -- as many members are below its end as below its start
  pub gap_count : count_from (has_in ws) (64 * x) 0 ≡ count_from (has_in ws) (64 * y) 0
  gap_count =
      let z : 64 * y ≡ 64 * x + (64 * y - 64 * x) = omega arith in
      let e : 64 * x + 0 ≡ 0 + 64 * x = omega arith in
      let none : count_from (has_in ws) (64 * y - 64 * x) (64 * x + 0) ≡ 0 =
      count_shift (has_in ws) (64 * x) (64 * y - 64 * x) 0
      ∙ count_none (λ d. has_in ws (64 * x + d)) (64 * y - 64 * x) (λ d l. gap_has (64 * x + d) (omega arith) (omega arith)) in
      omega (
        arith,
        ap (λ (n : ℕ). count_from (has_in ws) n 0) z,
        count_split (has_in ws) (64 * x) (64 * y - 64 * x) 0,
        ap (count_from (has_in ws) (64 * y - 64 * x)) e,
        none,
      )

  -- and the same
  pub gap_same : (c : ℕ) → (has_in ws c && ltb c (64 * x)) ≡ (has_in ws c && ltb c (64 * y))
  gap_same c =
      ⊎_elim
      (λ (l : c < 64 * x). ap (λ (b : Bool). has_in ws c && b) (lt-ltb c (64 * x) l ∙ sym (lt-ltb c (64 * y) (omega arith))))
      (λ (l : 64 * x ≤ c).
      ⊎_elim
      (λ (m : c < 64 * y). ap (λ (b : Bool). b && ltb c (64 * x)) (gap_has c l m) ∙ sym (ap (λ (b : Bool). b && ltb c (64 * y)) (gap_has c l m)))
      (λ (m : 64 * y ≤ c). ap (λ (b : Bool). has_in ws c && b) (le-ltb c (64 * x) l ∙ sym (le-ltb c (64 * y) m)))
      (lt_or_ge c (64 * y)))
      (lt_or_ge c (64 * x))

-- ---- the walk

-- `rest` are the filled words from x on
pub record Ahead (ws : List ℕ) (x : ℕ) (rest : TxSet) : Type 0 where
  pub whole : length ws ≡ set_words
  pub within : x ≤ set_words
  pub left : (k : ℕ) → mem rest k ≡ (leb x k && is_filled ws k)

pub ahead_start : {ws : List ℕ} {rest : TxSet} → length ws ≡ set_words → ((k : ℕ) → mem rest k ≡ is_filled ws k) → Ahead ws 0 rest
ahead_start {ws} l h =
    record { whole = l; within = omega arith; left = λ k. h k ∙ sym (ap (λ (b : Bool). b && is_filled ws k) (le-leb 0 k (omega arith))) }

module _ {ws : List ℕ} {x : ℕ} {rest : TxSet} (a : Ahead ws x rest) where
  passed : (k : ℕ) → x ≤ k → mem rest k ≡ false → is_filled ws k ≡ false
  passed k l e = ap (λ (b : Bool). b && is_filled ws k) (sym (le-leb x k l)) ∙ sym (a.left k) ∙ e

  -- no word is left
  pub ahead_end : is_empty rest ≡ true → Gap ws x set_words
  ahead_end e k l _ = passed k l (empty_mem rest e k)

  -- the next one
  module _ {rest' : TxSet} {j : ℕ} (t : Turn rest rest' j) where
    is_left : (leb x j && is_filled ws j) ≡ true
    is_left = sym (a.left j) ∙ ap (mem rest) t.first ∙ lowest_mem rest t.left

    pub ahead_up : x ≤ j
    ahead_up = leb-true x j (and_both (leb x j) (is_filled ws j) is_left).0

    pub ahead_below : j < set_words
    ahead_below =
        ⊎_elim
        (λ (l : j < set_words). l)
        (λ (l : set_words ≤ j). clash (and_both (leb x j) (is_filled ws j) is_left).1 (filled_past ws j (omega (arith, a.whole))))
        (lt_or_ge j set_words)

    before : (k : ℕ) → k < j → mem rest k ≡ false
    unfolding lowest_of
    before k l = (first_is (mem rest) positions 0).before k (omega arith) (omega (arith, t.first))

    pub ahead_gap : Gap ws x j
    ahead_gap k l m = passed k l (before k m)

    pub ahead_next : Ahead ws (j + 1) rest'
    ahead_next = record { whole = a.whole; within = omega (arith, ahead_below); left = still }
      where
        gone : (k : ℕ) → k < j + 1 → mem rest' k ≡ false
        gone k l =
            ⊎_elim
            (λ (m : k < j). t.next k ∙ ap (λ (b : Bool). b && not (eqb k (lowest_of rest))) (before k m))
            (λ (m : j ≤ k).
            let z : k ≡ j = omega arith in
            t.next k ∙ ap (λ (b : Bool). mem rest k && not b) (eq-eqb k (lowest_of rest) (z ∙ t.first)) ∙ and-false (mem rest k))
            (lt_or_ge k j)

        still : (k : ℕ) → mem rest' k ≡ (leb (j + 1) k && is_filled ws k)
        still k =
            ⊎_elim
            (λ (l : k < j + 1). gone k l ∙ sym (ap (λ (b : Bool). b && is_filled ws k) (lt-leb (j + 1) k l)))
            (λ (l : j + 1 ≤ k).
            t.next k
            ∙ ap (λ (b : Bool). mem rest k && not b) (ne_eqb k (lowest_of rest) (λ z. absurd (omega (arith, t.first, z))))
            ∙ and-true (mem rest k)
            ∙ a.left k
            ∙ ap (λ (b : Bool). b && is_filled ws k) (le-leb x k (omega (arith, ahead_up)) ∙ sym (le-leb (j + 1) k l)))
            (lt_or_ge k (j + 1))
