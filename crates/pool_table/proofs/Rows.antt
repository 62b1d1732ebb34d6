-- Where the words of a slot stand: the slots of a table are its rows, and word k of a slot is word k of its row. Assumes nothing.
use mathlib.Core.Path.{◌≡◌, refl, sym, ap, ap₂, ◌∙◌, subst}
use mathlib.Core.Logic.{⊎_elim}
use mathlib.Core.Bool.{true, false, ◌&&◌, and-true}
use mathlib.Core.List.{List, ◌++◌}
use Prim.Native.Nat.{ℕ, zero, suc, ◌+◌, ◌-◌, ◌/◌, ◌≤◌, ◌<◌}
use native.Mathlib.Nat.{add-zero}
use native.Mathlib.Numerals.{towards_suc}
use native.Mathlib.Omega.{arith}
use lib.Dec.{lit<, lit≤, eqb, leb}
use lib.ListN.{length, get_or, take, drop, replicate, length-append, get_or-append, get_or-eq_default}
use lib.Seq.{ext_get_or, get_or-append-add, take-append_seam, take-length, drop-append_seam}
use borrow.Author.Tests.{le-leb, leb-true}
use Rattle.lists.specs.Lists.{all_of}
use Rattle.lists.proofs.Bools.{is_false, and_left, and_right}
use Rattle.slotsets.specs.SlotSets.{capacity, set_of, words_of, word_of, set_words, words_from, set_from}
use Rattle.slotsets.proofs.SlotSets.{set_long, none_zeros, get_d_from, from_long, from_at}
use Rattle.lists.proofs.Numbers.{lt_or_ge}
use Rattle.txids.specs.declared.Txid.{Txid}
use Rattle.pool_table.specs.declared.Entry.{Entry}
use Rattle.pool_table.specs.declared.Side.{Side}
use Rattle.pool_table.specs.declared.Side.TheVariants.{Parents, Children}
use Rattle.pool_table.specs.Pool.{Slot, Pool, free, slot_at, slot_count}
use Rattle.pool_table.specs.Words.{row, row_at, parents_at, children_at, side_at, slots_in, is_legal, txid_in, entry_in, slot_in, slots_from, pool_of, entry_words, slot_words}
use Rattle.pool_table.specs.Links.{side_of, has_links}
use Rattle.pool_table.proofs.Parts.{part_split, zeros_at}

-- ---- the slots of a table

length_slots : (t : List ℕ) (k s : ℕ) → length (slots_from t k s) ≡ k
unfolding slots_from
length_slots t zero s = refl
length_slots t (suc k) s = ap suc (length_slots t k (suc s))

pub slot_count_lem : (t : List ℕ) → slot_count (pool_of t) ≡ slots_in (length t)
unfolding pool_of
slot_count_lem t = length_slots t (slots_in (length t)) 0

-- a legal length by the number of slots
module _ (t : List ℕ) (n : ℕ) (e : n ≡ slot_count (pool_of t)) where
  legal_is : is_legal (length t) ≡ (eqb (row_at n) (length t) && (leb 1 n && leb n capacity))
  unfolding is_legal
  legal_is = ap (λ (m : ℕ). eqb (row_at m) (length t) && (leb 1 m && leb m capacity)) (sym (e ∙ slot_count_lem t))

  pub legal_whole : 1 ≤ n → n ≤ capacity → eqb (row_at n) (length t) ≡ is_legal (length t)
  legal_whole a b = rw (legal_is, le-leb 1 n a, le-leb n capacity b) (sym (and-true (eqb (row_at n) (length t))))

  pub legal_not : (1 ≤ n → n ≤ capacity → ⊥) → false ≡ is_legal (length t)
  legal_not h =
      sym
      (is_false (is_legal (length t))
      (λ z.
      let w = and_right (eqb (row_at n) (length t)) (leb 1 n && leb n capacity) (sym legal_is ∙ z) in
      absurd (h (leb-true 1 n (and_left (leb 1 n) (leb n capacity) w)) (leb-true n capacity (and_right (leb 1 n) (leb n capacity) w)))))

slots_at : (t : List ℕ) (k s i : ℕ) → i < k → get_or (slots_from t k s) i free ≡ slot_in t (row_at (s + i))
unfolding slots_from
slots_at t zero s i h = absurd (omega arith)
slots_at t (suc k) s zero h = ap (λ (n : ℕ). slot_in t (row_at n)) (sym (add-zero s))
slots_at t (suc k) s (suc i) h =
    let e : suc s + i ≡ s + suc i = omega arith in
    slots_at t k (suc s) i (omega arith) ∙ ap (λ (n : ℕ). slot_in t (row_at n)) e

-- a slot is its row
pub slot_at_lem : (t : List ℕ) (s : ℕ) → s < slot_count (pool_of t) → slot_at (pool_of t) s ≡ slot_in t (row_at s)
unfolding slot_at pool_of
slot_at_lem t s h =
    let e : 0 + s ≡ s = omega arith in
    let l : s < slots_in (length t) = rw slot_count_lem at h in
    slots_at t (slots_in (length t)) 0 s l ∙ ap (λ (n : ℕ). slot_in t (row_at n)) e

-- past the last slot there is nothing
pub slot_past : (p : Pool) (s : ℕ) → slot_count p ≤ s → slot_at p s ≡ free
unfolding slot_at
slot_past p s h = get_or-eq_default p.slots free h

-- a row lies within the table
pub row_within : (t : List ℕ) (s k : ℕ) → s < slot_count (pool_of t) → k < row → row_at s + k < length t
unfolding slots_in
row_within t s k h l = let e : slot_count (pool_of t) ≡ (length t - 4) / 39 = slot_count_lem t in omega arith

-- ---- the words of a row

pub entry_words_lem : (t : List ℕ) (at : ℕ) → entry_words (entry_in t at) ≡ words_from t parents_at at
unfolding entry_words entry_in txid_in words_from
entry_words_lem t at = simp towards_suc

pub slot_words_lem : (t : List ℕ) (at : ℕ) → slot_words (slot_in t at) ≡ words_from t row at
unfolding slot_words slot_in set_from
slot_words_lem t at =
    let e : at + 7 + 16 ≡ at + 23 = omega arith in
    ap₂ ◌++◌ (entry_words_lem t at)
    (ap (λ (n : ℕ). words_from t set_words (at + parents_at) ++ words_from t set_words n) (sym e) ∙ sym (part_split t set_words set_words (at + parents_at)))
    ∙ sym (part_split t parents_at 32 at)

-- the words of a slot are its row
pub row_words : (t : List ℕ) (s : ℕ) → s < slot_count (pool_of t) → slot_words (slot_at (pool_of t) s) ≡ words_from t row (row_at s)
row_words t s h = ap slot_words (slot_at_lem t s h) ∙ slot_words_lem t (row_at s)

-- word k of a slot
pub word_at : (t : List ℕ) (s k : ℕ) → s < slot_count (pool_of t) → k < row → get_or (slot_words (slot_at (pool_of t) s)) k 0 ≡ get_or t (row_at s + k) 0
word_at t s k h l =
    ap (λ (x : Slot). get_or (slot_words x) k 0) (slot_at_lem t s h)
    ∙ ap (λ (ws : List ℕ). get_or ws k 0) (slot_words_lem t (row_at s))
    ∙ get_d_from t row (row_at s) k l

-- ---- the sets of a slot

-- both sets of a slot have their 16 words
pub record Whole (x : Slot) : Type 0 where
  pub parents : length x.parents ≡ set_words
  pub children : length x.children ≡ set_words

pub whole_free : Whole free
whole_free = record { parents = set_long (λ i. false); children = set_long (λ i. false) }

pub whole_row : (t : List ℕ) (at : ℕ) → Whole (slot_in t at)
unfolding slot_in
whole_row t at = record { parents = from_long t (at + parents_at); children = from_long t (at + children_at) }

pub whole_slot : (t : List ℕ) (s : ℕ) → Whole (slot_at (pool_of t) s)
whole_slot t s =
    ⊎_elim
    (λ l. subst Whole (sym (slot_at_lem t s l)) (whole_row t (row_at s)))
    (λ l. subst Whole (sym (slot_past (pool_of t) s l)) whole_free)
    (lt_or_ge s (slot_count (pool_of t)))

pub length_side : (side : Side) (x : Slot) → Whole x → length (side_of side x) ≡ set_words
length_side Parents x w = w.parents
length_side Children x w = w.children

-- the words of an entry come before those of the sets, and there are as many as a row has
pub length_entry : (e : Entry) → length (entry_words e) ≡ parents_at
unfolding entry_words
length_entry e = refl

pub length_words : (x : Slot) → Whole x → length (slot_words x) ≡ row
unfolding slot_words
length_words x w =
    length-append (entry_words x.entry) (x.parents ++ x.children)
    ∙ omega (arith, length_entry x.entry, length-append x.parents x.children, w.parents, w.children)

-- a side's words stand within the row
pub side_within : (side : Side) (j : ℕ) → j < set_words → side_at side + j < row
side_within Parents j l = omega arith
side_within Children j l = omega arith

pub side_end : (side : Side) → side_at side + set_words ≤ row
side_end Parents = lit≤ tt
side_end Children = lit≤ tt

-- word j of a side is word `side_at side + j` of the slot
pub side_at_lem : (side : Side) (x : Slot) (j : ℕ) → Whole x → j < set_words → get_or (slot_words x) (side_at side + j) 0 ≡ get_or (side_of side x) j 0
unfolding slot_words
side_at_lem Parents x j w l =
    rw (← length_entry x.entry)
    (get_or-append-add (entry_words x.entry) (x.parents ++ x.children) j 0 ∙ get_or-append x.parents x.children 0 j (omega (arith, w.parents)))
side_at_lem Children x j w l =
    let e : 23 + j ≡ length (entry_words x.entry) + (length x.parents + j) = omega (arith, length_entry x.entry, w.parents) in
    ap (λ (n : ℕ). get_or (entry_words x.entry ++ (x.parents ++ x.children)) n 0) e
    ∙ get_or-append-add (entry_words x.entry) (x.parents ++ x.children) (length x.parents + j) 0
    ∙ get_or-append-add x.parents x.children j 0

-- the run of a side's words is its set
pub side_part : (side : Side) (x : Slot) → Whole x → take set_words (drop (side_at side) (slot_words x)) ≡ side_of side x
unfolding slot_words entry_words
side_part Parents x w = rw (← w.parents) (take-append_seam x.parents x.children)
side_part Children x w =
    let e : drop 16 (x.parents ++ x.children) ≡ x.children = rw (← w.parents) (drop-append_seam x.parents x.children) in
    ap (take 16) e ∙ rw (← w.children) (take-length x.children)

-- past a set's end there is nothing
pub side_past : (side : Side) (t : List ℕ) (s j : ℕ) → set_words ≤ j → get_or (side_of side (slot_at (pool_of t) s)) j 0 ≡ 0
side_past side t s j l =
    let x = slot_at (pool_of t) s in
    get_or-eq_default (side_of side x) 0 (omega (arith, length_side side x (whole_slot t s)))

-- a free slot has nothing on a side
pub side_free : (side : Side) (j : ℕ) → get_or (side_of side free) j 0 ≡ 0
side_free Parents j = ap (λ (ws : List ℕ). get_or ws j 0) none_zeros ∙ zeros_at set_words j
side_free Children j = ap (λ (ws : List ℕ). get_or ws j 0) none_zeros ∙ zeros_at set_words j

-- and nothing anywhere
pub free_zeros : slot_words free ≡ replicate row 0
unfolding slot_words entry_words set_of words_of word_of
free_zeros = refl

pub zeroed_free : all_of (eqb 0) (slot_words free) ≡ true
unfolding all_of
zeroed_free = ap (all_of (eqb 0)) free_zeros

pub free_unlinked : has_links free ≡ false
unfolding has_links all_of set_of words_of word_of
free_unlinked = refl

-- ---- a slot is its words

pub txid_is : {t : Txid} {a b c d : ℕ} → a ≡ t.w0 → b ≡ t.w1 → c ≡ t.w2 → d ≡ t.w3
    → ◌≡◌ {A = Txid} (record { w0 = a; w1 = b; w2 = c; w3 = d }) t
txid_is p q r s = rw (p, q, r, s)

pub entry_is : {e : Entry} {t : Txid} {a b c : ℕ} → t ≡ e.txid → a ≡ e.fee → b ≡ e.weight.0 → c ≡ e.cost
    → ◌≡◌ {A = Entry} (record { txid = t; fee = a; weight = record { 0 = b }; cost = c }) e
entry_is p q r s = rw (p, q, r, s)

pub slot_same : {e f : Entry} {ps qs cs ds : List ℕ} → e ≡ f → ps ≡ qs → cs ≡ ds
    → ◌≡◌ {A = Slot} (record { entry = e; parents = ps; children = cs }) (record { entry = f; parents = qs; children = ds })
slot_same p q r = rw (p, q, r)

-- the slot that a place of the table holds is the one whose words stand there
module _ (t : List ℕ) (at : ℕ) (x : Slot) (w : Whole x) (h : (k : ℕ) → k < row → get_or t (at + k) 0 ≡ get_or (slot_words x) k 0) where
  words_entry : entry_in t at ≡ x.entry
  unfolding entry_in txid_in slot_words entry_words
  words_entry =
      entry_is
      (txid_is (ap (λ (n : ℕ). get_or t n 0) (sym (add-zero at)) ∙ h 0 (lit< tt)) (h 1 (lit< tt)) (h 2 (lit< tt)) (h 3 (lit< tt)))
      (h 4 (lit< tt))
      (h 5 (lit< tt))
      (h 6 (lit< tt))

  words_side : (side : Side) → set_from t (at + side_at side) ≡ side_of side x
  words_side side =
      ext_get_or 0 (set_from t (at + side_at side)) (side_of side x) (from_long t (at + side_at side) ∙ sym (length_side side x w))
      (λ j m.
      let l : j < set_words = rw (from_long t (at + side_at side)) at m in
      let e : at + side_at side + j ≡ at + (side_at side + j) = omega arith in
      from_at t (at + side_at side) j l ∙ ap (λ (n : ℕ). get_or t n 0) e ∙ h (side_at side + j) (side_within side j l) ∙ side_at_lem side x j w l)

  pub slot_is : slot_in t at ≡ x
  unfolding slot_in
  slot_is = slot_same words_entry (words_side Parents) (words_side Children)
