-- What the steps of `add` leave (specs/Steps.antt): slot by slot, and so the pool `added` of pool_rules. Assumes nothing.
use mathlib.Core.Path.{◌≡◌, refl, sym, ap, ap₂, ◌∙◌}
use mathlib.Core.Bool.{Bool, true, false, cond, ◌&&◌, ◌||◌, or-false}
use mathlib.Core.List.{List}
use Prim.Native.Nat.{ℕ, zero, suc, ◌+◌, ◌≤◌, ◌<◌}
use native.Mathlib.Omega.{arith}
use lib.Dec.{eqb, ltb}
use borrow.Author.Tests.{lt-ltb, le-ltb, eq-eqb, ne_eqb}
use Rattle.lists.proofs.Bools.{clash, asked, is_false}
use Rattle.lists.proofs.Numbers.{by_number, ltb_same}
use Rattle.txset.specs.Sets.{has_in}
use Rattle.slotsets.specs.SlotSets.{capacity, none, set_of}
use Rattle.slotsets.proofs.SlotSets.{set_at, set_ext}
use Rattle.pool_table.specs.declared.Entry.{Entry}
use Rattle.pool_table.specs.declared.Side.TheVariants.{Parents, Children}
use Rattle.pool_table.specs.Pool.{Slot, Pool, free, slot_at, slot_count}
use Rattle.pool_table.specs.Words.{pool_of, table_of}
use Rattle.pool_table.specs.WellFormed.{well_formed}
use Rattle.pool_table.specs.Changes.{Becomes, changed, with_entry, with_links, with_link, with_total}
use Rattle.pool_table.proofs.Legal.{few_slots}
use Rattle.pool_table.proofs.Rows.{Whole, whole_slot, slot_same}
use Rattle.pool_table.proofs.Pools.{pool_ext, changed_count, changed_here, changed_else}
use Rattle.pool_rules.specs.Module8.{is_listed, lowest_free, with_slots, added}
use Rattle.pool_rules.proofs.Finds.{lowest_is_free}
use Rattle.pool_rules.proofs.Listed.{listed_held}
use Rattle.pool_rules.proofs.Pools.{count_with, slot_with}
use Rattle.pool_rules.proofs.Sound.{Sound, well_legal, well_sound, free_is}
use Rattle.pool_rules.proofs.Tables.{becomes_table}
use Rattle.pool_add.specs.Steps.{linked_with, linked_to, put_in}

-- ---- the slots below k that have f

abbrev before : (ℕ → Bool) → ℕ → ℕ → Bool
before f k i = ltb i k && f i

module _ (f : ℕ → Bool) (k : ℕ) where
  before_here : before f (suc k) k ≡ f k
  before_here = ap (λ (b : Bool). b && f k) (lt-ltb k (suc k) (omega arith))

  before_else : (i : ℕ) → (k ≡ i → ⊥) → before f (suc k) i ≡ before f k i
  before_else i n = ap (λ (b : Bool). b && f i) (ltb_same i (suc k) i k (λ l. omega arith) (λ l. omega arith))

  before_not : before f k k ≡ false
  before_not = ap (λ (b : Bool). b && f k) (le-ltb k k (omega arith))

  -- one more, which has f or has it not
  before_more : f k ≡ true → (i : ℕ) → (before f k i || eqb i k) ≡ before f (suc k) i
  before_more e =
      by_number (λ i. (before f k i || eqb i k) ≡ before f (suc k) i) k
      (ap₂ ◌||◌ before_not (eq-eqb k k refl) ∙ sym (before_here ∙ e))
      (λ i n. ap (λ (b : Bool). before f k i || b) (ne_eqb i k (λ z. n (sym z))) ∙ or-false (before f k i) ∙ sym (before_else i n))

  before_same : f k ≡ false → (i : ℕ) → before f k i ≡ before f (suc k) i
  before_same e = by_number (λ i. before f k i ≡ before f (suc k) i) k (before_not ∙ sym (before_here ∙ e)) (λ i n. sym (before_else i n))

-- ---- a slot linked with them

-- slot r, which had no parents, and every other slot
record Linked (f : ℕ → Bool) (r k : ℕ) (p q : Pool) : Type 0 where
  limits : q.limits ≡ p.limits
  total : q.total ≡ p.total
  count : slot_count q ≡ slot_count p
  own : slot_at q r ≡ with_links (set_of (before f k)) (slot_at p r).children (slot_at p r)
  other : (s : ℕ) → (s ≡ r → ⊥) → slot_at q s ≡ cond (before f k s) (with_link Children r (slot_at p s)) (slot_at p s)

module _ (f : ℕ → Bool) (r : ℕ) (p : Pool) (within : r < slot_count p) (apart : f r ≡ false) (alone : (slot_at p r).parents ≡ none) where
  none_yet : (i : ℕ) → before f 0 i ≡ false
  none_yet i = ap (λ (b : Bool). b && f i) (le-ltb i 0 (omega arith))

  linked_none : Linked f r 0 p p
  linked_none =
      record {
        limits = refl;
        total = refl;
        count = refl;
        own = slot_same refl (alone ∙ set_ext (λ i. false) (before f 0) (λ i _. sym (none_yet i))) refl;
        other = λ s n. sym (ap (λ (b : Bool). cond b (with_link Children r (slot_at p s)) (slot_at p s)) (none_yet s));
      }

  module _ (k : ℕ) (l : k < slot_count p) {q : Pool} (h : Linked f r k p q) where
    linked_past : f k ≡ false → Linked f r (suc k) p q
    linked_past e =
        record {
          limits = h.limits;
          total = h.total;
          count = h.count;
          own = h.own ∙ slot_same refl (set_ext (before f k) (before f (suc k)) (λ i _. before_same f k e i)) refl;
          other = λ s n. h.other s n ∙ ap (λ (b : Bool). cond b (with_link Children r (slot_at p s)) (slot_at p s)) (before_same f k e s);
        }

    module _ (e : f k ≡ true) where
      differ : k ≡ r → ⊥
      differ z = clash e (ap f z ∙ apart)

      named_count : slot_count (changed r (with_link Parents k) q) ≡ slot_count p
      named_count = changed_count r (with_link Parents k) q ∙ h.count

      own_more : slot_at (linked_with r k q) r
          ≡ with_links (set_of (before f (suc k))) (slot_at p r).children (slot_at p r)
      own_more =
          changed_else k (with_link Children r) (changed r (with_link Parents k) q) r (λ z. differ (sym z))
          ∙ changed_here r (with_link Parents k) q (omega (arith, h.count))
          ∙ ap (with_link Parents k) h.own
          ∙ slot_same refl
          (set_ext _ (before f (suc k)) (λ i m. ap (λ (b : Bool). b || eqb i k) (set_at (before f k) i m) ∙ before_more f k e i)) refl

      other_more : (s : ℕ) → (s ≡ r → ⊥)
          → slot_at (linked_with r k q) s
          ≡ cond (before f (suc k) s) (with_link Children r (slot_at p s)) (slot_at p s)
      other_more =
          by_number
          (λ s.
          (s ≡ r → ⊥)
          → slot_at (linked_with r k q) s
          ≡ cond (before f (suc k) s) (with_link Children r (slot_at p s)) (slot_at p s))
          k
          (λ n.
          changed_here k (with_link Children r) (changed r (with_link Parents k) q) (omega (arith, named_count))
          ∙ ap (with_link Children r)
          (changed_else r (with_link Parents k) q k differ
          ∙ h.other k differ ∙ ap (λ (b : Bool). cond b (with_link Children r (slot_at p k)) (slot_at p k)) (before_not f k))
          ∙ sym (ap (λ (b : Bool). cond b (with_link Children r (slot_at p k)) (slot_at p k)) (before_here f k ∙ e)))
          (λ s m n.
          changed_else k (with_link Children r) (changed r (with_link Parents k) q) s (λ z. m (sym z))
          ∙ changed_else r (with_link Parents k) q s n
          ∙ h.other s n
          ∙ ap (λ (b : Bool). cond b (with_link Children r (slot_at p s)) (slot_at p s)) (sym (before_else f k s m)))

      linked_both : Linked f r (suc k) p (linked_with r k q)
      unfolding changed
      linked_both =
          record {
            limits = h.limits;
            total = h.total;
            count = changed_count k (with_link Children r) (changed r (with_link Parents k) q) ∙ named_count;
            own = own_more;
            other = other_more;
          }

  linked_is : (k : ℕ) → k ≤ slot_count p → Linked f r k p (linked_to f r k p)
  unfolding linked_to
  linked_is zero l = linked_none
  linked_is (suc k) l = step (f k) refl (linked_is k (omega arith))
    where
      step : (b : Bool) → f k ≡ b → Linked f r k p (linked_to f r k p)
          → Linked f r (suc k) p (cond b (linked_with r k (linked_to f r k p)) (linked_to f r k p))
      step true e h = linked_both k (omega arith) h e
      step false e h = linked_past k (omega arith) h e

-- ---- the pool that `add` leaves

-- the parents of a newcomer, and its slot
abbrev parents_of : Pool → Entry → List ℕ → ℕ → Bool
parents_of p e listed = is_listed p e.txid listed

abbrev new_slot : Pool → Entry → List ℕ → Slot
new_slot p e listed = with_links (set_of (parents_of p e listed)) none (with_entry e free)

module _ (p : Pool) (sound : Sound p) (few : slot_count p ≤ capacity) (e : Entry) (listed : List ℕ) (room : lowest_free p < slot_count p)
    (whole : Whole (slot_at p (lowest_free p))) where
  -- no listed parent stands in the free slot
  parents_apart : has_in (set_of (parents_of p e listed)) (lowest_free p) ≡ false
  parents_apart =
      set_at (parents_of p e listed) (lowest_free p) (omega arith)
      ∙ is_false (parents_of p e listed (lowest_free p))
      (λ h. clash (listed_held p e.txid listed (lowest_free p) h).1 (lowest_is_free p room))

  -- and each in a slot of the pool
  parents_are : (i : ℕ) → i < capacity → before (has_in (set_of (parents_of p e listed))) (slot_count p) i ≡ parents_of p e listed i
  parents_are i l =
      ap (λ (b : Bool). ltb i (slot_count p) && b) (set_at (parents_of p e listed) i l)
      ∙ asked (ltb i (slot_count p)) (parents_of p e listed i) (λ h. lt-ltb i (slot_count p) (listed_held p e.txid listed i h).0)

  pub put_added : put_in (lowest_free p) e (has_in (set_of (parents_of p e listed))) p ≡ added p e listed
  unfolding put_in added with_slots changed slot_at
  put_added =
      let r = lowest_free p in
      let n = slot_count p in
      let g : ℕ → Bool = parents_of p e listed in
      let f : ℕ → Bool = has_in (set_of g) in
      let m = p.total + e.weight.0 in
      let q : Pool = changed r (with_entry e) (with_total m p) in
      let own : slot_at q r ≡ with_entry e free =
      changed_here r (with_entry e) (with_total m p) room ∙ ap (with_entry e) (free_is p sound r room whole (lowest_is_free p room)) in
      let count : slot_count q ≡ n = changed_count r (with_entry e) (with_total m p) in
      let other : ℕ → Slot → Slot = λ s x. cond (g s) (with_link Children r x) x in
      let new : ℕ → Slot → Slot = λ s x. cond (eqb s r) (new_slot p e listed) (other s x) in
      let h : Linked f r n q (linked_to f r n q) =
      linked_is f r q (omega arith) parents_apart (ap (λ (x : Slot). x.parents) own) n (omega arith) in
      pool_ext (linked_to f r n q) (with_slots p m new) h.limits h.total (h.count ∙ count ∙ sym (count_with p m new))
      (by_number (λ s. s < slot_count (linked_to f r n q) → slot_at (linked_to f r n q) s ≡ slot_at (with_slots p m new) s) r
      (λ l.
      h.own ∙ ap (λ (x : Slot). with_links (set_of (before f n)) x.children x) own
      ∙ slot_same refl (set_ext (before f n) g parents_are) refl
      ∙ sym (slot_with p m new r room ∙ ap (λ (b : Bool). cond b (new_slot p e listed) (other r (slot_at p r))) (eq-eqb r r refl)))
      (λ s d l.
      let k : s < n = omega (arith, h.count) in
      let x = slot_at p s in
      h.other s (λ z. d (sym z))
      ∙ ap₂ (λ (b : Bool) (y : Slot). cond b (with_link Children r y) y) (parents_are s (omega arith))
      (changed_else r (with_entry e) (with_total m p) s (λ z. d (sym z)))
      ∙ sym (slot_with p m new s k ∙ ap (λ (b : Bool). cond b (new_slot p e listed) (other s x)) (ne_eqb s r (λ z. d (sym z))))))

-- the table that it leaves
pub written : (t : List ℕ) → well_formed t ≡ true → (e : Entry) (listed : List ℕ) → lowest_free (pool_of t) < slot_count (pool_of t)
    → (r : ℕ) (f : Entry) (ws u : List ℕ) → r ≡ lowest_free (pool_of t) → f ≡ e → ws ≡ set_of (parents_of (pool_of t) e listed)
    → Becomes (put_in r f (has_in ws)) t u → u ≡ table_of (added (pool_of t) e listed)
written t h e listed room r f ws u a b c m =
    let legal = well_legal t h in
    becomes_table legal m
    ∙ ap table_of
    (ap₂ (λ (r : ℕ) (f : Entry). put_in r f (has_in ws) (pool_of t)) a b
    ∙ ap (λ (ws : List ℕ). put_in (lowest_free (pool_of t)) e (has_in ws) (pool_of t)) c
    ∙ put_added (pool_of t) (well_sound t h) (few_slots t legal) e listed room (whole_slot t (lowest_free (pool_of t))))
