-- Word by word: the links of a slot, seeds that are slots, and a set that is found. Assumes nothing.
use mathlib.Core.Path.{◌≡◌, sym, ap, ap₂, ◌∙◌}
use mathlib.Core.Bool.{Bool, true, false, not, ◌&&◌, ◌||◌, or-false, and-false}
use mathlib.Core.Logic.{⊎_elim}
use mathlib.Core.List.{List}
use Prim.Native.Nat.{ℕ, ◌+◌, ◌-◌, ◌*◌, ◌^◌, ◌≤◌, ◌<◌, min}
use native.Mathlib.Omega.{arith}
use lib.Dec.{eqb, ltb}
use lib.ListN.{length, get_or, set}
use lib.Bits.{bit_and, bit_or}
use borrow.Author.Tests.{lt-ltb, ltb-true, eqb-true}
use Rattle.lists.proofs.Bools.{asked}
use Rattle.txset.specs.Sets.{has, has_in}
use Rattle.txset.proofs.Bits.{has_and, has_or, has_less}
use Rattle.txset.proofs.Words.{has_in_past}
use Rattle.lists.proofs.Numbers.{lt_or_ge}
use Rattle.slotsets.specs.SlotSets.{capacity, set_words}
use Rattle.slotsets.proofs.Words.{word_in, Upto, upto_old, upto_turn}
use Rattle.slotsets.proofs.SlotSets.{set_past}
use Rattle.pool_table.specs.Pool.{Pool, slot_count, slot_at}
use Rattle.pool_table.specs.Words.{is_legal, pool_of}
use Rattle.pool_table.specs.Links.{is_linked}
use Rattle.pool_table.proofs.Legal.{few_slots}
use Rattle.pool_clusters.specs.Clusters.{AllSlots}
use Rattle.pool_clusters.proofs.Linked.{linked_is}

module _ (p : Pool) (a : ℕ) (all : List ℕ) (s : AllSlots p all) where
  -- a word of what a slot names on both sides
  pub near_word : (j d : ℕ) → d < 64
      → has (bit_and (get_or all j 0) (bit_or (get_or (slot_at p a).parents j 0) (get_or (slot_at p a).children j 0))) d ≡ is_linked p a (64 * j + d)
  near_word j d l =
      let ps = (slot_at p a).parents in
      let cs = (slot_at p a).children in
      has_and (get_or all j 0) (bit_or (get_or ps j 0) (get_or cs j 0)) d
      ∙ ap₂ ◌&&◌ (word_in all j d l ∙ s.are (64 * j + d))
      (has_or (get_or ps j 0) (get_or cs j 0) d ∙ ap₂ ◌||◌ (word_in ps j d l) (word_in cs j d l))
      ∙ sym (linked_is p a (64 * j + d))

  -- past the last word it names nothing
  pub near_past : (i : ℕ) → capacity ≤ i → is_linked p a i ≡ false
  near_past i l =
      linked_is p a i
      ∙ ap (λ (b : Bool). b && (has_in (slot_at p a).parents i || has_in (slot_at p a).children i)) (sym (s.are i) ∙ set_past all s.long i l)

-- ---- what two lists have in common

pub meet_word : (us vs : List ℕ) (j d : ℕ) → d < 64 → has (bit_and (get_or us j 0) (get_or vs j 0)) d ≡ (has_in us (64 * j + d) && has_in vs (64 * j + d))
meet_word us vs j d l = has_and (get_or us j 0) (get_or vs j 0) d ∙ ap₂ ◌&&◌ (word_in us j d l) (word_in vs j d l)

-- ---- a set that is found

pub meet_past : (us vs : List ℕ) (i : ℕ) → 64 * min (length vs) (length us) ≤ i → (has_in us i && has_in vs i) ≡ false
meet_past us vs i h =
    ⊎_elim
    (λ (l : length us < length vs). ap (λ (b : Bool). b && has_in vs i) (has_in_past us i (omega arith)))
    (λ (l : length vs ≤ length us). ap (λ (b : Bool). has_in us i && b) (has_in_past vs i (omega arith)) ∙ and-false (has_in us i))
    (lt_or_ge (length us) (length vs))

abbrev pub grown : List ℕ → (ℕ → Bool) → ℕ → Bool
grown found f i = has_in found i || f i

abbrev pub queued : List ℕ → List ℕ → (ℕ → Bool) → ℕ → Bool
queued found todo f i = has_in todo i || (f i && not (has_in found i))

-- one word w more of a set f
module _
    {found now : List ℕ}
    {j : ℕ}
    (f : ℕ → Bool)
    (w : ℕ)
    (word : (d : ℕ) → d < 64 → has w d ≡ f (64 * j + d))
    (l : j < set_words)
    (u : Upto (grown found f) j found now)
    (long : length found ≡ set_words) where
  pub grown_turn : Upto (grown found f) (j + 1) found (set now j (bit_or (get_or now j 0) w))
  grown_turn =
      upto_turn u (bit_or (get_or now j 0) w) (rw long l) (λ d m. has_or (get_or now j 0) w d ∙ ap₂ ◌||◌ (upto_old u d m) (word d m))

  pub queued_turn : {todo next : List ℕ} → Upto (queued found todo f) j todo next → length todo ≡ set_words → w < 2 ^ 64 → get_or now j 0 < 2 ^ 64
      → Upto (queued found todo f) (j + 1) todo (set next j (bit_or (get_or next j 0) (bit_and w ((2 ^ 64 - 1) - get_or now j 0))))
  queued_turn {todo} {next} v wide fm fn =
      let new = bit_and w ((2 ^ 64 - 1) - get_or now j 0) in
      upto_turn v (bit_or (get_or next j 0) new) (rw wide l)
      (λ d m.
      has_or (get_or next j 0) new d
      ∙ ap₂ ◌||◌ (upto_old v d m)
      (has_less 64 d w (get_or now j 0) fm fn ∙ ap₂ (λ (x y : Bool). x && not y) (word d m) (upto_old u d m)))

module _ (f : ℕ → Bool) (i : ℕ) (out : f i ≡ false) where
  -- past the last word there is nothing to add
  pub grown_past : (found : List ℕ) → grown found f i ≡ has_in found i
  grown_past found = ap (λ (b : Bool). has_in found i || b) out ∙ or-false (has_in found i)

  pub queued_past : (found todo : List ℕ) → queued found todo f i ≡ has_in todo i
  queued_past found todo = ap (λ (b : Bool). has_in todo i || (b && not (has_in found i))) out ∙ or-false (has_in todo i)

-- ---- the slots of a table of a legal length

pub all_slots : (t all : List ℕ) (n : ℕ) → is_legal (length t) ≡ true → n ≡ slot_count (pool_of t) → length all ≡ set_words
    → ((i : ℕ) → has_in all i ≡ (ltb i capacity && ltb i n)) → AllSlots (pool_of t) all
all_slots t all n h e long below =
    record {
      long = long;
      are = λ i.
          below i ∙ ap (λ (m : ℕ). ltb i capacity && ltb i m) e
          ∙ asked (ltb i capacity) (ltb i (slot_count (pool_of t)))
          (λ l. lt-ltb i capacity (omega (arith, few_slots t h, ltb-true i (slot_count (pool_of t)) l)));
    }

-- a seed that is a slot is one of the positions of a set
pub seed_one : (a i : ℕ) (b : Bool) → a < capacity → b ≡ false → (b || (ltb i capacity && eqb i a)) ≡ eqb i a
seed_one a i b l e =
    ap (λ (b : Bool). b || (ltb i capacity && eqb i a)) e
    ∙ asked (ltb i capacity) (eqb i a) (λ z. lt-ltb i capacity (omega (arith, eqb-true i a z)))
