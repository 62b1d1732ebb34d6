-- The refusals of the call in their order, by the answer `k` that the table and the deltas get by themselves, and its answer. Assumes nothing.
use mathlib.Core.Path.{◌≡◌, refl, sym, ap, ap₂, ◌∙◌}
use mathlib.Core.Bool.{Bool, true, false, cond, not, ◌||◌}
use mathlib.Core.List.{List, [], ◌∷◌}
use mathlib.Core.Logic.{⊎_elim}
use Rattle.std.proofs.Common.{◌⊎◌, inl, inr, IfOk, Result, Ok, Err}
use Prim.Native.Nat.{ℕ, ◌≤◌, ◌<◌}
use native.Mathlib.Omega.{arith}
use lib.Dec.{eqb, ltb}
use lib.ListN.{length, take}
use lib.IntN.{ℤ}
use borrow.Author.Tests.{eq-eqb, ne_eqb, lt-ltb, le-ltb, ltb-false, not-false}
use Rattle.lists.proofs.Bools.{and_right, or_left, asked, cond_second}
use Rattle.lists.specs.Lists.{overwrite}
use Rattle.lists.proofs.Lists.{Each}
use Rattle.refusals.specs.declared.Refusal.{Refusal}
use Rattle.refusals.specs.declared.Refusal.TheVariants.{LengthsDiffer, TooManyMembers, OutOfRange, Cycle, NotAnOrder, TxidPresent, NoSlotFree, ClusterTooMany, ClusterTooLarge, TxidAbsent, RoomTooShort, TableIllFormed, InputIllFormed}
use Rattle.refusals.proofs.Outcomes.{no_success}
use Rattle.refusals.specs.Refusals.{number_of, differ, answer_of, refusal, success}
use Rattle.refusals.proofs.Lines.{Past, Gives, Takes, none_past, past, stop, refuses, succeeds, keeps, writes}
use Rattle.pool_table.specs.Pool.{slot_count, entries}
use Rattle.pool_table.specs.Words.{is_legal, pool_of}
use Rattle.pool_table.specs.WellFormed.{sound, well_formed}
use Rattle.pool_table.proofs.Legal.{few_slots}
use Rattle.pool_rules.proofs.Sound.{well_legal}
use Rattle.pool_order.specs.Order.{roomy, stands_in}
use Rattle.pool_order.proofs.Slots.{roomy_all}
use Rattle.pool_chunks.specs.Sorted.{bad_delta, delta_refusals, Arrays, Sorted}
use Rattle.template_rules.specs.Filling.{Settings, template}
use Rattle.template_rules.specs.Calls.{template_refusals, template_reply, template_room}
use Rattle.template_rules.proofs.Theorems.{template_few}
use Rattle.template.specs.Trying.{Fillable, Filled, Wide}

-- ---- which of three lines gave a number

abbrev from_three : Bool → ℕ
from_three c = cond c 3 0

abbrev from_one : Bool → Bool → ℕ
from_one b c = cond b 1 (from_three c)

abbrev from_twelve : Bool → Bool → Bool → ℕ
from_twelve a b c = cond a 12 (from_one b c)

first_12 : (a b c : Bool) → from_twelve a b c ≡ 12 → a ≡ true
first_12 true b c e = refl
first_12 false true c e = absurd (omega arith)
first_12 false false true e = absurd (omega arith)
first_12 false false false e = absurd (omega arith)

past_12 : (a b c : Bool) → (from_twelve a b c ≡ 12 → ⊥) → a ≡ false
past_12 true b c n = absurd (n refl)
past_12 false b c n = refl

first_1 : (a b c : Bool) → from_twelve a b c ≡ 1 → b ≡ true
first_1 true b c e = absurd (omega arith)
first_1 false true c e = refl
first_1 false false true e = absurd (omega arith)
first_1 false false false e = absurd (omega arith)

past_1 : (b c : Bool) → (from_one b c ≡ 1 → ⊥) → b ≡ false
past_1 true c n = absurd (n refl)
past_1 false c n = refl

one_or_twelve : (a b c : Bool) → (from_twelve a b c ≡ 0 → ⊥) → (from_twelve a b c ≡ 3 → ⊥) → (from_twelve a b c ≡ 12) ⊎ (from_twelve a b c ≡ 1)
one_or_twelve true b c n m = inl refl
one_or_twelve false true c n m = inr refl
one_or_twelve false false true n m = absurd (m refl)
one_or_twelve false false false n m = absurd (n refl)

-- what a call that refuses nothing was asked with
pub parts_of : (t : List ℕ) (w : Settings) (room : List ℕ) → Takes (template_refusals t w room)
    → (well_formed t ≡ true)
    × (differ (length w.deltas) (slot_count (pool_of t)) ≡ false)
    × (entries (pool_of t) ≤ length room)
    × (bad_delta (pool_of t) w.deltas ≡ false)
unfolding template_refusals answer_of
parts_of t w room takes =
    let a = cond_second (not (well_formed t)) takes.answer (λ z. omega arith) in
    let b = cond_second
    (differ (length w.deltas) (slot_count (pool_of t)) || differ (length w.marks) (slot_count (pool_of t))) a.1 (λ z. omega arith) in
    let c = cond_second (ltb (length room) (entries (pool_of t))) b.1 (λ z. omega arith) in
    let d = cond_second (bad_delta (pool_of t) w.deltas) c.1 (λ z. omega arith) in (
      not-false (well_formed t) a.0,
      or_left (differ (length w.deltas) (slot_count (pool_of t))) (differ (length w.marks) (slot_count (pool_of t))) b.0,
      ltb-false (length room) (entries (pool_of t)) c.0,
      d.0,
    )

module _ (t : List ℕ) (w : Settings) (room : List ℕ) {k : ℕ} (e : k ≡ answer_of (delta_refusals (well_formed t) t w.deltas)) where
  abbrev broken : Bool
  broken = not (well_formed t)

  abbrev longer : Bool
  longer = differ (length w.deltas) (slot_count (pool_of t))

  abbrev bad : Bool
  bad = bad_delta (pool_of t) w.deltas

  number : k ≡ from_twelve broken longer bad
  unfolding answer_of delta_refusals
  number = e

  -- ---- 12, 1, 11, 3

  pub gives_12 : k ≡ 12 → Gives (template_refusals t w room) 12
  unfolding template_refusals
  gives_12 q = stop (none_past refl) (first_12 broken longer bad (sym number ∙ q))

  module _ (n12 : k ≡ 12 → ⊥) where
    formed : broken ≡ false
    formed = past_12 broken longer bad (λ q. n12 (number ∙ q))

    pub well_formed_lem : well_formed t ≡ true
    well_formed_lem = not-false (well_formed t) formed

    past_table : Past (template_refusals t w room) 1
    unfolding template_refusals
    past_table = past (none_past refl) formed

    pub gives_1 : k ≡ 1 → Gives (template_refusals t w room) 1
    unfolding template_refusals
    gives_1 q =
        stop past_table
        (ap (λ (b : Bool). b || differ (length w.marks) (slot_count (pool_of t))) (first_1 broken longer bad (sym number ∙ q)))

    module _ (n1 : k ≡ 1 → ⊥) where
      rest : k ≡ from_one longer bad
      rest = number ∙ ap (λ (b : Bool). from_twelve b longer bad) formed

      as_long : longer ≡ false
      as_long = past_1 longer bad (λ q. n1 (rest ∙ q))

      pub gives_1_too : (length w.marks ≡ slot_count (pool_of t) → ⊥) → Gives (template_refusals t w room) 1
      unfolding template_refusals
      gives_1_too d = stop past_table (ap₂ ◌||◌ as_long (ap not (ne_eqb (length w.marks) (slot_count (pool_of t)) d)))

      module _ (same : length w.marks ≡ slot_count (pool_of t)) where
        past_lengths : Past (template_refusals t w room) 2
        unfolding template_refusals
        past_lengths = past past_table (ap₂ ◌||◌ as_long (ap not (eq-eqb (length w.marks) (slot_count (pool_of t)) same)))

        pub gives_11 : length room < entries (pool_of t) → Gives (template_refusals t w room) 11
        unfolding template_refusals
        gives_11 l = stop past_lengths (lt-ltb (length room) (entries (pool_of t)) l)

        module _ (fits : entries (pool_of t) ≤ length room) where
          past_room : Past (template_refusals t w room) 3
          unfolding template_refusals
          past_room = past past_lengths (le-ltb (length room) (entries (pool_of t)) fits)

          last : k ≡ from_three bad
          last = rest ∙ ap (λ (b : Bool). from_one b bad) as_long

          -- what is left of the table's and the deltas' own answer is the call's
          pub answer_rest : k ≡ answer_of (template_refusals t w room)
          unfolding template_refusals answer_of
          answer_rest = last ∙ sym past_room.same

  -- a refusal but 3 is the call's
  pub early : (k ≡ 0 → ⊥) → (k ≡ 3 → ⊥) → k ≡ answer_of (template_refusals t w room)
  early n m =
      ⊎_elim
      (λ q. let twelve : k ≡ 12 = number ∙ q in twelve ∙ sym (gives_12 twelve).answer)
      (λ q. let one : k ≡ 1 = number ∙ q in one ∙ sym (gives_1 (λ z. absurd (omega arith)) one).answer)
      (one_or_twelve broken longer bad (λ z. n (number ∙ z)) (λ z. m (number ∙ z)))

-- ---- a table that is well-formed

module _ (t : List ℕ) (h : well_formed t ≡ true) where
  its_sound : sound (pool_of t) ≡ true
  unfolding well_formed
  its_sound = and_right (is_legal (length t)) (sound (pool_of t)) h

  -- its chunks can be tried
  pub fillable : (ds : List ℤ) (r : Arrays) → slot_count (pool_of t) < length r.firsts → Sorted (pool_of t) ds r → Fillable (pool_of t) r
  fillable ds r wide s = record { stands = its_sound; few = few_slots t (well_legal t h); wide = wide; deltas = ds; sorted = s }

  pub template_fits : (w : Settings) → length (template (pool_of t) w) ≤ entries (pool_of t)
  template_fits w = template_few (pool_of t) its_sound (few_slots t (well_legal t h)) w

-- rooms that are wide enough where the table is well-formed
pub stands_wide : (t rooms : List ℕ) → Wide t rooms → stands_in t rooms ≡ well_formed t
unfolding stands_in
stands_wide t rooms h = asked (roomy (slot_count (pool_of t)) rooms) (well_formed t) h

-- nine rooms of one length
pub nine_wide : (t : List ℕ) (m : ℕ) → (well_formed t ≡ true → slot_count (pool_of t) < m)
    → Wide t (m ∷ m ∷ m ∷ m ∷ m ∷ m ∷ m ∷ m ∷ m ∷ [])
unfolding Each
nine_wide t m l h = roomy_all (slot_count (pool_of t)) _ (l h, (l h, (l h, (l h, (l h, (l h, (l h, (l h, (l h, tt)))))))))

pub slots_few : (t : List ℕ) → well_formed t ≡ true → slot_count (pool_of t) < 1025
slots_few t h = omega (arith, few_slots t (well_legal t h))

-- ---- what is answered

-- which answers go first
abbrev pub goes_first : ℕ → Bool
goes_first k = not (eqb k 0 || eqb k 3)

pub those_first : (k : ℕ) → goes_first k ≡ true → (k ≡ 0 → ⊥) × (k ≡ 3 → ⊥)
those_first k e =
    (λ z. let clash : true ≡ false = sym e ∙ ap goes_first z in cc, λ z. let clash : true ≡ false = sym e ∙ ap goes_first z in cc)

pub those_behind : (k : ℕ) → goes_first k ≡ false → (k ≡ 12 → ⊥) × (k ≡ 1 → ⊥)
those_behind k e =
    (λ z. let clash : false ≡ true = sym e ∙ ap goes_first z in cc, λ z. let clash : false ≡ true = sym e ∙ ap goes_first z in cc)

pub behind : (r : Refusal) → (r ≡ OutOfRange → ⊥) → true ≡ goes_first (number_of r)
behind r n = elim r as (λ (s : Refusal). (s ≡ OutOfRange → ⊥) → true ≡ goes_first (number_of s)) [
  | LengthsDiffer ↦ λ n. refl
  | TooManyMembers ↦ λ n. refl
  | OutOfRange ↦ λ n. absurd (n refl)
  | Cycle ↦ λ n. refl
  | NotAnOrder ↦ λ n. refl
  | TxidPresent ↦ λ n. refl
  | NoSlotFree ↦ λ n. refl
  | ClusterTooMany ↦ λ n. refl
  | ClusterTooLarge ↦ λ n. refl
  | TxidAbsent ↦ λ n. refl
  | RoomTooShort ↦ λ n. refl
  | TableIllFormed ↦ λ n. refl
  | InputIllFormed ↦ λ n. refl
] n

pub own_count : (r : Result ℕ Refusal) → IfOk r (λ n. r ≡ Ok n)
own_count (Ok n) = refl
own_count (Err r) = tt

module _ (t : List ℕ) (w : Settings) (room : List ℕ) where
  -- a refusal: nothing is written
  pub answered_refused : (r : Refusal) → number_of r ≡ answer_of (template_refusals t w room)
      → (refusal (number_of r) ≡ template_reply t w room) × (room ≡ template_room t w room)
  unfolding template_reply template_room
  answered_refused r told =
      let g : Gives (template_refusals t w room) (number_of r) = record { answer = sym told; number = ne_eqb (number_of r) 0 (no_success r) } in
      (refuses refusal _ g refl, keeps room _ g)

  -- the template, at the room's start
  pub answered_filled : {n : ℕ} {picked out : List ℕ} → Takes (template_refusals t w room) → Filled (template (pool_of t) w) picked n
      → out ≡ overwrite (take n picked) room → (success n ≡ template_reply t w room) × (out ≡ template_room t w room)
  unfolding template_reply template_room
  answered_filled takes f o =
      (succeeds refusal _ takes (ap success f.count), writes room _ takes (o ∙ ap (λ (l : List ℕ). overwrite l room) f.are))
