-- The cut: what is held of a chunk, the list that serves as its stack as a pile of chunks, and the loops of `swallow` and `cut` as records over
-- plain values, with a law for each thing that the code does: it starts, takes a turn, is done. Assumes nothing.
use Prim.Native.Nat.{ℕ, suc, ◌+◌, ◌-◌, ◌≤◌, ◌<◌, max}
use native.Mathlib.Nat.{not-suc-le-zero}
use native.Mathlib.Numerals.{add-one}
use native.Mathlib.Omega.{arith}
use mathlib.Core.Path.{◌≡◌, refl, sym, ap, ap₂, ◌∙◌}
use mathlib.Core.Bool.{Bool, true, false, cond, not, ◌&&◌, ◌||◌, and-true, and-false, or-false}
use mathlib.Core.List.{List, [], ◌∷◌, ◌++◌, map, reverse_aux, append_assoc, append-nil}
use mathlib.Core.Logic.{⊎_elim}
use lib.Dec.{eqb, ltb}
use lib.ListN.{length, take, drop, get_or, set, length-append, length-set, drop_of_length-le}
use lib.Seq.{drop-cons, take-suc, take_all, take_at, drop_at, append_snoc, get_or-set_same, get_or-set_other}
use lib.IntN.{ℤ}
use borrow.Author.Tests.{lt-ltb, le-ltb, eqb-true}
use Rattle.lists.specs.Lists.{any_of, elem, highest_of}
use Rattle.lists.proofs.Bools.{cases}
use Rattle.lists.proofs.Lists.{any_append, elem_append, elem_one}
use Rattle.lists.proofs.Numbers.{lt_or_ge}
use Rattle.feefrac.specs.declared.FeeFrac.{FeeFrac}
use Rattle.feefrac.specs.Rate.{rate_at, sum, higher}
use Rattle.txset.specs.declared.TxSet.{TxSet}
use Rattle.txset.specs.Sets.{positions, is_position, mem, set_at, mem_at}
use Rattle.chunking.specs.declared.Chunk.{Chunk}
use Rattle.chunking.specs.Chunks.{swallow, chunks_after, lengths_of, chunk_lengths}
use Rattle.chunking.specs.Orders.{cut, chunks_of}
use Rattle.output_order.specs.declared.Piece.{Piece}
use Rattle.output_order.specs.Steps.{All, needed, Holds, no_piece, piece_at, rate_of, Cut, Alone, Piled, in_order, rated, rated_pile, HeldAt, Grown, Growing, Swallowed}

-- ---- what is held of a chunk

highest_one : (t : ℕ) → t ≡ highest_of (t ∷ [])
unfolding highest_of
highest_one t = omega arith

highest_append : (xs ys : List ℕ) → highest_of (xs ++ ys) ≡ max (highest_of xs) (highest_of ys)
unfolding highest_of
highest_append [] ys = omega arith
highest_append (x ∷ xs) ys = omega (arith, highest_append xs ys)

-- of one position
module _ (n t : ℕ) (anc : ℕ → ℕ → Bool) where
  needed_one : (a : ℕ) → needed n anc (t ∷ []) a ≡ (ltb t n && anc t a)
  unfolding needed any_of
  needed_one a = or-false (ltb t n && anc t a)

  -- that is no member
  pub holds_none : n ≤ t → (s o : TxSet) → ((i : ℕ) → mem s i ≡ false) → ((a : ℕ) → mem o a ≡ false) → Holds n anc (t ∷ []) s o t
  holds_none l s o none without =
      record {
        members = λ i. none i ∙ sym (ap (λ (b : Bool). ltb i n && b) (elem_one i t) ∙ past i);
        outsiders = λ a.
            without a
            ∙ sym (ap (λ (b : Bool). ltb a n && (b && not (elem a (t ∷ [])))) (needed_one a ∙ ap (λ (b : Bool). b && anc t a) (le-ltb t n l)) ∙ and-false (ltb a n));
        highest = highest_one t;
      }
    where
      past : (i : ℕ) → (ltb i n && eqb i t) ≡ false
      past i =
          cases (eqb i t)
          (λ e. ap (λ (b : Bool). b && eqb i t) (le-ltb i n (omega (arith, eqb-true i t e))))
          (λ e. ap (λ (b : Bool). ltb i n && b) e ∙ and-false (ltb i n))

-- of a member
pub holds_one : {n : ℕ} {all : TxSet} (ancestors : List ℕ) (t : ℕ) → All n all → t < n → (s o : TxSet)
    → ((i : ℕ) → mem s i ≡ (is_position i && eqb i t))
    → ((a : ℕ) → mem o a ≡ ((mem (set_at ancestors t) a && mem all a) && not (eqb a t))) → Holds n (mem_at ancestors) (t ∷ []) s o t
holds_one {n} {all} ancestors t h l s o is rest =
    record {
      members = λ i. is i ∙ within i ∙ sym (ap (λ (b : Bool). ltb i n && b) (elem_one i t));
      outsiders = λ a.
          rest a
          ∙ ap (λ (b : Bool). (mem (set_at ancestors t) a && b) && not (eqb a t)) (h.are a)
          ∙ turned (mem (set_at ancestors t) a) (ltb a n) (eqb a t)
          ∙ sym (ap₂ (λ (b c : Bool). ltb a n && (b && not c))
          (needed_one n t (mem_at ancestors) a ∙ ap (λ (b : Bool). b && mem (set_at ancestors t) a) (lt-ltb t n l))
          (elem_one a t));
      highest = highest_one t;
    }
  where
    turned : (a l e : Bool) → ((a && l) && not e) ≡ (l && (a && not e))
    turned true l e = refl
    turned false l e = sym (and-false l)

    within : (i : ℕ) → (is_position i && eqb i t) ≡ (ltb i n && eqb i t)
    within i =
        cases (eqb i t)
        (λ e.
        let q = eqb-true i t e in
        rw e (and-true (is_position i) ∙ lt-ltb i positions (omega (arith, h.few)) ∙ sym (and-true (ltb i n) ∙ lt-ltb i n (omega arith))))
        (λ e. rw e (and-false (is_position i) ∙ sym (and-false (ltb i n))))

-- of two chunks, d before c
pub holds_both : {n : ℕ} {anc : ℕ → ℕ → Bool} {c d : List ℕ} {s o s' o' : TxSet} {t t' : ℕ} → Holds n anc c s o t → Holds n anc d s' o' t'
    → (both more rest : TxSet) (top : ℕ) → ((i : ℕ) → mem both i ≡ (mem s i || mem s' i)) → ((a : ℕ) → mem more a ≡ (mem o a || mem o' a))
    → ((a : ℕ) → mem rest a ≡ (mem more a && not (mem both a))) → top ≡ max t t' → Holds n anc (d ++ c) both rest top
unfolding needed
holds_both {n} {anc} {c} {d} h k both more rest top u m r e =
    record {
      members = λ i. u i ∙ ap₂ ◌||◌ (h.members i) (k.members i) ∙ inner (ltb i n) (elem i c) (elem i d) ∙ sym (ap (λ (b : Bool). ltb i n && b) (elem_append i d c));
      outsiders = λ a.
          r a
          ∙ ap₂ (λ (x y : Bool). x && not y) (m a ∙ ap₂ ◌||◌ (h.outsiders a) (k.outsiders a)) (u a ∙ ap₂ ◌||◌ (h.members a) (k.members a))
          ∙ outer (ltb a n) (needed n anc c a) (elem a c) (needed n anc d a) (elem a d)
          ∙ sym (ap₂ (λ (x y : Bool). ltb a n && (x && not y)) (any_append (λ t. ltb t n && anc t a) d c) (elem_append a d c));
      highest = omega (arith, h.highest, k.highest, highest_append d c);
    }
  where
    inner : (l x y : Bool) → (l && x || l && y) ≡ (l && (y || x))
    inner true true true = refl
    inner true true false = refl
    inner true false true = refl
    inner true false false = refl
    inner false x y = refl

    outer : (l x e y f : Bool) → ((l && (x && not e) || l && (y && not f)) && not (l && e || l && f)) ≡ (l && ((y || x) && not (f || e)))
    outer false x e y f = refl
    outer true true true true true = refl
    outer true true true true false = refl
    outer true true true false true = refl
    outer true true true false false = refl
    outer true true false true true = refl
    outer true true false true false = refl
    outer true true false false true = refl
    outer true true false false false = refl
    outer true false true true true = refl
    outer true false true true false = refl
    outer true false true false true = refl
    outer true false true false false = refl
    outer true false false true true = refl
    outer true false false true false = refl
    outer true false false false true = refl
    outer true false false false false = refl

-- ---- a pile

-- what holds below the top stays where nothing below changes
piled_same : (P Q : ℕ → List ℕ → Type 0) (cs : List (List ℕ)) → ((k : ℕ) (c : List ℕ) → k < length cs → P k c → Q k c) → Piled P cs → Piled Q cs
unfolding Piled
piled_same P Q [] h p = tt
piled_same P Q (c ∷ cs) h p = (h (length cs) c (omega arith) p.0, piled_same P Q cs (λ k d l. h k d (omega arith)) p.1)

rated_same : (r s : ℕ → FeeFrac) (cs : List (List ℕ)) → ((k : ℕ) → k < length cs → r k ≡ s k) → rated_pile r cs ≡ rated_pile s cs
unfolding rated_pile
rated_same r s [] h = refl
rated_same r s (c ∷ cs) h =
    ap₂ (λ (x : FeeFrac) (l : List Chunk). rated x c ∷ l) (h (length cs) (omega arith)) (rated_same r s cs (λ k l. h k (omega arith)))

-- the pile turned over: the k-th chunk is that at the place k
turned_length : (cs acc : List (List ℕ)) → length (reverse_aux cs acc) ≡ length cs + length acc
turned_length [] acc = omega arith
turned_length (c ∷ cs) acc = omega (arith, turned_length cs (c ∷ acc))

turned_past : (cs acc : List (List ℕ)) (j k : ℕ) → k ≡ length cs + j → get_or (reverse_aux cs acc) k [] ≡ get_or acc j []
turned_past [] acc j k e = let z : k ≡ j = omega arith in rw z
turned_past (c ∷ cs) acc j k e = turned_past cs (c ∷ acc) (suc j) k (omega arith)

piled_at : (P : ℕ → List ℕ → Type 0) (cs acc : List (List ℕ)) → Piled P cs → (k : ℕ) → k < length cs → P k (get_or (reverse_aux cs acc) k [])
unfolding Piled
piled_at P [] acc p k l = absurd (not-suc-le-zero l)
piled_at P (c ∷ cs) acc p k l =
    ⊎_elim
    (λ b. piled_at P cs (c ∷ acc) p.1 k b)
    (λ b.
    let e : k ≡ length cs = omega arith in
    rw (turned_past cs (c ∷ acc) 0 k (omega arith), e) p.0)
    (lt_or_ge k (length cs))

-- module 7's cut by the lengths of a pile gives the pile, turned over
cut_pile : (rate : ℕ → FeeFrac) (cs acc : List (List ℕ)) (ls xs : List ℕ) → cut ls xs ≡ acc
    → cut (lengths_of (rated_pile rate cs) ++ ls) (in_order cs ++ xs) ≡ reverse_aux cs acc
unfolding rated_pile in_order lengths_of cut
cut_pile rate [] acc ls xs e = e
cut_pile rate (c ∷ cs) acc ls xs e =
    ap₂ (λ (l m : List ℕ). cut l m) (append_snoc (lengths_of (rated_pile rate cs)) (length c) ls) (append_assoc (in_order cs) c xs)
    ∙ cut_pile rate cs (c ∷ acc) (length c ∷ ls) (c ++ xs) (ap₂ ◌∷◌ (take_at c xs (length c) refl) (ap (cut ls) (drop_at c xs (length c) refl) ∙ e))

-- ---- swallow

pub grow_start : {ps : List Piece} (p : Piece) (count : ℕ) → Growing ps p count p count
grow_start p count =
    record {
      down = omega arith;
      grown = λ n anc c cs e h q. record { chunk = c; below = cs; place = e; holds = h; piled = q; ordered = refl; same = refl };
    }

module _ {ps : List Piece} {p q : Piece} {count at : ℕ} (h : Growing ps p count q at) where
  -- the chunk before the piece, at k, is swallowed
  pub grow_turn : (k : ℕ) → 0 < at → k ≡ at - 1 → higher q.rate (rate_of ps k) ≡ true → (r : FeeFrac) (both more rest : TxSet) (top : ℕ)
      → r ≡ sum q.rate (rate_of ps k) → ((i : ℕ) → mem both i ≡ (mem q.set i || mem (piece_at ps k).set i))
      → ((a : ℕ) → mem more a ≡ (mem q.outside a || mem (piece_at ps k).outside a)) → ((a : ℕ) → mem rest a ≡ (mem more a && not (mem both a)))
      → top ≡ max q.top (piece_at ps k).top
      → Growing ps p count (record { rate = r; set = both; outside = rest; top = top }) k
  unfolding Piled in_order rated_pile swallow
  grow_turn k l is up r both more rest top e u m w t =
      record {
        down = omega (arith, h.down);
        grown = λ n anc c cs z x y. let g = h.grown n anc c cs z x y in go n anc c cs g g.below g.place g.piled g.ordered g.same;
      }
    where
      go : (n : ℕ) (anc : ℕ → ℕ → Bool) (c : List ℕ) (cs : List (List ℕ)) (g : Grown n anc ps p.rate c cs q at) (below : List (List ℕ))
          → length below ≡ at → Piled (HeldAt n anc ps) below → in_order (g.chunk ∷ below) ≡ in_order (c ∷ cs)
          → swallow (rated q.rate g.chunk) (rated_pile (rate_of ps) below) ≡ swallow (rated p.rate c) (rated_pile (rate_of ps) cs)
          → Grown n anc ps p.rate c cs (record { rate = r; set = both; outside = rest; top = top }) k
      go n anc c cs g [] place piled ordered same = absurd (omega arith)
      go n anc c cs g (d ∷ ds) place piled ordered same =
          let z : length ds ≡ k = omega arith in
          let long : length (d ++ g.chunk) ≡ length g.chunk + length d = omega (arith, length-append d g.chunk) in
          record {
            chunk = d ++ g.chunk;
            below = ds;
            place = z;
            holds = holds_both g.holds (rw z at piled.0) both more rest top u m w t;
            piled = piled.1;
            ordered = sym (append_assoc (in_order ds) d g.chunk) ∙ ordered;
            same =
                ap₂ (λ (x : FeeFrac) (l : ℕ). swallow (record { rate = x; len = l }) (rated_pile (rate_of ps) ds)) (e ∙ ap (λ (j : ℕ). sum q.rate (rate_of ps j)) (sym z)) long
                ∙ sym (ap (λ (b : Bool). cond b
                (swallow (record { rate = sum q.rate (rate_of ps (length ds)); len = length g.chunk + length d }) (rated_pile (rate_of ps) ds))
                (rated q.rate g.chunk ∷ rated (rate_of ps (length ds)) d ∷ rated_pile (rate_of ps) ds))
                (ap (λ (j : ℕ). higher q.rate (rate_of ps j)) z ∙ up))
                ∙ same;
          }

-- nothing more is swallowed: no chunk is left, or the piece is not above the one before it
module _ {ps : List Piece} {p q : Piece} {count at : ℕ} (h : Growing ps p count q at) where
  pub stopped_empty : at ≤ 0 → Swallowed ps p count q at
  unfolding swallow rated_pile
  stopped_empty l = record { growing = h; stopped = none }
    where
      none : (c : List ℕ) (cs : List (List ℕ)) → length cs ≡ at
          → swallow (rated q.rate c) (rated_pile (rate_of ps) cs) ≡ rated q.rate c ∷ rated_pile (rate_of ps) cs
      none c [] e = refl
      none c (d ∷ ds) e = absurd (omega arith)

  pub stopped_top : (k : ℕ) → 0 < at → k ≡ at - 1 → higher q.rate (rate_of ps k) ≡ false
      → Swallowed ps p count q at
  unfolding swallow rated_pile
  stopped_top k l is low = record { growing = h; stopped = top }
    where
      top : (c : List ℕ) (cs : List (List ℕ)) → length cs ≡ at
          → swallow (rated q.rate c) (rated_pile (rate_of ps) cs) ≡ rated q.rate c ∷ rated_pile (rate_of ps) cs
      top c [] e = refl
      top c (d ∷ ds) e =
          let z : length ds ≡ k = omega arith in
          ap (λ (b : Bool). cond b
          (swallow (record { rate = sum q.rate (rate_of ps (length ds)); len = length c + length d }) (rated_pile (rate_of ps) ds))
          (rated q.rate c ∷ rated (rate_of ps (length ds)) d ∷ rated_pile (rate_of ps) ds))
          (ap (λ (j : ℕ). higher q.rate (rate_of ps j)) z ∙ low)

-- ---- cut

-- the first `count` places have the chunks of the first i of the order
pub record Cutting (fs : List ℤ) (ss ancestors order : List ℕ) (ps : List Piece) (count i : ℕ) : Type 0 where
  pub up : i ≤ length order
  pub few : count ≤ i
  pub long : length ps ≡ positions
  pub pile : List (List ℕ)
  pub place : length pile ≡ count
  pub piled : Piled (HeldAt (length fs) (mem_at ancestors) ps) pile
  pub ordered : in_order pile ≡ take i order
  pub same : chunks_after (rated_pile (rate_of ps) pile) (map (rate_at fs ss) (drop i order)) ≡ chunks_after [] (map (rate_at fs ss) order)

pub cut_start : {fs : List ℤ} {ss ancestors order : List ℕ} {ps : List Piece} → length ps ≡ positions → Cutting fs ss ancestors order ps 0 0
unfolding Piled in_order rated_pile
cut_start h = record { up = omega arith; few = omega arith; long = h; pile = []; place = refl; piled = tt; ordered = refl; same = refl }

module _ {fs : List ℤ} {ss ancestors order : List ℕ} {ps : List Piece} {count i : ℕ} (h : Cutting fs ss ancestors order ps count i) where
  -- the next of the order, alone as p, has become q, which is pushed
  module _ {p q : Piece} {at : ℕ} (one : Alone (length fs) (mem_at ancestors) (rate_at fs ss (get_or order i 0)) (get_or order i 0) p)
      (s : Swallowed ps p count q at) (l : i < length order) (short : length order ≤ positions) where
    pub cut_place : at < positions
    cut_place = omega (arith, h.few, s.growing.down)

    pub cut_turn : Cutting fs ss ancestors order (set ps at q) (at + 1) (i + 1)
    unfolding Piled in_order rated_pile chunks_after
    cut_turn =
        let t = get_or order i 0 in
        let g = s.growing.grown (length fs) (mem_at ancestors) (t ∷ []) h.pile h.place one.holds h.piled in
        let new = set ps at q in
        let here : piece_at new at ≡ q = get_or-set_same ps at q no_piece (omega (arith, h.long, cut_place)) in
        let there : (j : ℕ) → (j ≡ at → ⊥) → piece_at new j ≡ piece_at ps j = λ j n. get_or-set_other ps at j q no_piece n in
        let taken : take (i + 1) order ≡ take i order ++ (t ∷ []) = rw add-one (take-suc order i 0 l) in
        let dropped : drop i order ≡ t ∷ drop (i + 1) order = rw add-one (drop-cons order i 0 l) in
        record {
          up = omega arith;
          few = omega (arith, h.few, s.growing.down);
          long = length-set ps at q ∙ h.long;
          pile = g.chunk ∷ g.below;
          place = omega (arith, g.place);
          piled = (
            rw (g.place, here) g.holds,
            piled_same (HeldAt (length fs) (mem_at ancestors) ps) (HeldAt (length fs) (mem_at ancestors) new) g.below
                (λ j x m y. rw (there j (λ z. omega (arith, g.place))) y) g.piled,
          );
          ordered = g.ordered ∙ ap (λ (x : List ℕ). x ++ (t ∷ [])) h.ordered ∙ sym taken;
          same =
              ap (λ (x : List Chunk). chunks_after x (map (rate_at fs ss) (drop (i + 1) order)))
              (ap₂ (λ (x : FeeFrac) (y : List Chunk). rated x g.chunk ∷ y) (ap (λ (x : Piece). x.rate) (ap (piece_at new) g.place ∙ here))
              (rated_same (rate_of new) (rate_of ps) g.below (λ j m. ap (λ (x : Piece). x.rate) (there j (λ z. omega (arith, g.place)))))
              ∙ sym (s.stopped g.chunk g.below g.place)
              ∙ g.same
              ∙ ap (λ (x : FeeFrac). swallow (rated x (t ∷ [])) (rated_pile (rate_of ps) h.pile)) one.rate_is)
              ∙ sym (ap (λ (x : List ℕ). chunks_after (rated_pile (rate_of ps) h.pile) (map (rate_at fs ss) x)) dropped)
              ∙ h.same;
        }

  -- all of the order has come
  module _ (l : length order ≤ i) where
    turned : chunks_of fs ss order ≡ reverse_aux h.pile []
    unfolding chunks_of chunk_lengths chunks_after cut
    turned =
        let rate = rate_of ps in
        let made : rated_pile rate h.pile ≡ chunks_after [] (map (rate_at fs ss) order) =
        sym (ap (λ (x : List ℕ). chunks_after (rated_pile rate h.pile) (map (rate_at fs ss) x)) (drop_of_length-le order l)) ∙ h.same in
        let whole : in_order h.pile ≡ order = h.ordered ∙ take_all i order l in
        ap₂ (λ (x : List Chunk) (y : List ℕ). cut (lengths_of x) y) (sym made) (sym whole)
        ∙ sym (ap₂ (λ (x y : List ℕ). cut x y) (append-nil (lengths_of (rated_pile rate h.pile))) (append-nil (in_order h.pile)))
        ∙ cut_pile rate h.pile [] [] [] refl

    pub cut_done : length order ≤ positions → Cut (length fs) (mem_at ancestors) (chunks_of fs ss order) ps count
    cut_done short =
        record {
          count = sym h.place ∙ sym (ap length turned ∙ omega (arith, turned_length h.pile []));
          few = omega (arith, h.few, h.up);
          holds = λ k b. rw turned (piled_at (HeldAt (length fs) (mem_at ancestors) ps) h.pile [] h.piled k (omega (arith, h.place)));
        }
