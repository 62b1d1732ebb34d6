-- Why no round of specs/Output.antt is idle: where each member stands in the order after its ancestors, of the chunks not gone the first is
-- ready, and of the members of a ready chunk that are not out the first in the order is ready. So all members go out. Assumes nothing.
use Prim.Native.Nat.{ℕ, zero, suc, ◌+◌, ◌≤◌, ◌<◌}
use native.Mathlib.Nat.{eq-or-lt_of_le}
use native.Mathlib.Omega.{arith}
use mathlib.Core.Path.{◌≡◌, refl, sym, ap, ap₂, ◌∙◌}
use mathlib.Core.Bool.{Bool, true, false, not, ◌&&◌, ◌||◌, or-true, or_assoc}
use mathlib.Core.Logic.{⊎_elim}
use mathlib.Core.List.{List, [], ◌∷◌, ◌++◌, append_assoc}
use lib.Dec.{eqb}
use lib.ListN.{length, take, drop, length-drop, take-append-drop}
use lib.IntN.{ℤ}
use borrow.Author.Tests.{eqb-true, eqb-false, not-true, not-false}
use Rattle.feefrac.specs.Rate.{rate_at}
use Rattle.lists.specs.Below.{all_from, count_from, first_from, list_from}
use Rattle.lists.specs.Lists.{any_of, elem}
use Rattle.lists.proofs.Bools.{clash, and_left, and_right, or_either, implies, cases}
use Rattle.lists.proofs.Below.{elem_in, all_at, at_all, count_without, first_is, elem_below}
use Rattle.lists.proofs.Lists.{elem_append, elem_left, elem_one, elem_head, without_append, After, in_append, in_cons}
use Rattle.lists.proofs.Numbers.{lt_or_ge}
use Rattle.feeset.specs.Scan.{ranks_above}
use Rattle.feefrac.proofs.Exact.{sum_of}
use Rattle.lists.proofs.Once.{missing, count_in, missing_all, missing_cons, none_missing}
use Rattle.lists.proofs.Ranges.{count_none, count_zero}
use Rattle.chunking.specs.Orders.{cut, chunk_at}
use Rattle.output_order.specs.Output.{chunk_above, chunk_ready, member_ready, inside, put_out, next_chunk, chunks_out}
use Rattle.output_order.proofs.Kept.{Best, none_or_best, may_come, may_ready, keeps_inside}

-- ---- the first in a list

-- `is` is the first of the list's elements that is in m
pub record FirstOf (m list : List ℕ) : Type 0 where
  pub front : List ℕ
  pub is : ℕ
  pub back : List ℕ
  pub split : list ≡ front ++ (is ∷ back)
  pub of : elem is m ≡ true
  pub before : (x : ℕ) → elem x front ≡ true → elem x m ≡ false

pub first_of : (m list : List ℕ) (i : ℕ) → elem i list ≡ true → elem i m ≡ true → FirstOf m list
unfolding elem any_of
first_of m [] i e p = clash e refl
first_of m (x ∷ list) i e p =
    cases (elem x m)
    (λ h. record { front = []; is = x; back = list; split = refl; of = h; before = λ y q. clash q refl })
    (λ h.
    let f = first_of m list i (⊎_elim (λ z. clash p (ap (λ (y : ℕ). elem y m) z ∙ h)) (λ q. q) (in_cons i x list e)) p in
    record {
      front = x ∷ f.front;
      is = f.is;
      back = f.back;
      split = ap (λ (l : List ℕ). x ∷ l) f.split;
      of = f.of;
      before = λ y q. ⊎_elim (λ z. ap (λ (y : ℕ). elem y m) z ∙ h) (λ r. f.before y r) (in_cons y x f.front q);
    })

-- ---- a list that is cut

-- t stands in the list, and what stands before it is in the parts up to the k-th
pub record Stands (cs : List (List ℕ)) (list : List ℕ) (k t : ℕ) : Type 0 where
  pub front : List ℕ
  pub back : List ℕ
  pub split : list ≡ front ++ (t ∷ back)
  pub before : (u : ℕ) → elem u front ≡ true → (j : ℕ) × ((j ≤ k) × (elem u (chunk_at cs j) ≡ true))

pub cut_stands : (ls xs : List ℕ) (k t : ℕ) → elem t (chunk_at (cut ls xs) k) ≡ true → Stands (cut ls xs) xs k t
unfolding cut elem any_of
cut_stands [] xs k t e = clash e refl
cut_stands (l ∷ ls) xs zero t e =
    let f = first_of (t ∷ []) (take l xs) t e (elem_head t []) in
    let is : f.is ≡ t = eqb-true f.is t (sym (elem_one f.is t) ∙ f.of) in
    record {
      front = f.front;
      back = f.back ++ drop l xs;
      split = sym (take-append-drop l xs) ∙ ap (λ (p : List ℕ). p ++ drop l xs) (f.split ∙ ap (λ (x : ℕ). f.front ++ (x ∷ f.back)) is)
          ∙ append_assoc f.front (t ∷ f.back) (drop l xs);
      before = λ u q. (0, (omega arith, ap (elem u) f.split ∙ elem_left u f.front (f.is ∷ f.back) q));
    }
cut_stands (l ∷ ls) xs (suc k) t e =
    let s = cut_stands ls (drop l xs) k t e in
    record {
      front = take l xs ++ s.front;
      back = s.back;
      split = sym (take-append-drop l xs) ∙ ap (λ (p : List ℕ). take l xs ++ p) s.split ∙ sym (append_assoc (take l xs) s.front (t ∷ s.back));
      before = λ u q.
          ⊎_elim
          (λ p. (0, (omega arith, p)))
          (λ p. let b = s.before u p in (suc b.0, (omega (arith, b.1.0), b.1.1)))
          (in_append u (take l xs) s.front q);
    }

-- each element of a part stands so
abbrev pub Parts : List (List ℕ) → List ℕ → Type 0
Parts cs list = (k t : ℕ) → elem t (chunk_at cs k) ≡ true → Stands cs list k t

-- where the lengths add up to the list's, each element is in a part
pub cut_covers : (ls xs : List ℕ) → length xs ≤ sum_of ls → (i : ℕ) → elem i xs ≡ true
    → (k : ℕ) × ((k < length ls) × (elem i (chunk_at (cut ls xs) k) ≡ true))
unfolding cut sum_of elem any_of
cut_covers [] [] h i e = clash e refl
cut_covers [] (x ∷ xs) h i e = absurd (omega arith)
cut_covers (l ∷ ls) xs h i e =
    ⊎_elim
    (λ p. (0, (omega arith, p)))
    (λ p. let c = cut_covers ls (drop l xs) (omega (arith, length-drop l xs)) i p in (suc c.0, (omega (arith, c.1.0), c.1.1)))
    (in_append i (take l xs) (drop l xs) (ap (elem i) (take-append-drop l xs) ∙ e))

-- ---- how many are due

-- the members of c that are not out
abbrev pub due : ℕ → List ℕ → List ℕ → ℕ
due n c out = count_from (λ t. elem t c && not (elem t out)) n 0

-- one more is out
due_less : (n : ℕ) (c out : List ℕ) (t : ℕ) → t < n → elem t c ≡ true → elem t out ≡ false → due n c out ≡ suc (due n c (out ++ (t ∷ [])))
due_less n c out t l p q =
    count_without (λ i. elem i c && not (elem i out)) (λ i. elem i c && not (elem i (out ++ (t ∷ [])))) n 0 t (omega arith) (omega arith)
    (ap₂ (λ (a b : Bool). a && not b) p q)
    (λ j _ _. sym (without_append (elem j c) j out (t ∷ [])) ∙ ap (λ (b : Bool). (elem j c && not (elem j out)) && not b) (elem_one j t))

-- ---- a ready chunk

-- each ancestor of a member of c is in c or out
abbrev pub Closed : ℕ → (ℕ → ℕ → Bool) → List ℕ → List ℕ → Type 0
Closed n anc out c = (t a : ℕ) → t < n → elem t c ≡ true → a < n → anc t a ≡ true → (elem a c || elem a out) ≡ true

module _ (n : ℕ) (anc : ℕ → ℕ → Bool) (out c : List ℕ) where
  -- so the chunk is ready
  pub closed_ready : Closed n anc out c → chunk_ready n anc out c ≡ true
  unfolding chunk_ready
  closed_ready h =
      at_all (λ t. not (elem t c) || all_from (λ a. not (anc t a) || (elem a c || elem a out)) n 0) n 0
      (λ t _ l. implies (elem t c) (all_from (λ a. not (anc t a) || (elem a c || elem a out)) n 0)
      (λ e. at_all (λ a. not (anc t a) || (elem a c || elem a out)) n 0
      (λ a _ m. implies (anc t a) (elem a c || elem a out) (λ p. h t a (omega arith) e (omega arith) p))))

  -- and only so
  pub ready_closed : chunk_ready n anc out c ≡ true → Closed n anc out c
  unfolding chunk_ready
  ready_closed h t a l e m p =
      let all = rw e at (all_at (λ t. not (elem t c) || all_from (λ a. not (anc t a) || (elem a c || elem a out)) n 0) n 0 h t (omega arith) (omega arith)) in
      rw p at (all_at (λ a. not (anc t a) || (elem a c || elem a out)) n 0 all a (omega arith) (omega arith))

  -- it stays so
  pub closed_more : (t : ℕ) → Closed n anc out c → Closed n anc (out ++ (t ∷ [])) c
  closed_more t h i a l e m p =
      ap (λ (b : Bool). elem a c || b) (elem_append a out (t ∷ []))
      ∙ sym (or_assoc (elem a c) (elem a out) (elem a (t ∷ [])))
      ∙ ap (λ (b : Bool). b || elem a (t ∷ [])) (h i a l e m p)

-- what is out stays out
inside_keeps : (fs : List ℤ) (ss : List ℕ) (n : ℕ) (anc : ℕ → ℕ → Bool) (c : List ℕ) (k : ℕ) (out : List ℕ) (i : ℕ) → elem i out ≡ true
    → elem i (inside fs ss n anc c k out) ≡ true
inside_keeps fs ss n anc c k out i =
    keeps_inside fs ss n anc (λ o. elem i o ≡ true) (λ _ o t _. elem_left i o (t ∷ [])) c k out

-- ---- a round finds one

-- each member of a gone chunk is out
abbrev pub Gone : ℕ → List (List ℕ) → List ℕ → List ℕ → Type 0
Gone n cs gone out = (k i : ℕ) → elem k gone ≡ true → i < n → elem i (chunk_at cs k) ≡ true → elem i out ≡ true

-- of the chunks those that may go next
abbrev may_go : ℕ → (ℕ → ℕ → Bool) → List (List ℕ) → List ℕ → List ℕ → ℕ → Bool
may_go n anc cs gone out k = not (elem k gone) && chunk_ready n anc out (chunk_at cs k)

-- where each member stands in the order after its ancestors
module _ (n : ℕ) (anc : ℕ → ℕ → Bool) (order : List ℕ) (after : After n anc order) where
  -- t is a member of a ready chunk, and of the chunk all that stand before t in the order are out: t's other ancestors are out
  pub first_member : (c out xs ys : List ℕ) (t : ℕ) → chunk_ready n anc out c ≡ true → order ≡ xs ++ (t ∷ ys) → t < n → elem t c ≡ true
      → ((x : ℕ) → x < n → elem x xs ≡ true → elem x c ≡ true → elem x out ≡ true) → member_ready n anc out t ≡ true
  unfolding member_ready
  first_member c out xs ys t h s l e before =
      at_all (λ a. not (anc t a) || (eqb a t || elem a out)) n 0
      (λ a _ m. implies (anc t a) (eqb a t || elem a out) (λ p. go a (omega arith) p))
    where
      go : (a : ℕ) → a < n → anc t a ≡ true → (eqb a t || elem a out) ≡ true
      go a m p =
          cases (eqb a t) (λ z. rw z) (λ z.
          rw z
          (⊎_elim (before a m (after xs ys t a s m p (eqb-false a t z))) (λ q. q)
          (or_either (elem a c) (elem a out) (ready_closed n anc out c h t a l e m p))))

  -- all chunks before the k-th are gone: it is ready
  pub first_chunk : (cs : List (List ℕ)) → Parts cs order → (gone out : List ℕ) (k : ℕ) → Gone n cs gone out
      → ((j : ℕ) → j < k → elem j gone ≡ true) → chunk_ready n anc out (chunk_at cs k) ≡ true
  first_chunk cs parts gone out k g before =
      closed_ready n anc out (chunk_at cs k) (λ t a l e m p.
      cases (eqb a t)
      (λ z. rw (eqb-true a t z, e))
      (λ z.
      let s = parts k t e in
      let b = s.before a (after s.front s.back t a s.split m p (eqb-false a t z)) in
      ⊎_elim
      (λ q. ap (λ (b : Bool). b || elem a out) (ap (λ (j : ℕ). elem a (chunk_at cs j)) (sym q) ∙ b.1.1))
      (λ q. ap (λ (b : Bool). elem a (chunk_at cs k) || b) (g b.0 a (before b.0 q) m b.1.1) ∙ or-true (elem a (chunk_at cs k)))
      (eq-or-lt_of_le b.1.0)))

  module _ (fs : List ℤ) (ss : List ℕ) where
    -- while a chunk is left, one goes next
    next_chunk_lem : (cs : List (List ℕ)) → Parts cs order → (gone out : List ℕ) → Gone n cs gone out → 1 ≤ missing (length cs) gone
        → (k : ℕ) × Best (chunk_above fs ss n cs) (may_go n anc cs gone out) (length cs) k
    next_chunk_lem cs parts gone out g l =
        let some : ℕ → Bool = λ k. not (elem k gone) in
        let first = first_is some (length cs) 0 in
        let p = first_from some (length cs) 0 in
        let low : p < length cs =
        ⊎_elim (λ b. b) (λ b. absurd (omega (arith, count_none some (length cs) (λ i c. first.before i (omega arith) (omega arith)))))
        (lt_or_ge p (length cs)) in
        let ready = first_chunk cs parts gone out p g (λ j b. not-false (elem j gone) (first.before j (omega arith) b)) in
        ⊎_elim
        (λ none. clash (ap₂ ◌&&◌ (first.at (omega arith)) ready) (none.1 p low))
        (λ b. b)
        (none_or_best (chunk_above fs ss n cs) (may_go n anc cs gone out) (length cs))

    -- and each is in the order
    module _ (whole : (i : ℕ) → i < n → elem i order ≡ true) where
      -- while a member of a ready chunk is not out, one comes next
      pub next_member : (c out : List ℕ) (i : ℕ) → chunk_ready n anc out c ≡ true → i < n → elem i c ≡ true → elem i out ≡ false
          → (t : ℕ) × Best (ranks_above (rate_at fs ss)) (may_come n anc c out) n t
      next_member c out i h l e q =
          let here : elem i (list_from waits n 0) ≡ true =
          elem_in waits n 0 i (omega arith) (omega arith) ∙ ap₂ (λ (a b : Bool). a && not b) e q in
          let f = first_of (list_from waits n 0) order i (whole i l) here in
          let t = f.is in
          let p = elem_below waits n t f.of in
          let ready = first_member c out f.front f.back t h f.split p.0 (and_left (elem t c) (not (elem t out)) p.1)
          (λ x b y z. not-false (elem x out)
          (ap (λ (a : Bool). a && not (elem x out)) (sym z) ∙ sym (elem_in waits n 0 x (omega arith) (omega arith)) ∙ f.before x y)) in
          ⊎_elim
          (λ none. clash (ap₂ ◌&&◌ p.1 ready) (none.1 t p.0))
          (λ b. b)
          (none_or_best (ranks_above (rate_at fs ss)) (may_come n anc c out) n)
        where
          waits : ℕ → Bool
          waits t = elem t c && not (elem t out)

      -- as many rounds as members of a ready chunk are not out put them all out
      inside_all : (c : List ℕ) (k : ℕ) (out : List ℕ) → chunk_ready n anc out c ≡ true → due n c out ≤ k
          → (i : ℕ) → i < n → elem i c ≡ true → elem i (inside fs ss n anc c k out) ≡ true
      unfolding inside
      inside_all c zero out h d i l e =
          not-false (elem i out) (ap (λ (a : Bool). a && not (elem i out)) (sym e) ∙ count_zero (λ t. elem t c && not (elem t out)) n d i l)
      inside_all c (suc k) out h d i l e =
          cases (elem i out) (inside_keeps fs ss n anc c (suc k) out i) (λ q.
          let b = next_member c out i h l e q in
          let t = b.0 in
          let r = may_ready n anc c out t b.1.below b.1.has in
          rw b.1.is
          (inside_all c k (out ++ (t ∷ []))
          (closed_ready n anc (out ++ (t ∷ [])) c (closed_more n anc out c t (ready_closed n anc out c h)))
          (omega (arith, due_less n c out t r.below r.of r.new)) i l e))

-- ---- all rounds

-- the chunks that are gone and what is out
pub record Stage : Type 0 where
  pub gone : List ℕ
  pub out : List ℕ

module _ (fs : List ℤ) (ss : List ℕ) (n : ℕ) (anc : ℕ → ℕ → Bool) (cs : List (List ℕ)) where
  -- one more round
  unfoldable pub onwards : Stage → Stage
  onwards s =
      let ks = next_chunk fs ss n anc cs s.gone s.out in
      record { gone = ks ++ s.gone; out = put_out fs ss n anc cs s.out ks }

  -- after r rounds
  unfoldable pub stage : ℕ → Stage
  stage zero = record { gone = []; out = [] }
  stage (suc r) = onwards (stage r)

  -- and j more
  pub stage_out : (j r m : ℕ) → m ≡ j + r → chunks_out fs ss n anc cs j (stage r).gone (stage r).out ≡ (stage m).out
  unfolding chunks_out stage onwards
  stage_out zero r m e = let z : r ≡ m = omega arith in ap (λ (k : ℕ). (stage k).out) z
  stage_out (suc j) r m e = stage_out j (suc r) m (omega arith)

-- r rounds made r chunks gone, and put out their members
pub record Sound (n : ℕ) (cs : List (List ℕ)) (r : ℕ) (s : Stage) : Type 0 where
  pub outs : Gone n cs s.gone s.out
  pub many : missing (length cs) s.gone + r ≡ length cs

module _
    (n : ℕ)
    (anc : ℕ → ℕ → Bool)
    (order : List ℕ)
    (after : After n anc order)
    (fs : List ℤ)
    (ss : List ℕ)
    (whole : (i : ℕ) → i < n → elem i order ≡ true)
    (cs : List (List ℕ))
    (parts : Parts cs order) where
  -- the k-th chunk goes
  gone_more : (gone out : List ℕ) (k : ℕ) → Gone n cs gone out → chunk_ready n anc out (chunk_at cs k) ≡ true
      → Gone n cs (k ∷ gone) (put_out fs ss n anc cs out (k ∷ []))
  unfolding put_out
  gone_more gone out k g h j i e l m =
      let c = chunk_at cs k in
      ⊎_elim
      (λ z. inside_all n anc order after fs ss whole c (length c) out h (count_in c (λ t. elem t c && not (elem t out)) n (λ t. and_left (elem t c) (not (elem t out)))) i l
      (ap (λ (x : ℕ). elem i (chunk_at cs x)) (sym z) ∙ m))
      (λ z. inside_keeps fs ss n anc c (length c) out i (g j i z l m))
      (in_cons j k gone e)

  goes : (r : ℕ) (s : Stage) → r < length cs → Sound n cs r s
      → (k : ℕ) × Best (chunk_above fs ss n cs) (may_go n anc cs s.gone s.out) (length cs) k
  goes r s l h = next_chunk_lem n anc order after fs ss cs parts s.gone s.out h.outs (omega (arith, h.many))

  -- a round makes one more gone
  sound_more : (r : ℕ) (s : Stage) → r < length cs → Sound n cs r s → Sound n cs (suc r) (onwards fs ss n anc cs s)
  unfolding onwards next_chunk
  sound_more r s l h =
      let b = goes r s l h in
      let k = b.0 in
      let left' = and_left (not (elem k s.gone)) (chunk_ready n anc s.out (chunk_at cs k)) b.1.has in
      let ready = and_right (not (elem k s.gone)) (chunk_ready n anc s.out (chunk_at cs k)) b.1.has in
      rw b.1.is
      (record {
        outs = gone_more s.gone s.out k h.outs ready;
        many = omega (arith, h.many, missing_cons (length cs) s.gone k b.1.below (not-true (elem k s.gone) left'));
      })

  -- so it is in every round
  pub sound : (r : ℕ) → r ≤ length cs → Sound n cs r (stage fs ss n anc cs r)
  unfolding stage elem any_of
  sound zero l = record { outs = λ k i e. clash e refl; many = omega (arith, missing_all (length cs)) }
  sound (suc r) l = sound_more r (stage fs ss n anc cs r) l (sound r (omega arith))

  -- each round finds a chunk
  pub found : (r : ℕ) → r < length cs → (k : ℕ) × (next_chunk fs ss n anc cs (stage fs ss n anc cs r).gone (stage fs ss n anc cs r).out ≡ k ∷ [])
  unfolding next_chunk
  found r l = let b = goes r (stage fs ss n anc cs r) l (sound r (omega arith)) in (b.0, b.1.is)

  -- at the end the members of all chunks are out
  pub all_out : (k i : ℕ) → k < length cs → i < n → elem i (chunk_at cs k) ≡ true → elem i (chunks_out fs ss n anc cs (length cs) [] []) ≡ true
  unfolding stage
  all_out k i l m e =
      let s = stage fs ss n anc cs (length cs) in
      let h = sound (length cs) (omega arith) in
      let last = none_missing (length cs) s.gone (omega (arith, h.many)) k l in
      ap (elem i) (stage_out fs ss n anc cs (length cs) 0 (length cs) (omega arith)) ∙ h.outs k i last m e
