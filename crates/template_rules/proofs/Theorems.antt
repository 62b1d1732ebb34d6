-- What a reader will ask of a template, for any sound pool and whatever it is asked with. (One of these, `template_few`, the call's own proof
-- cites too.) Assumes nothing.
use mathlib.Core.Path.{◌≡◌, refl, sym, ap, ◌∙◌, subst}
use mathlib.Core.Bool.{true, false, false≢true}
use mathlib.Core.Logic.{◌⊎◌, inl, inr, ⊎_elim}
use mathlib.Core.List.{List, [], ◌∷◌, ◌++◌}
use Prim.Native.Nat.{ℕ, ◌+◌, ◌≤◌}
use native.Mathlib.Omega.{arith}
use lib.ListN.{length}
use lib.Seq.{append_snoc}
use Rattle.lists.specs.Lists.{any_of, elem, distinct}
use Rattle.lists.proofs.Lists.{Each, elem_left, in_append, any_none}
use Rattle.slotsets.specs.SlotSets.{capacity}
use Rattle.refusals.specs.declared.Reply.{Reply}
use Rattle.ways.specs.Ways.{Way}
use Rattle.pool_table.specs.Pool.{Pool, slot_count, occupied, entries}
use Rattle.pool_table.specs.Words.{pool_of}
use Rattle.pool_table.specs.Links.{is_parent}
use Rattle.pool_table.specs.WellFormed.{sound}
use Rattle.pool_rules.proofs.Sound.{sound_parts}
use Rattle.pool_chunks.specs.Chunks.{PoolChunk, tried}
use Rattle.template_rules.specs.Filling.{Settings, withheld, grown, addition, raw_sum, cost_sum, Outcome, taken, passed, outcome, after, fill, template}
use Rattle.template_rules.specs.Calls.{template_reply, template_room}
use Rattle.template_rules.proofs.Collect.{Entries, grown_in, grown_is}
use Rattle.template_rules.proofs.Chunks.{Chunked, tried_held}
use Rattle.template_rules.proofs.Selected.{Selected, selected_none, selected_few}
use Rattle.template_rules.proofs.One.{Fits, one_template}
use Rattle.template_rules.proofs.Free.{Agree, same_template, same_call}
use Rattle.template_rules.proofs.Filling.{Passes, passes_taken, fill_append, fill_keeps, fill_starts, fill_selected, raw_append, cost_append, raw_none}

each_middle : {A : Type 0} (P : A → Type 0) (xs : List A) (x : A) (ys : List A) → Each P (xs ++ (x ∷ ys)) → P x
unfolding Each
each_middle P [] x ys h = h.0
each_middle P (y ∷ xs) x ys h = each_middle P xs x ys h.1

-- a slot that came with a chunk at its turn: what was tried before it and after it, and what it brought
pub record Brought (p : Pool) (w : Settings) (s : ℕ) : Type 0 where
  pub cs : List PoolChunk
  pub c : PoolChunk
  pub rest : List PoolChunk
  pub added : List ℕ
  pub turn : tried p w.deltas ≡ cs ++ (c ∷ rest)
  pub out : outcome p w (fill p w [] cs) c ≡ taken added
  pub here : elem s added ≡ true

module _ (p : Pool) (stands : sound p ≡ true) (few : slot_count p ≤ capacity) (w : Settings) where
  -- ---- "names no slot twice, only occupied ones, each after all its ancestors in the pool"

  selected : Selected p (template p w)
  unfolding template
  selected = fill_selected p (sound_parts p stands) few w (tried p w.deltas) (tried_held p w.deltas) [] (selected_none p)

  pub template_once : distinct (template p w) ≡ true
  template_once = selected.once

  pub template_held : (s : ℕ) → elem s (template p w) ≡ true → occupied p s ≡ true
  template_held = selected.held

  pub template_after : (xs ys : List ℕ) (s a : ℕ) → template p w ≡ xs ++ (s ∷ ys) → Way (is_parent p) s a → elem a xs ≡ true
  template_after = selected.ordered

  -- so a room with a place for each entry is long enough
  pub template_few : length (template p w) ≤ entries p
  template_few = selected_few p selected

  -- ---- "the raw weights sum to at most the budget"

  -- what each chunk keeps that passes
  keeps : (Q : List ℕ → Type 0) → ((out : List ℕ) (c : PoolChunk) → Passes p w out c → Q out → Q (grown p out c.slots)) → Q [] → Q (template p w)
  unfolding template
  keeps Q k = fill_keeps p w (λ c. Entries p c.slots) Q (λ out c _. k out c) (tried p w.deltas) (tried_held p w.deltas) []

  pub template_budget : raw_sum p (template p w) ≤ w.terms.budget.0
  unfolding raw_sum
  template_budget =
      keeps (λ out. raw_sum p out ≤ w.terms.budget.0)
      (λ out c q _. omega (arith, ap (raw_sum p) (grown_is p out c.slots), raw_append p out (addition p out c.slots), q.budget))
      (omega arith)

  -- "Budget 0 selects nothing."
  pub template_nothing : w.terms.budget.0 ≡ 0 → template p w ≡ []
  template_nothing z = raw_none p (template p w) template_held (omega (arith, template_budget))

  -- ---- "unless it is empty, sigops plus reserve are at most 80,000"

  pub template_sigops : (template p w ≡ []) ⊎ (cost_sum p (template p w) + w.terms.reserve ≤ 80000)
  template_sigops =
      keeps (λ out. (out ≡ []) ⊎ (cost_sum p out + w.terms.reserve ≤ 80000))
      (λ out c q _. inr (omega (arith, ap (cost_sum p) (grown_is p out c.slots), cost_append p out (addition p out c.slots), q.sigops)))
      (inl refl)

  -- ---- "no withheld slot is in it"

  pub template_unmarked : (s : ℕ) → elem s (template p w) ≡ true → withheld w.marks s ≡ false
  unfolding elem any_of
  template_unmarked =
      keeps (λ out. (s : ℕ) → elem s out ≡ true → withheld w.marks s ≡ false)
      (λ out c q k s m.
      let added = addition p out c.slots in
      ⊎_elim (k s) (any_none (withheld w.marks) added q.brought s) (in_append s out added (sym (ap (elem s) (grown_is p out c.slots)) ∙ m)))
      (λ s m. absurd (false≢true m))

  -- ---- "It is not the empty answer in disguise: a chunk that passes all seven tests at its turn is in it (so the list is exactly the taken
  -- additions, in order)"

  module _ (cs : List PoolChunk) (c : PoolChunk) (rest : List PoolChunk) (turn : tried p w.deltas ≡ cs ++ (c ∷ rest)) where
    whole : template p w ≡ fill p w (after (fill p w [] cs) (outcome p w (fill p w [] cs) c)) rest
    unfolding template fill
    whole = ap (fill p w []) turn ∙ fill_append p w cs (c ∷ rest) []

    -- what was selected before its turn and its addition stand at the list's start
    pub chunk_taken : (added : List ℕ) → outcome p w (fill p w [] cs) c ≡ taken added
        → (more : List ℕ) × (template p w ≡ (fill p w [] cs ++ added) ++ more)
    chunk_taken added e =
        let s = fill_starts p w rest (fill p w [] cs ++ added) in
        (s.more, whole ∙ rw e s.whole)

    -- passed over, it leaves no trace
    pub chunk_passed : (reason : ℕ) → outcome p w (fill p w [] cs) c ≡ passed reason → template p w ≡ fill p w [] (cs ++ rest)
    chunk_passed reason e = whole ∙ rw e (sym (fill_append p w cs rest []))

    -- taken, with every member of it
    pub chunk_in : Passes p w (fill p w [] cs) c → (s : ℕ) → elem s c.slots ≡ true → elem s (template p w) ≡ true
    chunk_in q s m =
        let out = fill p w [] cs in
        let t = chunk_taken (addition p out c.slots) (passes_taken p w out c q) in
        let o = each_middle (λ d. Entries p d.slots) cs c rest (subst (Chunked p) turn (tried_held p w.deltas)) in
        let g = grown_in p out c.slots o s m in
        ap (elem s) t.1 ∙ elem_left s (out ++ addition p out c.slots) t.0 (ap (elem s) (sym (grown_is p out c.slots)) ∙ g)

  -- and each slot of it came with a chunk that was taken at its turn
  from : (s : ℕ) (cs rest : List PoolChunk) → tried p w.deltas ≡ cs ++ rest → elem s (fill p w (fill p w [] cs) rest) ≡ true
      → (elem s (fill p w [] cs) ≡ true) ⊎ Brought p w s
  unfolding fill
  from s cs [] e m = inl m
  from s cs (c ∷ rest) e m =
      ⊎_elim (λ n. at (outcome p w out c) refl (ap (elem s) (sym next) ∙ n)) inr
      (from s (cs ++ (c ∷ [])) rest (e ∙ sym (append_snoc cs c rest)) (ap (λ (l : List ℕ). elem s (fill p w l rest)) next ∙ m))
    where
      out : List ℕ
      out = fill p w [] cs

      next : fill p w [] (cs ++ (c ∷ [])) ≡ after out (outcome p w out c)
      next = fill_append p w cs (c ∷ []) []

      at : (o : Outcome) → outcome p w out c ≡ o → elem s (after out o) ≡ true → (elem s out ≡ true) ⊎ Brought p w s
      at (taken added) z n =
          ⊎_elim inl
          (λ k. inr (record { cs = cs; c = c; rest = rest; added = added; turn = e; out = z; here = k }))
          (in_append s out added n)
      at (passed reason) z n = inl n

  pub template_from : (s : ℕ) → elem s (template p w) ≡ true → Brought p w s
  unfolding template fill elem any_of
  template_from s m = ⊎_elim (λ n. absurd (false≢true n)) (λ b. b) (from s [] (tried p w.deltas) refl m)

  -- ---- "in particular a pool with one entry that fits is answered with it"

  pub template_one : (s : ℕ) → occupied p s ≡ true → ((x : ℕ) → occupied p x ≡ true → x ≡ s) → Fits p w s → template p w ≡ s ∷ []
  template_one = one_template p (sound_parts p stands) few w

  -- ---- "Answers of two runs on equal inputs are equal, whatever the table's free slots' deltas and marks hold."

  pub template_same : (v : Settings) → Agree p w v → template p w ≡ template p v
  template_same = same_template p (sound_parts p stands) few w

-- of the call: what is answered, and what the room holds at the end, also where it is refused
pub call_same : (t : List ℕ) (w v : Settings) (room : List ℕ) → Agree (pool_of t) w v
    → length w.deltas ≡ length v.deltas → length w.marks ≡ length v.marks
    → (template_reply t w room ≡ template_reply t v room) × (template_room t w room ≡ template_room t v room)
call_same = same_call

-- ---- "prove that any two outcomes allowed by one contract coincide"

-- an outcome that a contract allows which says: this reply, and this at the end
pub record Allowed {R : Type 0} (reply : R) (after : List ℕ) (answer : R) (memory : List ℕ) : Type 0 where
  pub answers : answer ≡ reply
  pub leaves : memory ≡ after

pub template_outcome : (t : List ℕ) (w : Settings) (room : List ℕ) {a b : Reply} {l m : List ℕ}
    → Allowed (template_reply t w room) (template_room t w room) a l → Allowed (template_reply t w room) (template_room t w room) b m
    → (a ≡ b) × (l ≡ m)
template_outcome t w room x y = (x.answers ∙ sym y.answers, x.leaves ∙ sym y.leaves)
