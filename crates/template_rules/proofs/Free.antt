-- What a template is asked with at free slots does not count: deltas and marks that agree on the entries give one template. Assumes nothing.
use mathlib.Core.Path.{◌≡◌, refl, sym, ap, ap₂, ◌∙◌}
use mathlib.Core.Bool.{Bool, true, false, not, ◌&&◌, ◌||◌}
use mathlib.Core.List.{List, [], ◌∷◌}
use Prim.Native.Nat.{ℕ, ◌≤◌}
use lib.Dec.{eqb}
use lib.ListN.{length, get_or}
use lib.IntN.{pos}
use Rattle.lists.specs.Lists.{any_of, elem, overwrite}
use Rattle.lists.proofs.Bools.{cases}
use Rattle.lists.proofs.Below.{any_ext}
use Rattle.lists.proofs.Lists.{Each, elem_head, elem_tail, elem_right}
use Rattle.slotsets.specs.SlotSets.{capacity}
use Rattle.refusals.specs.Refusals.{refusal, success, reply_of, kept_unless}
use Rattle.refusals.proofs.Lines.{Gives, none_past, stop, refuses_keeps}
use Rattle.pool_table.specs.Pool.{Pool, slot_count, occupied}
use Rattle.pool_table.specs.Words.{pool_of}
use Rattle.pool_table.specs.WellFormed.{well_formed}
use Rattle.pool_table.proofs.Legal.{few_slots}
use Rattle.pool_rules.proofs.Sound.{Sound, well_legal, well_sound}
use Rattle.pool_chunks.specs.Chunks.{PoolChunk, tried}
use Rattle.pool_chunks.specs.Sorted.{delta_in_range, bad_delta}
use Rattle.template_rules.specs.Filling.{Settings, withheld, addition, reasons, outcome, after, fill, template}
use Rattle.template_rules.specs.Calls.{template_refusals, template_reply, template_room}
use Rattle.template_rules.proofs.Collect.{Entries, grown_is}
use Rattle.template_rules.proofs.Selected.{Selected, selected_none, grown_selected}
use Rattle.template_rules.proofs.Chunks.{Chunked, tried_held, same_tried}
use Rattle.template_rules.proofs.Filling.{turn_keeps}

-- the same at each entry, and the same terms
pub record Agree (p : Pool) (w v : Settings) : Type 0 where
  pub deltas : (s : ℕ) → occupied p s ≡ true → get_or w.deltas s (pos 0) ≡ get_or v.deltas s (pos 0)
  pub marks : (s : ℕ) → occupied p s ≡ true → get_or w.marks s 0 ≡ get_or v.marks s 0
  pub terms : w.terms ≡ v.terms

module _ (p : Pool) (h : Sound p) (few : slot_count p ≤ capacity) (w v : Settings) (agree : Agree p w v) where
  same_marks : (l : List ℕ) → Entries p l → any_of (withheld w.marks) l ≡ any_of (withheld v.marks) l
  unfolding any_of withheld
  same_marks [] o = refl
  same_marks (s ∷ l) o =
      ap₂ (λ (m : ℕ) (b : Bool). not (eqb m 0) || b) (agree.marks s (o s (elem_head s l))) (same_marks l (λ x m. o x (elem_tail x s l m)))

  module _ (out : List ℕ) (c : PoolChunk) (q : Selected p out) (o : Entries p c.slots) where
    added_held : Entries p (addition p out c.slots)
    added_held x m =
        (grown_selected p h few out c.slots o q).held x (ap (elem x) (grown_is p out c.slots) ∙ elem_right x out (addition p out c.slots) m)

    same_outcome : outcome p w out c ≡ outcome p v out c
    unfolding outcome reasons
    same_outcome = rw (agree.terms, same_marks c.slots o, same_marks (addition p out c.slots) added_held)

  same_fill : (cs : List PoolChunk) → Chunked p cs → (out : List ℕ) → Selected p out → fill p w out cs ≡ fill p v out cs
  unfolding Each fill
  same_fill [] r out q = refl
  same_fill (c ∷ cs) r out q =
      ap (λ o. fill p w (after out o) cs) (same_outcome out c q r.0)
      ∙ same_fill cs r.1 (after out (outcome p v out c))
      (turn_keeps p v out c (Selected p) q (λ _. grown_selected p h few out c.slots r.0 q))

  pub same_template : template p w ≡ template p v
  unfolding template
  same_template =
      same_fill (tried p w.deltas) (tried_held p w.deltas) [] (selected_none p)
      ∙ ap (fill p v []) (same_tried p w.deltas v.deltas agree.deltas)

-- ---- the call

module _
    (t : List ℕ) (w v : Settings) (room : List ℕ) (agree : Agree (pool_of t) w v)
    (long : length w.deltas ≡ length v.deltas) (wide : length w.marks ≡ length v.marks) where
  same_bad : bad_delta (pool_of t) w.deltas ≡ bad_delta (pool_of t) v.deltas
  unfolding bad_delta
  same_bad =
      any_ext _ _ (slot_count (pool_of t)) 0
      (λ s _ _.
      asked_same (occupied (pool_of t) s) (λ o. ap (λ d. not (delta_in_range d)) (agree.deltas s o)))
    where
      asked_same : (o : Bool) {b c : Bool} → (o ≡ true → b ≡ c) → (o && b) ≡ (o && c)
      asked_same true e = e refl
      asked_same false e = refl

  same_refusals : template_refusals t w room ≡ template_refusals t v room
  unfolding template_refusals
  same_refusals = rw (long, wide, same_bad)

  -- a broken table is refused, whatever else
  refused : (x : Settings) → well_formed t ≡ false → (refusal 12 ≡ template_reply t x room) × (room ≡ template_room t x room)
  unfolding template_reply template_room template_refusals
  refused x e =
      let g : Gives (template_refusals t x room) 12 = stop (none_past refl) (ap not e) in
      refuses_keeps refusal (success (length (template (pool_of t) x))) room (overwrite (template (pool_of t) x) room) g refl

  pub same_call : (template_reply t w room ≡ template_reply t v room) × (template_room t w room ≡ template_room t v room)
  unfolding template_reply template_room
  same_call =
      cases (well_formed t)
      (λ e.
      let z : template (pool_of t) w ≡ template (pool_of t) v = same_template (pool_of t) (well_sound t e) (few_slots t (well_legal t e)) w v agree in (
        ap₂ (λ ls out. reply_of refusal ls (success (length out))) same_refusals z,
        ap₂ (λ ls out. kept_unless ls room (overwrite out room)) same_refusals z,
      ))
      (λ e. (sym (refused w e).0 ∙ (refused v e).0, sym (refused w e).1 ∙ (refused v e).1))
