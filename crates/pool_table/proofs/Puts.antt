-- Words put into a list at a place, as a part that was lent and is back: what is read there is what was put, and what is read elsewhere is
-- as it was. Every write of the table is one of these, so a later field is one more line. Assumes nothing.
use mathlib.Core.Path.{◌≡◌, sym, ap, ◌∙◌}
use mathlib.Core.Logic.{◌⊎◌, inl, inr, ⊎_elim}
use mathlib.Core.List.{List, [], ◌∷◌, ◌++◌}
use Prim.Native.Nat.{ℕ, zero, suc, ◌+◌, ◌-◌, ◌≤◌, ◌<◌}
use native.Mathlib.Nat.{add-zero}
use native.Mathlib.Omega.{arith}
use lib.ListN.{length, get_or, take, drop, set, length-append, length-take, length-drop, length-set, get_or-append}
use lib.Seq.{ext_get_or, length-take-le, get_or-append-add, get_or-take, get_or-drop, get_or-set_same, get_or-set_other}
use Rattle.slotsets.specs.SlotSets.{words_from}
use Rattle.slotsets.proofs.SlotSets.{length_from, get_d_from}
use Rattle.pool_table.proofs.Parts.{part_ext}

-- new is old with a part put at a place
pub record Put (at : ℕ) (part old new : List ℕ) : Type 0 where
  pub long : length new ≡ length old
  pub inner : (j : ℕ) → j < length part → get_or new (at + j) 0 ≡ get_or part j 0
  pub outer : (i : ℕ) → (i < at) ⊎ (at + length part ≤ i) → get_or new i 0 ≡ get_or old i 0

-- the list with a part of k words, that was lent, back
abbrev pub back : ℕ → ℕ → List ℕ → List ℕ → List ℕ
back at k part old = take at old ++ (part ++ drop k (drop at old))

module _ (at k : ℕ) (part old : List ℕ) (h : at + k ≤ length old) (e : length part ≡ k) where
  front : length (take at old) ≡ at
  front = length-take-le at old (omega arith)

  behind : (n : ℕ) → get_or (back at k part old) (at + n) 0 ≡ get_or (part ++ drop k (drop at old)) n 0
  behind n = ap (λ (m : ℕ). get_or (back at k part old) (m + n) 0) (sym front) ∙ get_or-append-add (take at old) (part ++ drop k (drop at old)) n 0

  pub put_part : Put at part old (back at k part old)
  put_part =
      record {
        long = simp (length-append, length-take, length-drop) (omega arith);
        inner = λ j l. behind j ∙ get_or-append part (drop k (drop at old)) 0 j l;
        outer =
            λ i.
            ⊎_elim
            (λ (l : i < at).
            get_or-append (take at old) (part ++ drop k (drop at old)) 0 i (omega (arith, front)) ∙ get_or-take at old i 0 l)
            (λ (l : at + length part ≤ i).
            let m : i ≡ at + (length part + (i - at - k)) = omega arith in
            let n : at + (k + (i - at - k)) ≡ i = omega arith in
            ap (λ (n : ℕ). get_or (back at k part old) n 0) m
            ∙ behind (length part + (i - at - k))
            ∙ get_or-append-add part (drop k (drop at old)) (i - at - k) 0
            ∙ get_or-drop k (drop at old) (i - at - k) 0
            ∙ get_or-drop at old (k + (i - at - k)) 0
            ∙ ap (λ (n : ℕ). get_or old n 0) n);
      }

-- one word
pub put_word : (at w : ℕ) (old : List ℕ) → at < length old → Put at (w ∷ []) old (set old at w)
put_word at w old h =
    record {
      long = length-set old at w;
      inner = go;
      outer = λ i l. get_or-set_other old at i w 0 (λ z. ⊎_elim (λ m. omega arith) (λ m. omega arith) l);
    }
  where
    go : (j : ℕ) → j < 1 → get_or (set old at w) (at + j) 0 ≡ get_or (w ∷ []) j 0
    go zero l = ap (λ (n : ℕ). get_or (set old at w) n 0) (add-zero at) ∙ get_or-set_same old at w 0 h
    go (suc j) l = absurd (omega arith)

-- ---- what is read

module _ {at : ℕ} {part old new : List ℕ} (p : Put at part old new) where
  -- the part
  pub put_there : words_from new (length part) at ≡ part
  put_there =
      ext_get_or 0 (words_from new (length part) at) part (length_from new (length part) at)
      (λ j l.
      let m : j < length part = rw (length_from new (length part) at) at l in
      get_d_from new (length part) at j m ∙ p.inner j m)

  -- words that lie before it or behind it
  pub put_else : (b k : ℕ) → (b + k ≤ at) ⊎ (at + length part ≤ b) → words_from new k b ≡ words_from old k b
  put_else b k h =
      part_ext new old k b b
      (λ i l. p.outer (b + i) (⊎_elim (λ (m : b + k ≤ at). inl (omega arith)) (λ (m : at + length part ≤ b). inr (omega arith)) h))
