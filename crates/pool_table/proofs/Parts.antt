-- A part of a list of words, read from a place on (`words_from`), in two parts, and words of zeros.
-- Assumes nothing.
use mathlib.Core.Path.{◌≡◌, refl, sym, ap, ◌∙◌, subst}
use mathlib.Core.List.{List, ◌∷◌, ◌++◌}
use Prim.Native.Nat.{ℕ, zero, suc, ◌+◌, ◌≤◌, ◌<◌}
use native.Mathlib.Nat.{add-zero, suc-add, zero-add}
use native.Mathlib.Omega.{arith}
use lib.ListN.{length, get_or, take, drop, replicate, length-take, length-drop}
use lib.Seq.{ext_get_or, get_or-take, get_or-drop}
use Rattle.slotsets.specs.SlotSets.{words_from}
use Rattle.slotsets.proofs.SlotSets.{length_from, get_d_from}

pub part_split : (t : List ℕ) (j k at : ℕ) → words_from t (j + k) at ≡ words_from t j at ++ words_from t k (at + j)
unfolding words_from
part_split t zero k at = rw (zero-add, add-zero)
part_split t (suc j) k at =
    let e : suc at + j ≡ at + suc j = omega arith in
    ap (λ (n : ℕ). words_from t n at) (suc-add j k)
    ∙ ap (λ (ws : List ℕ). get_or t at 0 ∷ ws) (part_split t j k (suc at) ∙ ap (λ (n : ℕ). words_from t j (suc at) ++ words_from t k n) e)

-- zeros, and past them the 0 that a word is where there is none
pub zeros_at : (k i : ℕ) → get_or {A = ℕ} (replicate k 0) i 0 ≡ 0
zeros_at zero i = refl
zeros_at (suc k) zero = refl
zeros_at (suc k) (suc i) = zeros_at k i

-- the whole list
pub part_all : (t : List ℕ) → words_from t (length t) 0 ≡ t
part_all t =
    ext_get_or 0 (words_from t (length t) 0) t (length_from t (length t) 0)
    (λ i l. get_d_from t (length t) 0 i (subst (λ (n : ℕ). i < n) (length_from t (length t) 0) l) ∙ ap (λ (n : ℕ). get_or t n 0) (zero-add i))

-- lists that agree in a part
pub part_ext : (t u : List ℕ) (k at b : ℕ) → ((i : ℕ) → i < k → get_or t (at + i) 0 ≡ get_or u (b + i) 0) → words_from t k at ≡ words_from u k b
part_ext t u k at b h =
    ext_get_or 0 (words_from t k at) (words_from u k b) (length_from t k at ∙ sym (length_from u k b))
    (λ i l.
    let m : i < k = subst (λ (n : ℕ). i < n) (length_from t k at) l in
    get_d_from t k at i m ∙ h i m ∙ sym (get_d_from u k b i m))

-- a part that is lent is the part that is read
pub part_take : (t : List ℕ) (k at : ℕ) → at + k ≤ length t → take k (drop at t) ≡ words_from t k at
part_take t k at h =
    let e : length (take k (drop at t)) ≡ k = simp (length-take, length-drop) (omega arith) in
    ext_get_or 0 (take k (drop at t)) (words_from t k at) (e ∙ sym (length_from t k at))
    (λ i l.
    let m : i < k = subst (λ (n : ℕ). i < n) e l in
    get_or-take k (drop at t) i 0 m ∙ get_or-drop at t i 0 ∙ sym (get_d_from t k at i m))
