-- Laws of specs/Rows.antt: no part at all, one part more, and what stands at part k. Assumes nothing.
use mathlib.Core.Path.{◌≡◌, refl, sym, ap, ap₂, ◌∙◌, subst}
use mathlib.Core.Logic.{⊎_elim}
use mathlib.Core.List.{List, [], ◌∷◌, ◌++◌, append_assoc, flatten}
use Prim.Native.Nat.{ℕ, zero, suc, ◌+◌, ◌-◌, ◌≤◌, ◌<◌}
use native.Mathlib.Nat.{zero-add, suc-add}
use native.Mathlib.Omega.{arith}
use lib.ListN.{length, get_or, set, take, drop, length-append, length-take, length-drop, get_or-append}
use lib.Seq.{take_at, drop_at, length-take-le, take-length, take-nil, take-suc, take-take, take-add}
use lib.Seq.{get_or_at, get_or-set_same, get_or-set_other, get_or-take, get_or-drop}
use Rattle.lists.specs.Lists.{overwrite}
use Rattle.lists.proofs.Numbers.{lt_or_ge}
use Rattle.pool_table.proofs.Puts.{back}
use Rattle.pool_members.specs.Rows.{Rows}
use Rattle.pool_members.proofs.Only.{flatten_snoc}

-- ---- a part of a list

part_taken : (m n : ℕ) (l : List ℕ) → drop m (take (m + n) l) ≡ take n (drop m l)
part_taken zero n l = ap (λ (k : ℕ). take k l) (zero-add n)
part_taken (suc m) n [] = ap (drop (suc m)) (take-nil (suc m + n)) ∙ sym (take-nil n)
part_taken (suc m) n (x ∷ l) = ap (λ (k : ℕ). drop (suc m) (take k (x ∷ l))) (suc-add m n) ∙ part_taken m n l

-- lists that start alike have the same parts there
pub part_same : (l l' : List ℕ) (e m n : ℕ) → take e l' ≡ take e l → m + n ≤ e → take n (drop m l') ≡ take n (drop m l)
part_same l l' e m n h w =
    sym (part_taken m n l')
    ∙ ap (drop m) (sym (take-take (m + n) e l' w) ∙ ap (take (m + n)) h ∙ take-take (m + n) e l w)
    ∙ part_taken m n l

-- a list that is lent from a place on has room for a row
pub row_lent : (at : ℕ) (row old : List ℕ) → at + length row ≤ length old → length row ≤ length (take (length old - at) (drop at old))
row_lent at row old fits = simp (length-take, length-drop) (omega arith)

-- and is as long as it was when it comes back
pub back_long : (at : ℕ) (part old : List ℕ) → at ≤ length old → length part ≡ length (take (length old - at) (drop at old))
    → length (back at (length old - at) part old) ≡ length old
back_long at part old l e =
    let many : length part ≡ length old - at = omega (arith, e, length-take (length old - at) (drop at old), length-drop at old) in
    simp (length-append, length-take, length-drop) (omega arith)

-- with the row at that place
module _
    (at : ℕ)
    (row part old : List ℕ)
    (fits : at + length row ≤ length old)
    (written : part ≡ overwrite row (take (length old - at) (drop at old))) where
  pub row_long : length (back at (length old - at) part old) ≡ length old
  row_long =
      let lent = take (length old - at) (drop at old) in
      let many : length part ≡ length lent =
      omega (arith, ap length written, length-append row (drop (length row) lent), length-drop (length row) lent, row_lent at row old fits) in
      back_long at part old (omega arith) many

  pub row_kept : take at (back at (length old - at) part old) ≡ take at old
  row_kept = take_at (take at old) (part ++ drop (length old - at) (drop at old)) at (length-take-le at old (omega arith))

  pub row_here : take (length row) (drop at (back at (length old - at) part old)) ≡ row
  row_here =
      let rest = drop (length old - at) (drop at old) in
      let tail = drop (length row) (take (length old - at) (drop at old)) in
      ap (take (length row))
      (drop_at (take at old) (part ++ rest) at (length-take-le at old (omega arith))
      ∙ ap (λ (l : List ℕ). l ++ rest) written
      ∙ append_assoc row tail rest)
      ∙ take_at row (tail ++ rest) (length row) refl

-- ---- where parts start

pub rows_start : (flat starts : List ℕ) → get_or starts 0 0 ≡ 0 → Rows flat starts []
rows_start flat starts e =
    record { first = e; next = λ k l. absurd (omega arith); part = λ k l. absurd (omega arith); within = omega arith }

module _ {flat starts : List ℕ} {parts : List (List ℕ)} (r : Rows flat starts parts) where
  -- a part's start, and its end, are not past the end of all
  later : (j k : ℕ) → k + j ≡ length parts → get_or starts k 0 ≤ get_or starts (length parts) 0
  later zero k e = let z : k ≡ length parts = omega arith in omega (arith, ap (λ (n : ℕ). get_or starts n 0) z)
  later (suc j) k e = omega (arith, r.next k (omega arith), later j (suc k) (omega arith))

  pub start_within : (k : ℕ) → k ≤ length parts → get_or starts k 0 ≤ get_or starts (length parts) 0
  start_within k l = later (length parts - k) k (omega arith)

  pub part_within : (k : ℕ) → k < length parts → get_or starts k 0 + length (get_or parts k []) ≤ get_or starts (length parts) 0
  part_within k l = omega (arith, r.next k l, start_within (suc k) l)

  -- the part between two starts
  pub rows_at : (k : ℕ) → k < length parts → take (get_or starts (suc k) 0 - get_or starts k 0) (drop (get_or starts k 0) flat) ≡ get_or parts k []
  rows_at k l =
      let e : get_or starts (suc k) 0 - get_or starts k 0 ≡ length (get_or parts k []) = omega (arith, r.next k l) in
      ap (λ (n : ℕ). take n (drop (get_or starts k 0) flat)) e ∙ r.part k l

  -- the j-th of a part
  pub rows_one : (k j : ℕ) → k < length parts → j < length (get_or parts k []) → get_or flat (get_or starts k 0 + j) 0 ≡ get_or (get_or parts k []) j 0
  rows_one k j l m =
      sym (get_or-drop (get_or starts k 0) flat j 0)
      ∙ sym (get_or-take (length (get_or parts k [])) (drop (get_or starts k 0) flat) j 0 m)
      ∙ ap (λ (xs : List ℕ). get_or xs j 0) (r.part k l)

  -- the parts one after the other: the first k, and all
  pub rows_first : (k : ℕ) → k ≤ length parts → take (get_or starts k 0) flat ≡ flatten (take k parts)
  unfolding flatten
  rows_first zero l = ap (λ (n : ℕ). take n flat) r.first
  rows_first (suc k) l =
      let n = length (get_or parts k []) in
      ap (λ (m : ℕ). take m flat) (r.next k l)
      ∙ take-add (get_or starts k 0) n flat
      ∙ ap₂ ◌++◌ (rows_first k (omega arith)) (r.part k l)
      ∙ sym (flatten_snoc (take k parts) (get_or parts k []))
      ∙ ap flatten (sym (take-suc parts k [] l))

  pub rows_all : take (get_or starts (length parts) 0) flat ≡ flatten parts
  rows_all = rows_first (length parts) (omega arith) ∙ ap flatten (take-length parts)

  pub rows_end : get_or starts (length parts) 0 ≡ length (flatten parts)
  rows_end = sym (length-take-le (get_or starts (length parts) 0) flat r.within) ∙ ap length rows_all

  -- ---- one part more

  module _
      (row flat' starts' : List ℕ)
      (kept : take (get_or starts (length parts) 0) flat' ≡ take (get_or starts (length parts) 0) flat)
      (added : take (length row) (drop (get_or starts (length parts) 0) flat') ≡ row)
      (fits : get_or starts (length parts) 0 + length row ≤ length flat')
      (same : (k : ℕ) → k ≤ length parts → get_or starts' k 0 ≡ get_or starts k 0)
      (last : get_or starts' (suc (length parts)) 0 ≡ get_or starts (length parts) 0 + length row) where
    many : length (parts ++ (row ∷ [])) ≡ suc (length parts)
    many = omega (arith, length-append parts (row ∷ []))

    -- what is said of the old parts, and of the new one
    by_part : (P : ℕ → List ℕ → Type 0) → ((k : ℕ) → k < length parts → P k (get_or parts k [])) → P (length parts) row
        → (k : ℕ) → k < length (parts ++ (row ∷ [])) → P k (get_or (parts ++ (row ∷ [])) k [])
    by_part P old new k l =
        ⊎_elim
        (λ (m : k < length parts). subst (P k) (sym (get_or-append parts (row ∷ []) [] k m)) (old k m))
        (λ (m : length parts ≤ k).
        let z : length parts ≡ k = omega (arith, many) in
        subst (λ (i : ℕ). P i (get_or (parts ++ (row ∷ [])) i [])) z (subst (P (length parts)) (sym (get_or_at parts row [] [] (length parts) refl)) new))
        (lt_or_ge k (length parts))

    pub rows_more : Rows flat' starts' (parts ++ (row ∷ []))
    rows_more =
        record {
          first = same 0 (omega arith) ∙ r.first;
          next =
              by_part (λ k part. get_or starts' (suc k) 0 ≡ get_or starts' k 0 + length part)
              (λ k l. same (suc k) l ∙ r.next k l ∙ ap (λ (n : ℕ). n + length (get_or parts k [])) (sym (same k (omega arith))))
              (last ∙ ap (λ (n : ℕ). n + length row) (sym (same (length parts) (omega arith))));
          part =
              by_part (λ k part. take (length part) (drop (get_or starts' k 0) flat') ≡ part)
              (λ k l.
              ap (λ (n : ℕ). take (length (get_or parts k [])) (drop n flat')) (same k (omega arith))
              ∙ part_same flat flat' (get_or starts (length parts) 0) (get_or starts k 0) (length (get_or parts k [])) kept (part_within k l)
              ∙ r.part k l)
              (ap (λ (n : ℕ). take (length row) (drop n flat')) (same (length parts) (omega arith)) ∙ added);
          within = omega (arith, ap (λ (n : ℕ). get_or starts' n 0) many);
        }

  -- its end stored in its place
  pub rows_put : (row flat' : List ℕ) (i e : ℕ) → i ≡ suc (length parts) → e ≡ get_or starts (length parts) 0 + length row → i < length starts
      → take (get_or starts (length parts) 0) flat' ≡ take (get_or starts (length parts) 0) flat
      → take (length row) (drop (get_or starts (length parts) 0) flat') ≡ row → e ≤ length flat' → Rows flat' (set starts i e) (parts ++ (row ∷ []))
  rows_put row flat' i e z q l kept added fits =
      rows_more row flat' (set starts i e) kept added (omega arith)
      (λ k m. get_or-set_other starts i k e 0 (λ y. omega arith))
      (ap (λ (n : ℕ). get_or (set starts i e) n 0) (sym z) ∙ get_or-set_same starts i e 0 l ∙ q)
