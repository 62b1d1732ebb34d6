-- Laws of specs/Places.antt: what stands before a byte and behind it, at a place of the text, and the parts one after the other. Assumes
-- nothing.
use mathlib.Core.Path.{◌≡◌, refl, sym, ap, ◌∙◌}
use mathlib.Core.Bool.{Bool, true, false, cond}
use mathlib.Core.Logic.{◌⊎◌, inl, inr, ⊎_elim}
use mathlib.Core.List.{List, [], ◌∷◌, ◌++◌, append-nil, append_assoc}
use Prim.Native.Nat.{ℕ, suc, ◌+◌, ◌-◌, ◌≤◌, ◌<◌, min, suc-le-suc}
use native.Mathlib.Nat.{add-zero, not-suc-le-zero, le_of_suc-le-suc}
use native.Mathlib.Omega.{arith}
use lib.Dec.{eqb, ltb, leb-suc-suc}
use lib.ListN.{length, take, drop, drop_of_length-le, length-drop}
use lib.Seq.{drop-drop, take_all, take-length}
use borrow.Author.Tests.{lt-ltb, le-ltb, ltb-false}
use Rattle.std.proofs.Common.{Option}
use Rattle.std.specs.Prelude.{◌==◌}
use Rattle.std.specs.List.{position, position_or_len}
use Rattle.std.specs.Option.{unwrap_or}
use Rattle.std.proofs.lemmas.List.Recursion.{is_position_or_len}
use Rattle.lists.proofs.Bools.{cases, cond_where}
use Rattle.lists.proofs.Numbers.{lt_or_ge}
use Rattle.texts.specs.Places.{before, behind, place_of, split_from, split}

-- ---- taking more than there is

pub min_is : (n m : ℕ) → (min n m ≡ n) ⊎ ((min n m ≡ m) × (m ≤ n))
min_is n m = ⊎_elim (λ l. inl (omega arith)) (λ l. inr (omega arith, l)) (lt_or_ge n m)

pub take_min : {A : Type 0} (n : ℕ) (xs : List A) → take (min n (length xs)) xs ≡ take n xs
take_min n xs = ⊎_elim (λ e. rw e) (λ e. rw (e.0, take-length xs) (sym (take_all n xs e.1))) (min_is n (length xs))

-- ---- what stands before a byte

before_le : (b : ℕ) (xs : List ℕ) → length (before b xs) ≤ length xs
unfolding before
before_le b [] = omega arith
before_le b (x ∷ xs) =
    cond_where (λ (l : List ℕ). length l ≤ suc (length xs)) (eqb x b) (λ _. omega arith) (λ _. omega (arith, before_le b xs))

pub before_take : (b : ℕ) (xs : List ℕ) → take (length (before b xs)) xs ≡ before b xs
unfolding before
before_take b [] = refl
before_take b (x ∷ xs) =
    cond_where (λ (l : List ℕ). take (length l) (x ∷ xs) ≡ l) (eqb x b) (λ _. refl) (λ _. ap (λ (l : List ℕ). x ∷ l) (before_take b xs))

-- where the text goes on: the same, if the byte was there, and as long at least, if it was not
pub before_append : (b : ℕ) (xs ys : List ℕ) → length (before b xs) < length xs → before b (xs ++ ys) ≡ before b xs
unfolding before
before_append b [] ys h = absurd (omega arith)
before_append b (x ∷ xs) ys h =
    cases (eqb x b) (λ e. rw e) (λ e. rw e (ap (λ (l : List ℕ). x ∷ l) (before_append b xs ys (le_of_suc-le-suc (rw e at h)))))

pub before_grows : (b : ℕ) (xs ys : List ℕ) → length xs ≤ length (before b xs) → length xs ≤ length (before b (xs ++ ys))
unfolding before
before_grows b [] ys h = omega arith
before_grows b (x ∷ xs) ys h =
    cases (eqb x b) (λ e. absurd (not-suc-le-zero (rw e at h))) (λ e. rw e (suc-le-suc (before_grows b xs ys (le_of_suc-le-suc (rw e at h)))))

-- ---- the place of a byte

-- a search finds what stands before the byte
before_next : (b x : ℕ) (xs : List ℕ) → length (before b (x ∷ xs)) ≡ cond (eqb x b) 0 (1 + length (before b xs))
unfolding before
before_next b x xs = cases (eqb x b) (λ e. rw e) (λ e. rw e (omega arith))

pub before_found : (b : ℕ) (xs : List ℕ) → length (before b xs) ≡ position_or_len (λ x. eqb x b) xs
unfolding before
before_found b xs = is_position_or_len (λ l. length (before b l)) (λ x. eqb x b) refl (before_next b) xs

pub found_or : (b : ℕ) (xs : List ℕ) (r : Option ℕ) → r ≡ position (λ x. x == b) xs → unwrap_or r (length xs) ≡ length (before b xs)
found_or b xs r e =
    cases (ltb (position_or_len (λ x. eqb x b) xs) (length xs))
    (λ t. rw (e, t) (sym (before_found b xs)))
    (λ t. rw (e, t) (omega (arith, before_found b xs, before_le b xs, ltb-false (position_or_len (λ x. eqb x b) xs) (length xs) t)))

pub place_past : (b : ℕ) (text : List ℕ) (i : ℕ) → length text ≤ i → place_of b text i ≡ i
unfolding before
place_past b text i l = rw (drop_of_length-le text l) (add-zero i)

-- ---- the parts between the places

split_cut : (b : ℕ) (part xs : List ℕ)
    → split_from b part xs ≡ (part ++ before b xs) ∷ cond (ltb (length (before b xs)) (length xs)) (split b (behind b xs)) []
unfolding split_from before behind
split_cut b part [] = ap (λ (l : List ℕ). l ∷ []) (sym (append-nil part))
split_cut b part (x ∷ xs) = go (eqb x b) (split_cut b (part ++ (x ∷ [])) xs)
  where
    go : (t : Bool)
        → split_from b (part ++ (x ∷ [])) xs
        ≡ ((part ++ (x ∷ [])) ++ before b xs) ∷ cond (ltb (length (before b xs)) (length xs)) (split b (behind b xs)) []
        → cond t (part ∷ split b xs) (split_from b (part ++ (x ∷ [])) xs)
        ≡ (part ++ cond t [] (x ∷ before b xs))
        ∷ cond (ltb (length (cond t [] (x ∷ before b xs))) (suc (length xs))) (split b (drop (suc (length (cond t [] (x ∷ before b xs)))) (x ∷ xs))) []
    go true h = rw (append-nil, lt-ltb 0 (suc (length xs)) (omega arith))
    go false h = h ∙ rw (append_assoc, leb-suc-suc (suc (length (before b xs))) (length xs))

-- the first part comes first
pub split_first : (b : ℕ) (xs : List ℕ)
    → split b xs ≡ before b xs ∷ cond (ltb (length (before b xs)) (length xs)) (split b (behind b xs)) []
split_first b xs = split_cut b [] xs

-- ---- all this at a place of the text

module _ (b : ℕ) (text : List ℕ) (from : ℕ) where
  -- what stands before the place, and behind it
  pub place_before : take (place_of b text from - from) (drop from text) ≡ before b (drop from text)
  place_before =
      let e : place_of b text from - from ≡ length (before b (drop from text)) = omega arith in
      ap (λ (n : ℕ). take n (drop from text)) e ∙ before_take b (drop from text)

  pub place_behind : drop (place_of b text from + 1) text ≡ behind b (drop from text)
  unfolding behind
  place_behind =
      let e : from + suc (length (before b (drop from text))) ≡ place_of b text from + 1 = omega arith in
      sym (drop-drop (suc (length (before b (drop from text)))) from text ∙ ap (λ (n : ℕ). drop n text) e)

  -- it is within the text
  pub place_le : from ≤ length text → place_of b text from ≤ length text
  place_le l = omega (arith, before_le b (drop from text), length-drop from text)

  -- the last part, and one with more behind it
  pub split_last : place_of b text from ≡ length text → split b (drop from text) ≡ before b (drop from text) ∷ []
  split_last e =
      let xs = drop from text in
      split_first b xs ∙ rw (le-ltb (length (before b xs)) (length xs) (omega (arith, length-drop from text)))

  pub split_more : place_of b text from < length text
      → split b (drop from text) ≡ before b (drop from text) ∷ split b (drop (place_of b text from + 1) text)
  split_more l =
      let xs = drop from text in
      rw place_behind (split_first b xs ∙ rw (lt-ltb (length (before b xs)) (length xs) (omega (arith, length-drop from text))))
