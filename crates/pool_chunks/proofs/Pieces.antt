-- Lists cut into parts and put together again, lists whose elements stand for others, and the chunks of clusters as lists: their slots, their
-- feerates, how many they are. Assumes nothing.
use Prim.Native.Nat.{ℕ, zero, suc, ◌≤◌, ◌<◌, suc-le-suc}
use native.Mathlib.Nat.{not-suc-le-zero, le_of_suc-le-suc}
use native.Mathlib.Omega.{arith}
use mathlib.Core.Path.{◌≡◌, refl, sym, ap, ap₂, ◌∙◌, subst}
use mathlib.Core.Bool.{Bool, true, not, ◌&&◌}
use mathlib.Core.Logic.{⊎_elim}
use mathlib.Core.List.{List, [], ◌∷◌, ◌++◌, map, map-append, append-nil, append_assoc, flatten}
use lib.ListN.{length, take, drop, get_or, length-drop, take-append-drop}
use lib.Seq.{length-take-le}
use lib.IntN.{ℤ}
use borrow.Author.Tests.{not-true}
use Rattle.lists.specs.Lists.{any_of, elem, distinct}
use Rattle.lists.proofs.Bools.{clash, and_both, and_right, is_false, true_together}
use Rattle.lists.proofs.Lists.{elem_head, elem_tail, elem_at, in_cons, length_nil, Each}
use Rattle.feefrac.proofs.Exact.{sum_of}
use Rattle.feeset.specs.Total.{total}
use Rattle.chunking.specs.Orders.{cut}
use Rattle.pool_table.specs.Pool.{Pool}
use Rattle.pool_members.proofs.Only.{place_of}
use Rattle.pool_chunks.specs.Chunks.{PoolChunk, fees_of, sizes_of, parts_of, chunk_of, numbered, chunks_over}
use Rattle.pool_chunks.specs.Sorted.{slot_lists}

-- what holds at each place holds of each element
pub at_each : {A : Type 0} (P : A → Type 0) (xs : List A) (d : A) → ((i : ℕ) → i < length xs → P (get_or xs i d)) → Each P xs
unfolding Each
at_each P [] d h = tt
at_each P (x ∷ xs) d h = (h 0 (omega arith), at_each P xs d (λ i l. h (suc i) (suc-le-suc l)))

-- ---- lists of lists

pub flatten_map : (f : ℕ → ℕ) (xss : List (List ℕ)) → flatten (map (map f) xss) ≡ map f (flatten xss)
unfolding flatten
flatten_map f [] = refl
flatten_map f (xs ∷ xss) = ap (λ (l : List ℕ). map f xs ++ l) (flatten_map f xss) ∙ sym (map-append f xs (flatten xss))

-- what was cut, put together, is what it was, and its parts are as long as was said
pub flatten_cut : (ls xs : List ℕ) → sum_of ls ≡ length xs → flatten (cut ls xs) ≡ xs
unfolding flatten cut sum_of
flatten_cut [] xs e = sym (length_nil xs (sym e))
flatten_cut (l ∷ ls) xs e =
    ap (λ (r : List ℕ). take l xs ++ r) (flatten_cut ls (drop l xs) (omega (arith, length-drop l xs))) ∙ take-append-drop l xs

pub cut_lengths : (ls xs : List ℕ) → sum_of ls ≤ length xs → map length (cut ls xs) ≡ ls
unfolding cut sum_of
cut_lengths [] xs h = refl
cut_lengths (l ∷ ls) xs h =
    ap₂ ◌∷◌ (length-take-le l xs (omega arith)) (cut_lengths ls (drop l xs) (omega (arith, length-drop l xs)))

-- ---- elements that stand for others

-- one that stands for y
pub record Source (f : ℕ → ℕ) (xs : List ℕ) (y : ℕ) : Type 0 where
  pub of : ℕ
  pub listed : elem of xs ≡ true
  pub gives : f of ≡ y

pub in_map : (f : ℕ → ℕ) (xs : List ℕ) (y : ℕ) → elem y (map f xs) ≡ true → Source f xs y
unfolding elem any_of
in_map f [] y e = clash e refl
in_map f (x ∷ xs) y e =
    ⊎_elim
    (λ z. record { of = x; listed = elem_head x xs; gives = sym z })
    (λ m. let u = in_map f xs y m in record { of = u.of; listed = elem_tail u.of x xs u.listed; gives = u.gives })
    (in_cons y (f x) (map f xs) e)

pub map_in : (f : ℕ → ℕ) (xs : List ℕ) (i : ℕ) → elem i xs ≡ true → elem (f i) (map f xs) ≡ true
unfolding elem any_of
map_in f [] i e = clash e refl
map_in f (x ∷ xs) i e =
    ⊎_elim
    (λ z. subst (λ (j : ℕ). elem (f j) (map f (x ∷ xs)) ≡ true) (sym z) (elem_head (f x) (map f xs)))
    (λ m. elem_tail (f i) (f x) (map f xs) (map_in f xs i m))
    (in_cons i x xs e)

pub distinct_map : (f : ℕ → ℕ) (xs : List ℕ) → ((i j : ℕ) → elem i xs ≡ true → elem j xs ≡ true → f i ≡ f j → i ≡ j) → distinct xs ≡ true
    → distinct (map f xs) ≡ true
unfolding distinct
distinct_map f [] h d = refl
distinct_map f (x ∷ xs) h d =
    let b = and_both (not (elem x xs)) (distinct xs) d in
    ap₂ (λ (a c : Bool). not a && c)
    (is_false (elem (f x) (map f xs)) (λ e.
    let u = in_map f xs (f x) e in
    let z : u.of ≡ x = h u.of x (elem_tail u.of x xs u.listed) (elem_head x xs) u.gives in
    clash (rw z at u.listed) (not-true (elem x xs) b.0)))
    (distinct_map f xs (λ i j m n. h i j (elem_tail i x xs m) (elem_tail j x xs n)) b.1)

-- none comes twice in what stands behind a part
pub distinct_behind : (xs ys : List ℕ) → distinct (xs ++ ys) ≡ true → distinct ys ≡ true
unfolding distinct
distinct_behind [] ys d = d
distinct_behind (x ∷ xs) ys d = distinct_behind xs ys (and_right (not (elem x (xs ++ ys))) (distinct (xs ++ ys)) d)

-- of a list in which none comes twice two places do not hold the same
at_once : (xs : List ℕ) (i j : ℕ) → distinct xs ≡ true → i < length xs → j < length xs → get_or xs i 0 ≡ get_or xs j 0 → i ≡ j
unfolding distinct
at_once [] i j d l m e = absurd (not-suc-le-zero l)
at_once (x ∷ xs) zero zero d l m e = refl
at_once (x ∷ xs) zero (suc j) d l m e =
    let b = and_both (not (elem x xs)) (distinct xs) d in
    clash (rw e (elem_at xs j (le_of_suc-le-suc m))) (not-true (elem x xs) b.0)
at_once (x ∷ xs) (suc i) zero d l m e =
    let b = and_both (not (elem x xs)) (distinct xs) d in
    clash (rw (sym e) (elem_at xs i (le_of_suc-le-suc l))) (not-true (elem x xs) b.0)
at_once (x ∷ xs) (suc i) (suc j) d l m e =
    ap suc (at_once xs i j (and_both (not (elem x xs)) (distinct xs) d).1 (le_of_suc-le-suc l) (le_of_suc-le-suc m) e)

-- the places of a list in another order, each once: the same elements, each once
module _
    (xs order : List ℕ)
    (below : (i : ℕ) → elem i order ≡ true → i < length xs)
    (every : (i : ℕ) → i < length xs → elem i order ≡ true) where
  pub listed_elem : (y : ℕ) → elem y (map (λ i. get_or xs i 0) order) ≡ elem y xs
  listed_elem y =
      true_together (elem y (map (λ i. get_or xs i 0) order)) (elem y xs)
      (λ e. let u = in_map (λ i. get_or xs i 0) order y e in rw (sym u.gives) (elem_at xs u.of (below u.of u.listed)))
      (λ e. let u = place_of xs y e in rw (sym u.2) (map_in (λ i. get_or xs i 0) order u.0 (every u.0 u.1)))

  pub listed_once : distinct order ≡ true → distinct xs ≡ true → distinct (map (λ i. get_or xs i 0) order) ≡ true
  listed_once d e = distinct_map (λ i. get_or xs i 0) order (λ i j m n. at_once xs i j e (below i m) (below j n)) d

-- ---- chunks by their parts

module _ (p : Pool) (ds : List ℤ) (ms : List ℕ) where
  pub numbered_slots : (k : ℕ) (iss : List (List ℕ)) → slot_lists (numbered p ds ms k iss) ≡ map (map (λ i. get_or ms i 0)) iss
  unfolding numbered chunk_of
  numbered_slots k [] = refl
  numbered_slots k (is ∷ iss) = ap (λ (l : List (List ℕ)). map (λ i. get_or ms i 0) is ∷ l) (numbered_slots (suc k) iss)

  pub numbered_fees : (k : ℕ) (iss : List (List ℕ))
      → map (λ c. c.rate.fee) (numbered p ds ms k iss) ≡ map (λ is. (total (fees_of p ds ms) (sizes_of p ms) is).fee) iss
  unfolding numbered chunk_of
  numbered_fees k [] = refl
  numbered_fees k (is ∷ iss) = ap (λ (l : List ℤ). (total (fees_of p ds ms) (sizes_of p ms) is).fee ∷ l) (numbered_fees (suc k) iss)

  pub numbered_sizes : (k : ℕ) (iss : List (List ℕ))
      → map (λ c. c.rate.size) (numbered p ds ms k iss) ≡ map (λ is. (total (fees_of p ds ms) (sizes_of p ms) is).size) iss
  unfolding numbered chunk_of
  numbered_sizes k [] = refl
  numbered_sizes k (is ∷ iss) = ap (λ (l : List ℕ). (total (fees_of p ds ms) (sizes_of p ms) is).size ∷ l) (numbered_sizes (suc k) iss)

  pub numbered_length : (k : ℕ) (iss : List (List ℕ)) → length (numbered p ds ms k iss) ≡ length iss
  unfolding numbered
  numbered_length k [] = refl
  numbered_length k (is ∷ iss) = ap suc (numbered_length (suc k) iss)

  -- what each part gives its chunk
  pub each_numbered : (Q : List ℕ → Type 0) (P : PoolChunk → Type 0) → ((k : ℕ) (is : List ℕ) → Q is → P (chunk_of p ds ms k is))
      → (k : ℕ) (iss : List (List ℕ)) → Each Q iss → Each P (numbered p ds ms k iss)
  unfolding numbered Each
  each_numbered Q P f k [] h = tt
  each_numbered Q P f k (is ∷ iss) h = (f k is h.0, each_numbered Q P f (suc k) iss h.1)

-- one cluster more
pub chunks_snoc : (p : Pool) (ds : List ℤ) (mss : List (List ℕ)) (ms : List ℕ)
    → chunks_over p ds (mss ++ (ms ∷ [])) ≡ chunks_over p ds mss ++ numbered p ds ms 0 (parts_of p ds ms)
unfolding chunks_over
chunks_snoc p ds [] ms = append-nil (numbered p ds ms 0 (parts_of p ds ms))
chunks_snoc p ds (ns ∷ mss) ms =
    ap (λ (l : List PoolChunk). numbered p ds ns 0 (parts_of p ds ns) ++ l) (chunks_snoc p ds mss ms)
    ∙ sym (append_assoc (numbered p ds ns 0 (parts_of p ds ns)) (chunks_over p ds mss) (numbered p ds ms 0 (parts_of p ds ms)))
