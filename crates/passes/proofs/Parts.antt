-- A list whose part is another: what stands there, and what a part that is brought forward leaves. Assumes nothing.
use mathlib.Core.Path.{◌≡◌, sym, ap, ap₂, ◌∙◌}
use mathlib.Core.List.{List, [], ◌++◌, reverse, append-nil, reverse-append, reverse-reverse}
use Prim.Native.Nat.{ℕ, ◌+◌, ◌-◌, ◌≤◌}
use native.Mathlib.Omega.{arith}
use lib.ListN.{length, take, drop, length-append, length-reverse, take-append-drop}
use lib.Seq.{take_at, drop_at, length-take-le}
use borrow.Rule.Slice.PartMut.{mid_of, put_mid, same_len_mid}
use Rattle.passes.specs.Moves.{brought}

-- the part of a list between two others, and the list with another part in its place
pub mid_at : (xs ys zs : List ℕ) (a k : ℕ) → length xs ≡ a → length ys ≡ k → mid_of a k (xs ++ (ys ++ zs)) ≡ ys
mid_at xs ys zs a k e d = ap (take k) (drop_at xs (ys ++ zs) a e) ∙ take_at ys zs k d

pub put_at_lem : (xs ys zs new : List ℕ) (a k : ℕ) → length xs ≡ a → length ys ≡ k → put_mid a k (xs ++ (ys ++ zs)) new ≡ xs ++ (new ++ zs)
put_at_lem xs ys zs new a k e d =
    ap₂ (λ (l m : List ℕ). l ++ (new ++ drop k m)) (take_at xs (ys ++ zs) a e) (drop_at xs (ys ++ zs) a e)
    ∙ ap (λ (l : List ℕ). xs ++ (new ++ l)) (drop_at ys zs k d)

-- each part turned, then the whole: the parts have changed places
pub turned_parts : (xs ys : List ℕ) → reverse (reverse xs ++ reverse ys) ≡ ys ++ xs
turned_parts xs ys = reverse-append (reverse xs) (reverse ys) ∙ ap₂ ◌++◌ (reverse-reverse ys) (reverse-reverse xs)

-- the first k elements turned, then those from k to the end n, then all: the first k stand behind the rest
module _ (l low high all : List ℕ) (k n : ℕ) (few : k ≤ length l) (first : low ≡ reverse (take k l))
    (end : n ≡ length (low ++ drop k l)) where
  abbrev half : List ℕ
  half = low ++ drop k l

  shape : half ≡ reverse (take k l) ++ (drop k l ++ [])
  shape = ap₂ ◌++◌ first (sym (append-nil (drop k l)))

  front : length (reverse (take k l)) ≡ k
  front = length-reverse (take k l) ∙ length-take-le k l few

  back : length (drop k l) ≡ n - k
  back = omega (arith, length-append low (drop k l), ap length first, front)

  pub rotated : high ≡ reverse (mid_of k (n - k) half) → all ≡ reverse (put_mid k (n - k) half high) → all ≡ drop k l ++ take k l
  rotated second last =
      let e : high ≡ reverse (drop k l) = second ∙ ap reverse (ap (mid_of k (n - k)) shape ∙ mid_at (reverse (take k l)) (drop k l) [] k (n - k) front back) in
      last
      ∙ ap reverse
      (ap (λ (m : List ℕ). put_mid k (n - k) m high) shape
      ∙ put_at_lem (reverse (take k l)) (drop k l) [] high k (n - k) front back
      ∙ ap (λ (m : List ℕ). reverse (take k l) ++ m) (append-nil high ∙ e))
      ∙ turned_parts (take k l) (drop k l)

-- nothing comes or goes where a part is brought forward
pub length_brought : (from ahead len : ℕ) (l : List ℕ) → length (brought l from ahead len) ≡ length l
unfolding brought
length_brought from ahead len l =
    let mid = mid_of from (ahead + len) l in
    let parts : length (take ahead mid) + length (drop ahead mid) ≡ length mid =
    sym (length-append (take ahead mid) (drop ahead mid)) ∙ ap length (take-append-drop ahead mid)
    in
    same_len_mid from (ahead + len) l (drop ahead mid ++ take ahead mid) (omega (arith, length-append (drop ahead mid) (take ahead mid)))

-- with nobody ahead nothing moves
pub brought_none : (from len : ℕ) (l : List ℕ) → l ≡ brought l from 0 len
unfolding brought
brought_none from len l =
    let rest = drop from l in
    sym (take-append-drop from l)
    ∙ ap (λ (m : List ℕ). take from l ++ m)
    (sym (take-append-drop (0 + len) rest) ∙ ap (λ (m : List ℕ). m ++ drop (0 + len) rest) (sym (append-nil (take (0 + len) rest))))
