-- Rooms whose start is written: where parts of some lengths end, their feerate sums, and one part behind the other. Assumes nothing.
use Prim.Native.Nat.{ℕ, zero, suc, ◌+◌, ◌-◌, ◌≤◌, ◌<◌}
use native.Mathlib.Nat.{not-suc-le-zero, le_of_suc-le-suc}
use native.Mathlib.Numerals.{add-one}
use native.Mathlib.Omega.{arith}
use mathlib.Core.Path.{◌≡◌, refl, sym, ap, ◌∙◌}
use mathlib.Core.List.{List, [], ◌∷◌, ◌++◌, append-nil, append_assoc}
use lib.ListN.{length, take, drop, get_or, set, length-append, length-drop, drop_of_length-le}
use lib.Seq.{take_all, take_at, drop_at, drop-drop}
use lib.IntN.{ℤ}
use Rattle.lists.specs.Lists.{overwrite}
use Rattle.feefrac.specs.declared.FeeFrac.{FeeFrac}
use Rattle.feefrac.proofs.Exact.{sum_of}
use Rattle.feeset.specs.Total.{total}
use Rattle.chunking.specs.Orders.{cut}
use Rattle.chunking.proofs.Orders.{cut_at, length_cut, sum_next, sum_take}
use Rattle.pool_order.proofs.Filling.{Copied, copied_start, copied_within, copied_more, copied_done, copied_whole}
use Rattle.pool_chunks.specs.Steps.{ends_from, last_end, fee_sums, size_sums}

-- the next one's value, x, is put
pub copied_put : {A B : Type 0} {g : A → B} {from : List A} {old new out : List B} {i : ℕ} {x : B} → Copied g from old new i → (d : A)
    → i < length from → x ≡ g (get_or from i d) → out ≡ set new i x → Copied g from old out (i + 1)
copied_put c d h e f = rw (f, e) (copied_more c d h)

-- `old` is the room with xs at its start; its rest was lent, and ys was written at the start of that: both are zs
module _ {A : Type 0} (xs ys room : List A) {zs old part : List A} {m : ℕ} where
  pub written_on : zs ≡ xs ++ ys → old ≡ overwrite xs room → m ≡ length xs → part ≡ overwrite ys (take (length old - m) (drop m old))
      → take m old ++ (part ++ drop (length old - m) (drop m old)) ≡ overwrite zs room
  written_on z e n q =
      let front : take m old ≡ xs = ap (take m) e ∙ take_at xs (drop (length xs) room) m (sym n) in
      let rest : drop m old ≡ drop (length xs) room = ap (drop m) e ∙ drop_at xs (drop (length xs) room) m (sym n) in
      let all : length (drop m old) ≤ length old - m = omega (arith, length-drop m old) in
      let lent : take (length old - m) (drop m old) ≡ drop (length xs) room = take_all (length old - m) (drop m old) all ∙ rest in
      let none : drop (length old - m) (drop m old) ≡ [] = drop_of_length-le (drop m old) all in
      rw (front, none, q, lent, drop-drop (length ys) (length xs) room, z, length-append xs ys) (simp (append-nil, append_assoc))

-- ---- where parts end

pub ends_length : (from : ℕ) (ls : List ℕ) → length (ends_from from ls) ≡ length ls
unfolding ends_from
ends_length from [] = refl
ends_length from (l ∷ ls) = ap suc (ends_length (from + l) ls)

pub ends_at : (from : ℕ) (ls : List ℕ) (k : ℕ) → k < length ls → get_or (ends_from from ls) k 0 ≡ from + sum_of (take (suc k) ls)
unfolding ends_from sum_of
ends_at from [] k h = absurd (not-suc-le-zero h)
ends_at from (l ∷ ls) zero h = omega arith
ends_at from (l ∷ ls) (suc k) h = omega (arith, ends_at (from + l) ls k (le_of_suc-le-suc h))

pub last_sum : (from : ℕ) (ls : List ℕ) → last_end from ls ≡ from + sum_of ls
unfolding last_end sum_of
last_sum from [] = omega arith
last_sum from (l ∷ ls) = omega (arith, last_sum (from + l) ls)

-- the first k ends are written, the last of which is `end`
pub record Ending (from : ℕ) (ls old new : List ℕ) (end k : ℕ) : Type 0 where
  pub up : k ≤ length ls
  pub at : end ≡ from + sum_of (take k ls)
  pub copied : Copied (λ e. e) (ends_from from ls) old new k

pub ending_start : {from : ℕ} {ls old : List ℕ} → length ls ≤ length old → Ending from ls old old from 0
unfolding sum_of
ending_start {from} {ls} h =
    record { up = omega arith; at = omega arith; copied = copied_start (λ e. e) (omega (arith, ends_length from ls)) }

module _ {from : ℕ} {ls old new : List ℕ} {end k : ℕ} (g : Ending from ls old new end k) (h : k < length ls) where
  next_end : end + get_or ls k 0 ≡ from + sum_of (take (suc k) ls)
  next_end = omega (arith, g.at, sum_next ls k h)

  -- the next end is at most the last
  pub ending_fits : end + get_or ls k 0 ≤ last_end from ls
  ending_fits = omega (arith, next_end, last_sum from ls, sum_take ls (suc k))

  pub ending_within : k < length new
  ending_within = copied_within g.copied (omega (arith, ends_length from ls))

  pub ending_turn : Ending from ls old (set new k (end + get_or ls k 0)) (end + get_or ls k 0) (k + 1)
  ending_turn =
      record {
        up = omega arith;
        at = rw add-one next_end;
        copied = copied_put g.copied 0 (omega (arith, ends_length from ls)) (next_end ∙ sym (ends_at from ls k h)) refl;
      }

pub ending_done : {from : ℕ} {ls old new : List ℕ} {end k : ℕ} → Ending from ls old new end k → length ls ≤ k
    → new ≡ overwrite (ends_from from ls) old
ending_done {from} {ls} g h = copied_whole g.copied (omega (arith, ends_length from ls))

-- ---- feerate sums of the parts of an order

-- the sums of the first k parts are written, the last of which ends at `from`
pub record Summing (fs : List ℤ) (ss order ls : List ℕ) (fees₀ fees : List ℤ) (sizes₀ sizes : List ℕ) (from k : ℕ) : Type 0 where
  pub up : k ≤ length ls
  pub at : from ≡ sum_of (take k ls)
  pub in_fees : Copied (λ is. (total fs ss is).fee) (cut ls order) fees₀ fees k
  pub in_sizes : Copied (λ is. (total fs ss is).size) (cut ls order) sizes₀ sizes k

pub summing_start : {fs : List ℤ} {ss order ls : List ℕ} {fees : List ℤ} {sizes : List ℕ} → length ls ≤ length fees → length ls ≤ length sizes
    → Summing fs ss order ls fees fees sizes sizes 0 0
unfolding sum_of
summing_start {order = order} {ls = ls} h l =
    record {
      up = omega arith;
      at = refl;
      in_fees = copied_start _ (omega (arith, length_cut ls order));
      in_sizes = copied_start _ (omega (arith, length_cut ls order));
    }

module _
    {fs : List ℤ}
    {ss order ls : List ℕ}
    {fees₀ fees : List ℤ}
    {sizes₀ sizes : List ℕ}
    {from k : ℕ}
    (g : Summing fs ss order ls fees₀ fees sizes₀ sizes from k) where
  -- the next part lies within the order
  pub summing_fits : k < length ls → last_end 0 ls ≤ length order → from + get_or ls k 0 ≤ length order
  summing_fits h w = omega (arith, g.at, sum_next ls k h, sum_take ls (suc k), last_sum 0 ls)

  part_is : k < length ls → take (from + get_or ls k 0 - from) (drop from order) ≡ get_or (cut ls order) k []
  part_is h =
      let l : from + get_or ls k 0 - from ≡ get_or ls k 0 = omega arith in
      rw (l, g.at) (sym (cut_at ls order k h))

  pub summing_turn : k < length ls → (r : FeeFrac) (newf : List ℤ) (news : List ℕ)
      → r ≡ total fs ss (take (from + get_or ls k 0 - from) (drop from order)) → newf ≡ set fees k r.fee → news ≡ set sizes k r.size
      → Summing fs ss order ls fees₀ newf sizes₀ news (from + get_or ls k 0) (k + 1)
  summing_turn h r newf news e p q =
      let is : r ≡ total fs ss (get_or (cut ls order) k []) = e ∙ ap (total fs ss) (part_is h) in
      let n : k < length (cut ls order) = omega (arith, length_cut ls order) in
      record {
        up = omega arith;
        at = rw add-one (omega (arith, g.at, sum_next ls k h));
        in_fees = copied_put g.in_fees [] n (ap (λ (x : FeeFrac). x.fee) is) p;
        in_sizes = copied_put g.in_sizes [] n (ap (λ (x : FeeFrac). x.size) is) q;
      }

  pub summing_done : length ls ≤ k → (fees ≡ overwrite (fee_sums fs ss order ls) fees₀) × (sizes ≡ overwrite (size_sums fs ss order ls) sizes₀)
  summing_done h = (copied_done g.in_fees (omega (arith, length_cut ls order)), copied_done g.in_sizes (omega (arith, length_cut ls order)))
