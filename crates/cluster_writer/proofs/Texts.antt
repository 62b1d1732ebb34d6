-- The lines of the chunks one chunk at a time, as the loop writes them, and that all that is printed fits the room. Assumes nothing.
use mathlib.Core.Path.{◌≡◌, sym, ◌∙◌}
use mathlib.Core.Bool.{true, false}
use mathlib.Core.Logic.{⊎_elim}
use mathlib.Core.List.{List, [], ◌∷◌, ◌++◌}
use Prim.Native.Nat.{ℕ, ◌+◌, ◌-◌, ◌*◌, ◌≤◌, ◌<◌, min}
use native.Mathlib.Numerals.{add-one}
use native.Mathlib.Omega.{arith}
use lib.IntN.{ℤ}
use lib.ListN.{length, take, drop, get_or, length-append, length-drop, drop_of_length-le}
use lib.Seq.{drop-cons, drop-drop, drop-length}
use borrow.Author.Tests.{le-leb, lt-leb}
use Rattle.feefrac.specs.declared.FeeFrac.{FeeFrac}
use Rattle.txset.specs.Sets.{positions}
use Rattle.feeset.specs.Total.{total}
use Rattle.texts.specs.Rooms.{Room, Wrote, Writes}
use Rattle.texts.proofs.Places.{min_is, take_min}
use Rattle.texts.proofs.Append.{Left, next, done, at_start}
use Rattle.texts.proofs.Digits.{decimal_length}
use Rattle.texts.proofs.Numbers.{signed_length, commas_length}
use Rattle.cluster_writer.specs.Writing.{shown_rate, chunk_lines, all_chunk_lines, refusal_text, success_text}
use Rattle.cluster_writer.specs.Calls.{few, success_printed, success_room}

-- ---- the chunks

-- dropping more than there is
drop_min : (n : ℕ) (xs : List ℕ) → drop (min n (length xs)) xs ≡ drop n xs
drop_min n xs = ⊎_elim (λ e. rw e) (λ e. rw (e.0, drop-length xs) (sym (drop_of_length-le xs e.1))) (min_is n (length xs))

-- a part of a list that ends within it or at its end
module _ (start len : ℕ) (xs : List ℕ) where
  part_taken : take (min (start + len) (length xs) - start) (drop start xs) ≡ take len (drop start xs)
  part_taken =
      let e : min (start + len) (length xs) - start ≡ min len (length (drop start xs)) = rw length-drop (omega arith) in
      rw e (take_min len (drop start xs))

  part_dropped : drop (min (start + len) (length xs)) xs ≡ drop len (drop start xs)
  part_dropped = drop_min (start + len) xs ∙ sym (drop-drop len start xs)

chunk_split : (fs : List ℤ) (ss : List ℕ) (k start end : ℕ) (lens order : List ℕ) → k < length lens → end ≡ min (start + get_or lens k 0) (length order)
    → all_chunk_lines fs ss (drop k lens) (drop start order)
    ≡ chunk_lines (get_or lens k 0) (total fs ss (take (end - start) (drop start order))) ++ all_chunk_lines fs ss (drop (k + 1) lens) (drop end order)
unfolding all_chunk_lines
chunk_split fs ss k start end lens order h e =
    rw (drop-cons lens k 0 h, add-one, e, part_taken start (get_or lens k 0) order, part_dropped start (get_or lens k 0) order)

-- the lines of k chunks are written, with the first members of the order up to `begin`, if there is room for all
pub record ChunksLeft (fs : List ℤ) (ss lens order : List ℕ) (k begin at from : ℕ) (new old : List ℕ) : Type 0 where
  pub passed : k ≤ length lens
  pub within : begin ≤ length order
  pub long : length new ≡ length old
  pub left : Room (all_chunk_lines fs ss lens order) from old
      → Left (all_chunk_lines fs ss (drop k lens) (drop begin order)) (all_chunk_lines fs ss lens order) at from new old

-- the next chunk's lines were written, and there is none left
module _ {fs : List ℤ} {ss lens order : List ℕ} {k begin at from : ℕ} {new old : List ℕ} (l : ChunksLeft fs ss lens order k begin at from new old) where
  pub chunk_wrote : {end to : ℕ} {rate : FeeFrac} {newer : List ℕ} → k < length lens → end ≡ min (begin + get_or lens k 0) (length order)
      → rate ≡ total fs ss (take (end - begin) (drop begin order)) → length newer ≡ length new
      → Writes (chunk_lines (get_or lens k 0) rate) at new newer to → ChunksLeft fs ss lens order (k + 1) end to from newer old
  chunk_wrote {end} {rate = rate} h e r kept w = record {
    passed = omega arith;
    within = omega arith;
    long = kept ∙ l.long;
    left = λ room. next (chunk_lines (get_or lens k 0) rate) _ (rw r (rw (chunk_split fs ss k begin end lens order h e) at (l.left room))) w;
  }

  pub chunks_done : length lens ≤ k → Writes (all_chunk_lines fs ss lens order) from old new at
  unfolding all_chunk_lines
  chunks_done h room = done (rw (drop_of_length-le lens h) at (l.left room))

-- ---- lengths: one number a piece

chunk_length : (len : ℕ) (r : FeeFrac) → length (chunk_lines len r) ≤ 54
unfolding chunk_lines
chunk_length len r = simp length-append (omega (arith, decimal_length len, signed_length (shown_rate r)))

chunks_length : (fs : List ℤ) (ss ls order : List ℕ) → length (all_chunk_lines fs ss ls order) ≤ 54 * length ls
unfolding all_chunk_lines
chunks_length fs ss [] order = omega arith
chunks_length fs ss (l ∷ ls) order =
    let r : FeeFrac = total fs ss (take l order) in
    omega (arith, length-append (chunk_lines l r) (all_chunk_lines fs ss ls (drop l order)), chunk_length l r, chunks_length fs ss ls (drop l order))

pub refusal_length : (n : ℕ) → length (refusal_text n) ≤ 28
unfolding refusal_text
refusal_length n = simp length-append (omega (arith, decimal_length n))

pub success_length : (fs : List ℤ) (ss order lens : List ℕ) → length order ≤ positions → length lens ≤ positions
    → length (success_text fs ss order lens) ≤ 8192
unfolding success_text
success_length fs ss order lens h l =
    simp length-append (omega (arith, refusal_length 0, commas_length order, chunks_length fs ss lens order))

-- ---- few members and chunks, or too many

pub few_both : (order lens : List ℕ) → length order ≤ positions → length lens ≤ positions → few order lens ≡ true
unfolding few
few_both order lens h l = rw (le-leb (length order) positions h, le-leb (length lens) positions l)

pub many_members : (order lens : List ℕ) → positions < length order → few order lens ≡ false
unfolding few
many_members order lens h = rw (lt-leb (length order) positions h)

pub many_chunks : (order lens : List ℕ) → length order ≤ positions → positions < length lens → few order lens ≡ false
unfolding few
many_chunks order lens h l = rw (le-leb (length order) positions h, lt-leb (length lens) positions l)

-- what the call answers and leaves, where it writes nothing and where it has written all
module _ (fs : List ℤ) (ss order lens : List ℕ) where
  pub refused : (room : List ℕ) → few order lens ≡ false → (0 ≡ success_printed fs ss order lens) × (room ≡ success_room fs ss order lens room)
  unfolding success_printed success_room
  refused room e = (rw e, rw e)

  pub answered : {end : ℕ} {old new : List ℕ} → few order lens ≡ true → Wrote (success_text fs ss order lens) 0 old new end
      → (end ≡ success_printed fs ss order lens) × (new ≡ success_room fs ss order lens old)
  unfolding success_printed success_room
  answered e w = (rw e (at_start w).0, rw e (at_start w).1)
