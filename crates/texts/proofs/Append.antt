-- A text that is written piece by piece: what writing the rest at the present place would leave is what writing all of it would have left.
-- Assumes nothing.
use mathlib.Core.Path.{◌≡◌, refl, sym, ap, ◌∙◌}
use mathlib.Core.List.{List, [], ◌++◌, append_assoc}
use Prim.Native.Nat.{ℕ, ◌+◌, ◌≤◌, ◌<◌}
use native.Mathlib.Nat.{add_assoc, add-zero, zero-add}
use native.Mathlib.Omega.{arith}
use lib.ListN.{length, take, drop, length-append, length-drop, take-append-drop}
use lib.Seq.{take_at, drop_at, drop-drop, length-take-le}
use borrow.Rule.Slice.PartMut.{put_mid}
use borrow.Author.Tests.{le-leb, lt-leb}
use Rattle.lists.specs.Lists.{overwrite}
use Rattle.texts.specs.Rooms.{placed, fits, end_of, written_at, Room, Wrote, Writes}

-- ---- one text behind another

-- a text that there is room for
module _ (at : ℕ) (a room : List ℕ) (h : at + length a ≤ length room) where
  front : take at room ++ (a ++ drop (at + length a) room) ≡ (take at room ++ a) ++ drop (at + length a) room
  front = sym (append_assoc (take at room) a (drop (at + length a) room))

  front_length : length (take at room ++ a) ≡ at + length a
  front_length = rw (length-append, length-take-le at room (omega arith))

  -- the room keeps its length
  pub placed_length : length (placed at a room) ≡ length room
  placed_length = rw front (simp (length-append (take at room ++ a), front_length, length-drop) (omega arith))

  take_placed : take (at + length a) (placed at a room) ≡ take at room ++ a
  take_placed = ap (take (at + length a)) front ∙ take_at (take at room ++ a) (drop (at + length a) room) (at + length a) front_length

  drop_placed : drop (at + length a) (placed at a room) ≡ drop (at + length a) room
  drop_placed = ap (drop (at + length a)) front ∙ drop_at (take at room ++ a) (drop (at + length a) room) (at + length a) front_length

  -- a text, and then another behind it, is both as one
  pub placed_join : (b : List ℕ) → placed (at + length a) b (placed at a room) ≡ placed at (a ++ b) room
  placed_join b =
      let past : drop (at + length a + length b) (placed at a room) ≡ drop (at + length a + length b) room =
      sym (drop-drop (length b) (at + length a) (placed at a room)) ∙ ap (drop (length b)) drop_placed ∙ drop-drop (length b) (at + length a) room in
      rw (take_placed, past) (simp (append_assoc, length-append, add_assoc))

-- a part of the room that a text as long was copied to
pub part_placed : (at k : ℕ) (text room part : List ℕ) → part ≡ text → k ≡ length text → put_mid at k room part ≡ placed at text room
part_placed at k text room part p e =
    rw (p, e) (ap (λ (l : List ℕ). take at room ++ (text ++ l)) (drop-drop (length text) at room))

-- ---- what is left to write

-- of the text `all`, that goes to `from` on, `rest` is left, and goes to `at` on
pub record Left (rest all : List ℕ) (at from : ℕ) (new old : List ℕ) : Type 0 where
  pub room : Room rest at new
  pub long : length new ≡ length old
  pub ends : at + length rest ≡ from + length all
  pub same : placed at rest new ≡ placed from all old

-- nothing is written yet
pub start : {all : List ℕ} {from : ℕ} {old : List ℕ} → Room all from old → Left all all from from old old
start r = record { room = r; long = refl; ends = refl; same = refl }

-- the next piece was written
pub next : (piece rest : List ℕ) {all : List ℕ} {at from end : ℕ} {new old newer : List ℕ}
    → Left (piece ++ rest) all at from new old → Writes piece at new newer end → Left rest all end from newer old
next piece rest {at = at} {new = new} {newer = newer} l writes =
    let r : Room piece at new = record { fits = omega (arith, l.room.fits, length-append piece rest) } in
    let w = writes r in
    let kept : length newer ≡ length new = ap length w.are ∙ placed_length at piece new r.fits in
    record {
      room = record { fits = omega (arith, l.room.fits, kept, w.ends, length-append piece rest) };
      long = kept ∙ l.long;
      ends = omega (arith, l.ends, w.ends, length-append piece rest);
      same = rw (w.are, w.ends) (placed_join at piece new r.fits rest ∙ l.same);
    }

-- nothing was written
nothing : (at : ℕ) (room : List ℕ) → Wrote [] at room room at
nothing at room = record { ends = sym (add-zero at); are = sym (rw add-zero (take-append-drop at room)) }

-- all was written
pub done : {all : List ℕ} {at from : ℕ} {new old : List ℕ} → Left [] all at from new old → Wrote all from old new at
done {at = at} {new = new} l = let w = nothing at new in record { ends = w.ends ∙ l.ends; are = w.are ∙ l.same }

-- a text of two pieces, and one of three
pub two : (a b : List ℕ) {from at end : ℕ} {old mid new : List ℕ}
    → Writes a from old mid at → Writes b at mid new end → Writes (a ++ b) from old new end
two a b w w' r =
    let l = next a b (start r) w in
    let last = w' l.room in
    record { ends = last.ends ∙ l.ends; are = last.are ∙ l.same }

pub three : (a b d : List ℕ) {from at at' end : ℕ} {old mid mid' new : List ℕ}
    → Writes a from old mid at → Writes b at mid mid' at' → Writes d at' mid' new end → Writes (a ++ (b ++ d)) from old new end
three a b d w w' w'' = two a (b ++ d) w (two b d w' w'')

-- a text at the start of a room
pub at_start : {text old new : List ℕ} {end : ℕ} → Wrote text 0 old new end → (end ≡ length text) × (new ≡ overwrite text old)
at_start {text} {old} w = (w.ends ∙ zero-add (length text), w.are ∙ ap (λ (n : ℕ). text ++ drop n old) (zero-add (length text)))

pub start_is : {text old new : List ℕ} {end : ℕ} → Wrote text 0 old new end → take end new ≡ text
start_is {text} {old} {end = end} w = let s = at_start w in rw s.1 (take_at text (drop (length text) old) end (sym s.0))

-- ---- a text is written whole, or not at all

-- what a function says of a text that it was given
abbrev pub Put : List ℕ → ℕ → List ℕ → List ℕ → ℕ → Type 0
Put text at old new end = (end ≡ end_of text at old) × (new ≡ written_at text at old)

module _ {text : List ℕ} {at : ℕ} {old : List ℕ} where
  -- where there is room for it, it was written
  pub writes : {end : ℕ} {new : List ℕ} → Put text at old new end → Writes text at old new end
  unfolding end_of written_at fits
  writes p r =
      let e = le-leb (at + length text) (length old) r.fits in
      record { ends = p.0 ∙ rw e; are = p.1 ∙ rw e }

  pub put : {end : ℕ} {new : List ℕ} → Room text at old → Wrote text at old new end → Put text at old new end
  unfolding end_of written_at fits
  put r w =
      let e = le-leb (at + length text) (length old) r.fits in
      (rw e w.ends, rw e w.are)

-- where there is none, nothing is
pub put_none : (text : List ℕ) (at : ℕ) (old : List ℕ) → length old < at + length text → Put text at old old at
unfolding end_of written_at fits
put_none text at old h =
    let e = lt-leb (at + length text) (length old) h in
    (rw e, rw e)
