use mathlib.Core.Path.{◌≡◌, sym, ap, ◌∙◌}
use mathlib.Core.List.{List, [], ◌∷◌, ◌++◌}
use Prim.Native.Nat.{ℕ, ◌+◌, ◌≤◌}
use native.Mathlib.Omega.{arith}
use lib.ListN.{length, take, drop}
use borrow.Author.Rules.{rules}
use Prim.Native.Nat.{◌-◌}
use mir.Syntax.{w64}
use mir.Val.{SFits}
use mir.Facts.{to_z-of_z}
use Rattle.texts.specs.Numerals.{signed_of}
use Rattle.texts.specs.Places.{before, place_of}
use Rattle.texts.proofs.Places.{place_before, place_le}
use Rattle.pool_reader.specs.Requests.{as_delta}
use Rattle.pool_reader.specs.Steps.{words_at, Numbers}
use Rattle.pool_reader.proofs.Reading.{count_read, words_none, words_next}
use Rattle.pool_reader.proofs.Asking.{no_slot, slot_alone, slot_more, no_sats, is_delta}
use Rattle.pool_reader.proofs.read_delta.Goals as goal

pub returns-in_err-slot : goal.returns-in_err-slot
returns-in_err-slot c = λ x ps. rw c.from_residual.ensures (sym (no_slot _ c.in_err-slot.ensures))

-- the slot was read
pub returns-then-line-last : goal.returns-then-line-last
returns-then-line-last c =
    let n = c.in_ok-slot.ensures in
    let s = n.1 in
    λ x ps.
    sym (ap as_delta (s.words ∙ ap (λ (ws : List (List ℕ)). s.read ++ ws) (words_none _ _ c.if-line-last.true))
    ∙ slot_alone s.read (count_read 1 n.0 s))

-- the words from the last on
pub returns-then-end-line : goal.returns-then-end-line
returns-then-end-line c =
    let n = c.in_ok-slot.ensures in
    let s = n.1 in
    let text = c.args.line.now in
    let at = c.in_ok-slot.last in
    let p = place_of 32 text at in
    let some = c.if-line-last.false in
    let more : p + 1 ≤ length text = omega (arith, c.if-end-line.true, c.place-end.ensures) in
    λ x ps.
    sym (ap as_delta (s.words ∙ ap (λ (ws : List (List ℕ)). s.read ++ ws)
    (words_next text at some ∙ ap (λ (ws : List (List ℕ)). before 32 (drop at text) ∷ ws) (words_next text (p + 1) more)))
    ∙ slot_more _ s.read _ _ (count_read 1 n.0 s))

module _ (text : List ℕ) (at end : ℕ) (some : at ≤ length text) (is : end ≡ place_of 32 text at) where
  within : end ≤ length text
  within = omega (arith, is, place_le 32 text at some)

  -- the word that is read
  last : take (end - at) (drop at text) ≡ before 32 (drop at text)
  last = ap (λ (e : ℕ). take (e - at) (drop at text)) is ∙ place_before 32 text at

  words : length text ≤ end → (from : ℕ) (values : List ℕ) (s : Numbers text from at values)
      → words_at text from ≡ s.read ++ (before 32 (drop at text) ∷ [])
  words e from values s =
      let none = words_none text (place_of 32 text at + 1) (omega (arith, e, is)) in
      s.words ∙ ap (λ (ws : List (List ℕ)). s.read ++ ws) (words_next text at some ∙ rw none)

pub returns-in_err-sats : goal.returns-in_err-sats
returns-in_err-sats c =
    let n = c.in_ok-slot.ensures in
    let s = n.1 in
    let text = c.args.line.now in
    let some = c.if-line-last.false in
    let e = c.read_signed.ensures ∙ ap signed_of (last text c.in_ok-slot.last c.place-end.result some c.place-end.ensures) in
    let ws = words text c.in_ok-slot.last c.place-end.result some c.place-end.ensures c.if-end-line.false c.args.from _ s in
    λ x ps. rw c.from_residual-in_err-sats.ensures (sym (ap as_delta ws ∙ no_sats _ s.read (count_read 1 n.0 s) (sym e ∙ c.in_err-sats.was)))

pub returns : goal.returns
returns c =
    let n = c.in_ok-slot.ensures in
    let s = n.1 in
    let text = c.args.line.now in
    let some = c.if-line-last.false in
    let e = c.read_signed.ensures ∙ ap signed_of (last text c.in_ok-slot.last c.place-end.result some c.place-end.ensures) in
    let ws = words text c.in_ok-slot.last c.place-end.result some c.place-end.ensures c.if-end-line.false c.args.from _ s in
    let h : SFits w64 c.in_ok-sats.sats = search rules in
    λ x ps.
    rw (to_z-of_z h, s.are)
    (sym (ap as_delta ws ∙ is_delta _ s.read c.in_ok-sats.sats (count_read 1 n.0 s) s.numbers (sym e ∙ c.in_ok-sats.was)))

pub slice_bounds-read_signed-count : goal.slice_bounds-read_signed-count
slice_bounds-read_signed-count c = let some = c.if-line-last.false in omega (arith, c.place-end.ensures)

pub slice_bounds-read_signed-start : goal.slice_bounds-read_signed-start
slice_bounds-read_signed-start c = let some = c.if-line-last.false in omega (arith, c.place-end.ensures)

pub slice_bounds-read_signed-end : goal.slice_bounds-read_signed-end
slice_bounds-read_signed-end c =
    omega (arith, within c.args.line.now c.in_ok-slot.last c.place-end.result c.if-line-last.false c.place-end.ensures)
