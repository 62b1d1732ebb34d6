use mathlib.Core.Path.{◌≡◌, sym, ap, ◌∙◌}
use mathlib.Core.List.{List}
use Prim.Native.Nat.{ℕ, ◌+◌, ◌-◌, ◌≤◌}
use native.Mathlib.Omega.{arith}
use lib.ListN.{length, take, drop}
use borrow.Author.Rules.{rules}
use Rattle.texts.specs.Hex.{is_hex64}
use Rattle.texts.specs.Places.{before, place_of}
use Rattle.texts.proofs.Places.{place_before, place_le}
use Rattle.texts.proofs.Append.{part_placed}
use Rattle.pool_reader.specs.Steps.{starts_txid}
use Rattle.pool_reader.proofs.Reading.{words_none, words_next, only_none, only_some, txid_to}
use Rattle.pool_reader.proofs.words.read_txid.Goals as goal

pub returns-then-text-from : goal.returns-then-text-from
returns-then-text-from c = ap starts_txid (words_none _ _ c.if-text-from.true)

module _ (text : List ℕ) (from end : ℕ) (some : from ≤ length text) (is : end ≡ place_of 32 text from) where
  within : end ≤ length text
  within = omega (arith, is, place_le 32 text from some)

  word : take (end - from) (drop from text) ≡ before 32 (drop from text)
  word = ap (λ (e : ℕ). take (e - from) (drop from text)) is ∙ place_before 32 text from

pub returns-in_err-bytes : goal.returns-in_err-bytes
returns-in_err-bytes c =
    rw c.from_residual.ensures
    (ap starts_txid (words_next c.args.text.now c.args.from c.if-text-from.false)
    ∙ ap is_hex64 (sym (word c.args.text.now c.args.from c.place-end.result c.if-text-from.false c.place-end.ensures))
    ∙ only_none _ _ c.in_err-bytes.ensures)

pub returns : goal.returns
returns c =
    let w = word c.args.text.now c.args.from c.place-end.result c.if-text-from.false c.place-end.ensures in
    let read = only_some _ _ c.in_ok-bytes.ensures in
    let long : length c.in_ok-bytes.bytes ≡ 32 = search rules in
    let wrote = part_placed c.args.at (c.args.at + 32 - c.args.at) c.in_ok-bytes.bytes c.args.out.now _ c.copy_from_slice.ensures.after (omega (arith, long)) in
    rw c.place-end.ensures
    (txid_to _ _ _ c.args.text.now c.args.from _ c.requires.place c.if-text-from.false w read.0 (rw read.1 at wrote))

pub slice_bounds-read_hex-end : goal.slice_bounds-read_hex-end
slice_bounds-read_hex-end c = omega (arith, within c.args.text.now c.args.from c.place-end.result c.if-text-from.false c.place-end.ensures)
