use mathlib.Core.Path.{◌≡◌, sym, ap, ◌∙◌}
use mathlib.Core.List.{List, [], ◌∷◌, ◌++◌}
use Prim.Native.Nat.{ℕ, ◌+◌, ◌≤◌}
use native.Mathlib.Omega.{arith}
use lib.ListN.{length, take, length-append}
use Rattle.texts.specs.Writing.{decimal, text_line}
use Rattle.texts.specs.Rooms.{Room}
use Rattle.texts.proofs.Append.{two, at_start, start_is, writes, put, put_none}
use Rattle.texts.proofs.Digits.{decimal_length}
use Rattle.texts.proofs.numerals.write_line.Goals as goal
use Rattle.texts.proofs.numerals.write_line.Goals.{After-write_bytes-len, Else-out-at-3}

-- the room of its own has the number and the newline
module _ (c : After-write_bytes-len) where
  abbrev value : List ℕ
  value = decimal c.args.number ++ (10 ∷ [])

  own : (take c.write_bytes-len.result c.write_bytes-len.new.out ≡ value) × (c.write_bytes-len.result ≡ length value)
  own =
      let digits = c.write_decimal-digits.ensures in
      let newline = c.write_bytes-len.ensures in
      let all = two (decimal c.args.number) (10 ∷ []) (writes (digits.value, digits.out_after)) (writes (newline.value, newline.out_after)) in
      let w = all (record { fits = omega (arith, decimal_length c.args.number, long) }) in
      (start_is w, (at_start w).0)
    where
      long : length value ≡ length (decimal c.args.number) + 1
      long = length-append (decimal c.args.number) (10 ∷ [])

  short : c.write_bytes-len.result ≤ 21
  short = omega (arith, own.1, decimal_length c.args.number, length-append (decimal c.args.number) (10 ∷ []))

  whole : length (text_line c.args.key.now (decimal c.args.number)) ≡ length c.args.key.now + c.write_bytes-len.result
  whole = omega (arith, own.1, length-append c.args.key.now value)

-- the key and then this room go out, where both fit
room : (c : Else-out-at-3) → (own : c.write_bytes-len.result ≡ length (decimal c.args.number ++ (10 ∷ [])))
    → Room (text_line c.args.key.now (decimal c.args.number)) c.args.at c.args.out.now
room c own = record { fits = omega (arith, own, length-append c.args.key.now (decimal c.args.number ++ (10 ∷ []))) }

pub returns-then-out-at : goal.returns-then-out-at
returns-then-out-at c =
    let l = whole (goal.at.returns-then-out-at c).After-write_bytes-len in
    let p = put_none (text_line c.args.key.now (decimal c.args.number)) c.args.at c.args.out.now (omega (arith, l)) in
    record { value = p.0; out_after = p.1 }

pub returns-then-out-at-2 : goal.returns-then-out-at-2
returns-then-out-at-2 c =
    let l = whole (goal.at.returns-then-out-at-2 c).After-write_bytes-len in
    let p = put_none (text_line c.args.key.now (decimal c.args.number)) c.args.at c.args.out.now (omega (arith, l)) in
    record { value = p.0; out_after = p.1 }

pub returns-then-out-at-3 : goal.returns-then-out-at-3
returns-then-out-at-3 c =
    let l = whole (goal.at.returns-then-out-at-3 c).After-write_bytes-len in
    let p = put_none (text_line c.args.key.now (decimal c.args.number)) c.args.at c.args.out.now (omega (arith, l)) in
    record { value = p.0; out_after = p.1 }

pub slice_bounds-value-end : goal.slice_bounds-value-end
slice_bounds-value-end c = omega (arith, short (goal.at.slice_bounds-value-end c).After-write_bytes-len)

pub slice_bounds-write_bytes-end-3 : goal.slice_bounds-write_bytes-end-3
slice_bounds-write_bytes-end-3 c = let text = own (goal.at.slice_bounds-write_bytes-end-3 c).After-write_bytes-len in text.1 ∙ sym (ap length text.0)

pub returns : goal.returns
returns c =
    let line = (goal.at.returns c).After-write_bytes-len in
    let key = c.write_bytes-next.ensures in
    let last = c.write_bytes.ensures in
    let is = (own line).0 in
    let all = two c.args.key.now (value line) (writes (key.value, key.out_after)) (writes (rw is at last.value, rw is at last.out_after)) in
    let r = room (goal.at.returns c).Else-out-at-3 (own line).1 in
    let p = put r (all r) in
    record { value = p.0; out_after = p.1 }
