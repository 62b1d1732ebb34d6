use native.Mathlib.Omega.{arith}
use Rattle.texts.specs.Hex.{hex_text}
use Rattle.texts.specs.Rooms.{Room}
use Rattle.texts.proofs.Append.{writes, put, put_none}
use Rattle.texts.proofs.HexText.{text_length, hex_start, pair_wrote, hex_done}
use Rattle.texts.proofs.hex.write_hex.Goals as goal
use Rattle.texts.proofs.hex.write_hex.Goals.{Else-out-at-2}

pub returns-then-out-at : goal.returns-then-out-at
returns-then-out-at c =
    let p = put_none (hex_text c.args.bytes.now) c.args.at c.args.out.now (omega arith) in
    record { value = p.0; out_after = p.1 }

pub returns-then-out-at-2 : goal.returns-then-out-at-2
returns-then-out-at-2 c =
    let p = put_none (hex_text c.args.bytes.now) c.args.at c.args.out.now (omega (arith, text_length c.args.bytes.now)) in
    record { value = p.0; out_after = p.1 }

room : (c : Else-out-at-2)
    → (let args = c.args in Room (hex_text args.bytes.now) args.at args.out.now)
room c = record { fits = omega (arith, text_length c.args.bytes.now) }

pub loop-b-preserved : goal.loop-b-preserved
loop-b-preserved c =
    let w = c.write_bytes-end.ensures in
    pair_wrote c.loop-b.invariant c.loop-b-test.true c.digit.ensures c.digit-in-loop-b.ensures (writes (w.value, w.out_after))

pub loop-b-init : goal.loop-b-init
loop-b-init c = hex_start (room (goal.at.loop-b-init c).Else-out-at-2)

pub shape_of-out : goal.shape_of-out
shape_of-out c = c.loop-b.invariant.left.long

pub returns : goal.returns
returns c =
    let p = put (room (goal.at.returns c).Else-out-at-2) (hex_done c.loop-b.invariant c.loop-b-test.false) in
    record { value = p.0; out_after = p.1 }
