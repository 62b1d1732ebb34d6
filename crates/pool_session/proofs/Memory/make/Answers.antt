use mathlib.Core.Path.{◌≡◌, sym, ap, ◌∙◌}
use mathlib.Core.List.{List, ◌++◌}
use Prim.Native.Nat.{ℕ, ◌≤◌}
use native.Mathlib.Omega.{arith}
use lib.ListN.{length, take, drop, take-append-drop}
use lib.Seq.{length-take-le}
use Rattle.slotsets.specs.SlotSets.{capacity}
use Rattle.refusals.proofs.Outcomes.{no_success}
use Rattle.pool_table.specs.Words.{row_at}
use Rattle.pool_rules.specs.Calls.{make_answer}
use Rattle.pool_session.specs.Memory.{memory_length}
use Rattle.pool_session.proofs.Making.{too_many, make_answer_lem, make_leaves, make_keeps}
use Rattle.pool_session.proofs.Steps.{put_back, leaves_made, not_made, made_now}
use Rattle.pool_session.proofs.Memory.make.Goals as goal

pub returns-then-wanted : goal.returns-then-wanted
returns-then-wanted c =
    let g = c.args.making in
    let three = too_many g.slots g.limits c.if-wanted.true in
    let w = c.write_number.ensures in
    let is = c.number.ensures ∙ sym three in
    λ k. leaves_made c.args.self.now c.args.out.now k c.requires g.slots g.limits
    (λ e. omega (arith, e, three)) (rw is at w.value, rw is at w.out_after)

-- the words that are lent to make are in the memory
in_memory : (slots : ℕ) (memory : List ℕ) → slots ≤ capacity → length memory ≡ memory_length → row_at slots ≤ length memory
in_memory slots memory h l = omega (arith, h, l)

pub returns-in-Err : goal.returns-in-Err
returns-in-Err c =
    let g = c.args.making in
    let m = c.args.self.now in
    let fits = in_memory g.slots m.words c.if-wanted.false c.requires.memory in
    let long = length-take-le (row_at g.slots) m.words fits in
    let t = take (row_at g.slots) m.words in
    let e = c.in-Err.ensures in
    let same = make_answer_lem t g.slots g.limits long in
    let no = λ (z : make_answer t g.limits ≡ 0). no_success c.in-Err.refusal (e.value ∙ z) in
    let back =
    ap (λ (t : List ℕ). t ++ drop (row_at g.slots) m.words) (e.table_after ∙ make_keeps t g.slots g.limits long no)
    ∙ take-append-drop (row_at g.slots) m.words in
    let w = c.write_number-in-Err.ensures in
    let is = c.number-in-Err.ensures ∙ e.value ∙ same in
    λ k. not_made m c.args.out.now k c.requires g.slots g.limits (λ z. no (same ∙ z)) back (rw is at w.value, rw is at w.out_after)

pub returns-in-Ok : goal.returns-in-Ok
returns-in-Ok c =
    let g = c.args.making in
    let m = c.args.self.now in
    let fits = in_memory g.slots m.words c.if-wanted.false c.requires.memory in
    let long = length-take-le (row_at g.slots) m.words fits in
    let t = take (row_at g.slots) m.words in
    let e = c.in-Ok.ensures in
    let zero = sym e.value in
    let words =
    put_back (row_at g.slots) c.make.new.table m.words fits c.make.auto.table
    (e.table_after ∙ make_leaves t g.slots g.limits long zero) in
    let w = c.write_number-in-Ok.ensures in
    λ k. rw c.wipe_all.ensures (made_now m c.args.out.now k c.requires g.slots g.limits
    (sym (make_answer_lem t g.slots g.limits long) ∙ zero) words (w.value, w.out_after))
