use mathlib.Core.Path.{sym, ◌∙◌}
use mathlib.Core.List.{◌++◌, append-nil}
use lib.ListN.{take}
use lib.Seq.{take_all}
use Rattle.lists.proofs.Bools.{clash}
use Rattle.pool_run.proofs.Lines.{next_byte}
use Rattle.pool_run.proofs.Desk.take_in.Goals as goal

pub loop-byte-init : goal.loop-byte-init
loop-byte-init c = λ input st. rw (append-nil input) st

-- the program stands behind some input at each byte
pub take_byte-requires : goal.take_byte-requires
take_byte-requires c = record { input = _; stands = c.loop-byte.invariant c.requires.input c.requires.stands }

pub loop-byte-preserved : goal.loop-byte-preserved
loop-byte-preserved c =
    λ input st.
    rw (next_byte input c.args.chunk.now c.loop-byte.byte-index c.loop-byte-test.true)
    (c.take_byte.ensures (input ++ take c.loop-byte.byte-index c.args.chunk.now) (c.loop-byte.invariant input st)
    (sym c.is_open.ensures ∙ c.if-not-is_open.false))

-- an answer was not written
pub returns-then-not-is_open : goal.returns-then-not-is_open
returns-then-not-is_open c = λ input st e. clash e (sym c.is_open.ensures ∙ c.if-not-is_open.true)

pub returns : goal.returns
returns c = λ input st e. rw (take_all c.loop-byte.byte-index c.args.chunk.now c.loop-byte-test.false) at (c.loop-byte.invariant input st)
