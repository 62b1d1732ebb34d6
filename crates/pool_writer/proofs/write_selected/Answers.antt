use mathlib.Core.Path.{◌≡◌, ap, ◌∙◌}
use Prim.Native.Nat.{ℕ}
use native.Mathlib.Omega.{arith}
use lib.ListN.{take}
use lib.Seq.{length-take-le}
use borrow.Author.Rules.{rules}
use Rattle.slotsets.specs.SlotSets.{capacity}
use Rattle.texts.proofs.Places.{take_min}
use Rattle.pool_writer.proofs.write_selected.Goals as goal

pub returns : goal.returns
returns c =
    let shown : take c.min.result c.args.slots.now ≡ take capacity c.args.slots.now =
    ap (λ (n : ℕ). take n c.args.slots.now) c.min.ensures ∙ take_min capacity c.args.slots.now in
    let w = c.both_lines.ensures in
    record { value = rw shown at w.value; out_after = rw shown at w.out_after }

pub both_lines-requires : goal.both_lines-requires
both_lines-requires c =
    record {
      slots_len_bound = omega (arith, c.min.ensures, length-take-le c.min.result c.args.slots.now (omega (arith, c.min.ensures)));
      out_len = search rules;
    }
