use mathlib.Core.Path.{refl, sym, ◌∙◌}
use Prim.Native.Nat.{◌+◌, ◌-◌}
use native.Mathlib.Omega.{arith}
use lib.ListN.{length}
use borrow.Author.Tests.{leb-true, leb-false}
use Rattle.texts.proofs.Append.{part_placed, put, put_none}
use Rattle.texts.proofs.write_bytes.Goals as goal

pub returns-then-not-fits : goal.returns-then-not-fits
returns-then-not-fits c =
    let p = put_none c.args.from.now c.args.at c.args.out.now (leb-false _ _ (sym c.fits.ensures ∙ c.if-not-fits.true)) in
    record { value = p.0; out_after = p.1 }

pub returns : goal.returns
returns c =
    let are = part_placed c.args.at (c.args.at + length c.args.from.now - c.args.at) c.args.from.now c.args.out.now _ c.copy_from_slice.ensures.after (omega arith) in
    let p = put {text = c.args.from.now} (record { fits = leb-true _ _ (sym c.fits.ensures ∙ c.if-not-fits.false) }) (record { ends = refl; are = are }) in
    record { value = p.0; out_after = p.1 }
