use mathlib.Core.Path.{◌≡◌, sym, ap, ◌∙◌}
use mathlib.Core.List.{[]}
use Prim.Native.Nat.{◌+◌}
use native.Mathlib.Omega.{arith}
use lib.ListN.{drop}
use Rattle.std.proofs.lemmas.Result.{err_from_is_err_and}
use Rattle.cluster_reader.specs.Reading.{read, members, told}
use Rattle.cluster_reader.proofs.Reading.{refused_left, read_err, read_count}
use Rattle.cluster_reader.proofs.read_cluster.Goals as goal

pub returns-in_err-n : goal.returns-in_err-n
returns-in_err-n c =
    let p = err_from_is_err_and c.from_residual.result c.from_residual.ensures.1 in
    let q = p.2 in
    let l =
    refused_left c.in_err-n.field-0.0 {fs = c.args.fees.now} {ss = c.args.sizes.now} {ps = c.args.parents.now}
    (read_err c.args.text.now c.in_err-n.field-0.0 (sym c.first_line.ensures ∙ ap told c.in_err-n.was)) in
    rw (p.1, p.2) (record { result_value = l.0; fees_after = l.1.0; sizes_after = l.1.1.0; parents_after = l.1.1.1 })

pub overflow_add-next : goal.overflow_add-next
overflow_add-next c =
    let k = read_count c.args.text.now c.in_ok-n.n (sym c.first_line.ensures ∙ ap told c.in_ok-n.was) in
    omega (arith, c.place-next.ensures, k.inside)

pub read_members-requires : goal.read_members-requires
read_members-requires c =
    let k = read_count c.args.text.now c.in_ok-n.n (sym c.first_line.ensures ∙ ap told c.in_ok-n.was) in
    record { from_in_bounds = omega (arith, c.place-next.ensures, k.inside); n_le_positions = k.few }

-- which are read from the line behind it
pub returns : goal.returns
returns c =
    let k = read_count c.args.text.now c.in_ok-n.n (sym c.first_line.ensures ∙ ap told c.in_ok-n.was) in
    let e : read c.args.text.now ≡ members c.in_ok-n.n (drop (c.place-next.result + 1) c.args.text.now) [] [] [] = rw c.place-next.ensures k.is in
    let r = c.read_members.ensures in
    record {
      result_value = rw e r.result_value;
      fees_after = rw e r.fees_after;
      sizes_after = rw e r.sizes_after;
      parents_after = rw e r.parents_after;
    }
