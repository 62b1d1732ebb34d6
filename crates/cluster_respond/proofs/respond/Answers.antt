use mathlib.Core.Path.{ap, ◌∙◌}
use native.Mathlib.Omega.{arith}
use Rattle.cluster_reader.proofs.Reading.{number_some}
use Rattle.cluster_writer.specs.Writing.{refusal_text}
use Rattle.cluster_respond.proofs.Answers.{part_long, prints, refused_input, members_read, given_text}
use Rattle.cluster_respond.proofs.respond.Goals as goal

pub returns-in-Err : goal.returns-in-Err
returns-in-Err c =
    let w = c.write_refusal.ensures in
    let text =
    refused_input c.args.text.now c.read_cluster.ensures.result_value c.in-Err.is (λ e. omega (arith, e, number_some c.in-Err.refusal)) in
    let p = prints c.args.out.now (ap refusal_text c.number.ensures ∙ text) w.value w.out_after in
    record { value = p.0; out_after = p.1 }

pub respond_cluster-requires : goal.respond_cluster-requires
respond_cluster-requires c =
    let r = c.read_cluster.ensures in
    let g = members_read c.args.text.now r.result_value c.in-Ok.is _ _ _ _ _ _ r.fees_after r.sizes_after r.parents_after in
    (omega (arith, g.few, part_long g.fees_are), omega (arith, part_long g.fees_are, part_long g.sizes_are))

pub returns-in-Ok : goal.returns-in-Ok
returns-in-Ok c =
    let w = c.respond_cluster.ensures in
    let r = c.read_cluster.ensures in
    let g = members_read c.args.text.now r.result_value c.in-Ok.is _ _ _ _ _ _ r.fees_after r.sizes_after r.parents_after in
    let p = prints c.args.out.now (given_text g) w.value w.out_after in
    record { value = p.0; out_after = p.1 }

pub slice_bounds-fees-end : goal.slice_bounds-fees-end
slice_bounds-fees-end c =
    let r = c.read_cluster.ensures in
    let g = members_read c.args.text.now r.result_value c.in-Ok.is _ _ _ _ _ _ r.fees_after r.sizes_after r.parents_after in
    g.fees_are.within

pub slice_bounds-respond_cluster-end : goal.slice_bounds-respond_cluster-end
slice_bounds-respond_cluster-end c =
    let r = c.read_cluster.ensures in
    let g = members_read c.args.text.now r.result_value c.in-Ok.is _ _ _ _ _ _ r.fees_after r.sizes_after r.parents_after in
    part_long g.fees_are

pub slice_bounds-sizes-end : goal.slice_bounds-sizes-end
slice_bounds-sizes-end c =
    let r = c.read_cluster.ensures in
    let g = members_read c.args.text.now r.result_value c.in-Ok.is _ _ _ _ _ _ r.fees_after r.sizes_after r.parents_after in
    g.sizes_are.within

pub slice_bounds-respond_cluster-end-in-Ok : goal.slice_bounds-respond_cluster-end-in-Ok
slice_bounds-respond_cluster-end-in-Ok c =
    let r = c.read_cluster.ensures in
    let g = members_read c.args.text.now r.result_value c.in-Ok.is _ _ _ _ _ _ r.fees_after r.sizes_after r.parents_after in
    part_long g.sizes_are

pub slice_bounds-parents-end : goal.slice_bounds-parents-end
slice_bounds-parents-end c =
    let r = c.read_cluster.ensures in
    let g = members_read c.args.text.now r.result_value c.in-Ok.is _ _ _ _ _ _ r.fees_after r.sizes_after r.parents_after in
    g.parents_are.within

pub slice_bounds-respond_cluster-end-in-Ok-2 : goal.slice_bounds-respond_cluster-end-in-Ok-2
slice_bounds-respond_cluster-end-in-Ok-2 c =
    let r = c.read_cluster.ensures in
    let g = members_read c.args.text.now r.result_value c.in-Ok.is _ _ _ _ _ _ r.fees_after r.sizes_after r.parents_after in
    part_long g.parents_are
