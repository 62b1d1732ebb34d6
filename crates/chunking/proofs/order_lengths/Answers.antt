use borrow.Author.Rules.{rules}
use mathlib.Core.Path.{◌≡◌, sym, ◌∙◌}
use lib.ListN.{get_or, length-map}
use Rattle.feefrac.specs.Rate.{rate_at, zero_rate}
use Rattle.chunking.proofs.Orders.{lengths_left, lengths_all, cuts_all, at_map, too_long, cramped}
use Rattle.chunking.proofs.order_lengths.Goals as goal

pub write_chunks-requires : goal.write_chunks-requires
write_chunks-requires c =
    λ k h. (
      search rules depth 8,
      (
        record {
          few = c.if-n-gt-POSITIONS.false;
          many = length-map c.args.order.now _;
          may = λ i l. search rules;
          each = λ i r l e. let is : r ≡ rate_at c.args.fees.now c.args.sizes.now (get_or c.args.order.now i 0) = search rules in is ∙ sym (at_map _ c.args.order.now i zero_rate l);
        },
        c.if-lens-n.false,
      ),
    )

pub returns-then-n-gt-POSITIONS : goal.returns-then-n-gt-POSITIONS
returns-then-n-gt-POSITIONS c =
    let left = lengths_left c.args.fees.now c.args.sizes.now _ _ (too_long _ c.args.lens.now c.if-n-gt-POSITIONS.true) in
    record { value = left.0; lens_after = left.1 }

pub returns-then-lens-n : goal.returns-then-lens-n
returns-then-lens-n c =
    let left = lengths_left c.args.fees.now c.args.sizes.now _ _ (cramped c.args.order.now c.args.lens.now c.if-lens-n.true) in
    record { value = left.0; lens_after = left.1 }

pub returns : goal.returns
returns c =
    let all = lengths_all c.args.fees.now c.args.sizes.now _ c.args.lens.now (cuts_all _ _ c.if-n-gt-POSITIONS.false c.if-lens-n.false)
    c.write_chunks.ensures.value c.write_chunks.ensures.room_after in
    record { value = all.0; lens_after = all.1 }
