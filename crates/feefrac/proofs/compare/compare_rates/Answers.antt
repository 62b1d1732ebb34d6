use Rattle.feefrac.proofs.compare.compare_rates.Goals as goal

pub compare_narrow-requires : goal.compare_narrow-requires
compare_narrow-requires c = let one = c.before.before in record {
  narrow = one.is_narrow.ensures (one.if-not-is_narrow.false);
  narrow_2 = c.is_narrow-2.ensures (c.if-not-is_narrow-2.false);
}
