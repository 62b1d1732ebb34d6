-- A struct with C's layout, read as the one that the call takes: the same numbers under the same names. Assumes nothing.
use Rattle.pool_table.specs.declared.Limits as pool_table
use Rattle.template_rules.specs.declared.Terms as template_rules
use Rattle.yaghrudil.specs.declared.pool.Limits.{Limits}
use Rattle.yaghrudil.specs.declared.block.Terms.{Terms}

abbrev pub limits_of : Limits → pool_table.Limits
limits_of l = record { count = l.count; size = l.size; bytes_per_sigop = l.bytes_per_sigop }

-- the budget is a raw weight
abbrev pub terms_of : Terms → template_rules.Terms
terms_of w = record { budget = record { 0 = w.budget }; reserve = w.reserve; minimum = w.minimum }
