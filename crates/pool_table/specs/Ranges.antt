-- Document 01, "Numbers and refusals": the ranges of what a pool is given and holds. Assumes nothing.
use Rattle.std.specs.Prelude.{Bool, ◌&&◌, leb}
use Rattle.pool_table.specs.declared.Limits.{Limits}
use Rattle.pool_table.specs.declared.Entry.{Entry}

-- "Count limit 1 to 64, size limit 1 to 101,000 vbytes." The bytes per sigop: "any u64"
unfoldable pub limits_in_range : Limits → Bool
limits_in_range l = (leb 1 l.count && leb l.count 64) && (leb 1 l.size && leb l.size 101000)

-- "Pool fee: 0 to 2,100,000,000,000,000" and "Raw weight 1 to 4,000,000". The sigop cost: "any u64"
unfoldable pub entry_in_range : Entry → Bool
entry_in_range e = leb e.fee 2100000000000000 && (leb 1 e.weight.0 && leb e.weight.0 4000000)
