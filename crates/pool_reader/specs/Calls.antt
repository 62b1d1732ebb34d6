-- What the reader's answer stands for, with the bytes that it left in the lent arrays. "Whenever an answer is an enum, a definition gives
-- this paper's number and values for each of the enum's cases." Assumes nothing.
use Rattle.std.specs.Prelude.{ℕ, List, take, Option, Some, None}
use Rattle.txids.specs.Txids.{txid_at}
use Rattle.pool_rules.specs.Calls.{entry_of}
use Rattle.pool_reader.specs.declared.Parsed.{Parsed}
use Rattle.pool_reader.specs.declared.Parsed.TheVariants as parsed
use Rattle.pool_reader.specs.Requests.{Request, make, add, remove, set_cost, clear, totals, delta, mark, template, malformed}

-- `txid` has the bytes of the line's first txid, `listed` those of the parents from its start on
abbrev pub asked : Option Parsed → List ℕ → List ℕ → Request
asked (Some (parsed.Add a)) txid listed = add (entry_of txid a.fee a.weight a.cost) (take a.listed listed)
asked (Some parsed.Remove) txid listed = remove (txid_at txid 0)
asked (Some (parsed.SetCost c)) txid listed = set_cost (txid_at txid 0) c
asked (Some (parsed.Make m)) txid listed = make m.slots m.limits
asked (Some parsed.Clear) txid listed = clear
asked (Some parsed.Totals) txid listed = totals
asked (Some (parsed.Delta d)) txid listed = delta d.slot d.sats
asked (Some (parsed.Mark m)) txid listed = mark m.slot m.mark
asked (Some (parsed.Template w)) txid listed = template w
asked None txid listed = malformed
