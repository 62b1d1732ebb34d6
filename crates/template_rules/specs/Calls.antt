-- Document 01: the call template. "template 12, 1, 11, 3"; success writes the selected slots to the room's start, "the rest stays".
-- Assumes nothing.
use Rattle.std.specs.Prelude.{ℕ, ◌||◌, List, [], ◌∷◌, length}
use Rattle.lists.specs.Lists.{overwrite}
use Rattle.refusals.specs.declared.Reply.{Reply}
use Rattle.refusals.specs.Refusals.{Line, line, refusal, success, reply_of, kept_unless, differ, short}
use Rattle.pool_table.specs.Pool.{slot_count, entries}
use Rattle.pool_table.specs.Words.{pool_of}
use Rattle.pool_rules.specs.Calls.{broken}
use Rattle.pool_chunks.specs.Sorted.{bad_delta}
use Rattle.template_rules.specs.Filling.{Settings, template}

-- 1: "deltas or withheld marks not as long as the pool"; 11: "room shorter than .. the entries now in the pool"; 3: "deltas: occupied
-- slots only"
unfoldable pub template_refusals : List ℕ → Settings → List ℕ → List Line
template_refusals t w room =
    broken t
    ∷ line 1 (differ (length w.deltas) (slot_count (pool_of t)) || differ (length w.marks) (slot_count (pool_of t)))
    ∷ line 11 (short (length room) (entries (pool_of t)))
    ∷ line 3 (bad_delta (pool_of t) w.deltas)
    ∷ []

-- "Success reports how many places it wrote from the room's start (.. the selected slots)"
unfoldable pub template_reply : List ℕ → Settings → List ℕ → Reply
template_reply t w room = reply_of refusal (template_refusals t w room) (success (length (template (pool_of t) w)))

unfoldable pub template_room : List ℕ → Settings → List ℕ → List ℕ
template_room t w room = kept_unless (template_refusals t w room) room (overwrite (template (pool_of t) w) room)
