-- What answers a line, of whatever it asks for. Assumes nothing.
use Rattle.std.specs.Prelude.{ℕ, cond, List, eqb, replicate}
use Rattle.slotsets.specs.SlotSets.{capacity}
use Rattle.pool_table.specs.Words.{pool_of}
use Rattle.pool_rules.specs.Calls.{make_answer, add_reply, named_reply, clear_answer, totals_reply}
use Rattle.template_rules.specs.declared.Terms.{Terms}
use Rattle.template_rules.specs.Filling as filling
use Rattle.template_rules.specs.Calls.{template_reply}
use Rattle.pool_reader.specs.Requests.{Request, make, add, remove, set_cost, clear, totals, delta, mark, template, malformed}
use Rattle.pool_writer.specs.Answers.{number_text, placed_text, totals_text, selected_text, malformed_text}
use Rattle.pool_session.specs.Session.{Session, slots_of, lent_table, setting_answer}

-- a template's room has a place for each slot that a pool can have, so that it is never too short
abbrev pub lent_room : List ℕ
lent_room = replicate capacity 0

abbrev pub with_terms : Session → Terms → filling.Settings
with_terms s w = filling.settings s.deltas s.marks w

unfoldable pub template_text : Session → Terms → List ℕ
template_text s w =
    cond (eqb (template_reply s.table (with_terms s w) lent_room).answer 0)
    (selected_text s.table (filling.template (pool_of s.table) (with_terms s w)))
    (number_text (template_reply s.table (with_terms s w) lent_room).answer)

-- what answers line n, which asks for this
abbrev pub text_of : Session → ℕ → Request → List ℕ
text_of s n (make k l) = number_text (make_answer (lent_table k) l)
text_of s n (add e listed) = placed_text (add_reply s.table e listed)
text_of s n (remove x) = placed_text (named_reply s.table x)
text_of s n (set_cost x c) = placed_text (named_reply s.table x)
text_of s n clear = number_text (clear_answer s.table)
text_of s n totals = totals_text (totals_reply s.table)
text_of s n (delta k d) = number_text (setting_answer (slots_of s) k)
text_of s n (mark k m) = number_text (setting_answer (slots_of s) k)
text_of s n (template w) = template_text s w
text_of s n malformed = malformed_text n
