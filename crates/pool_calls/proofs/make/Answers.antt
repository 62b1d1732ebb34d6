use mathlib.Core.Path.{◌≡◌, refl, sym, ap, ◌∙◌}
use mathlib.Core.Bool.{true, false, not, ◌&&◌, and-false}
use mathlib.Core.List.{List}
use Prim.Native.Nat.{ℕ}
use lib.ListN.{length}
use Rattle.refusals.proofs.Lines.{none_past, past, stop, all_past, keeps, writes, Gives, Takes}
use Rattle.pool_table.specs.declared.Limits.{Limits}
use Rattle.pool_table.specs.Words.{is_legal, slots_in, table_of}
use Rattle.pool_table.specs.Ranges.{limits_in_range}
use Rattle.pool_table.specs.Changes.{made}
use Rattle.pool_table.proofs.Rows.{slot_count_lem}
use Rattle.pool_rules.specs.Calls.{make_refusals, make_answer, after_make}
use Rattle.pool_rules.proofs.Tables.{becomes_table}
use Rattle.pool_calls.proofs.make.Goals as goal
use Rattle.pool_calls.proofs.make.Goals.{then-not-is_legal-via-then-not-is_legal, then-not-is_legal-via-else-not-is_legal+then-not-in_range}

-- a table and limits with one thing wrong, and with none
wrong : (t : List ℕ) (l : Limits) → (is_legal (length t) && limits_in_range l) ≡ false → Gives (make_refusals t l) 3
unfolding make_refusals
wrong t l e = stop (none_past refl) (ap not e)

right : (t : List ℕ) (l : Limits) → (is_legal (length t) && limits_in_range l) ≡ true → Takes (make_refusals t l)
unfolding make_refusals
right t l e = all_past (past (none_past refl) (ap not e)) refl

refused : (t : List ℕ) (l : Limits) → (is_legal (length t) && limits_in_range l) ≡ false → (3 ≡ make_answer t l) × (t ≡ after_make t l)
unfolding make_answer after_make
refused t l e = (sym (wrong t l e).answer, keeps t _ (wrong t l e))

done : (t u : List ℕ) (l : Limits) → (is_legal (length t) && limits_in_range l) ≡ true → u ≡ table_of (made l (slots_in (length t)))
    → (0 ≡ make_answer t l) × (u ≡ after_make t l)
unfolding make_answer after_make
done t u l e h = (sym (right t l e).answer, writes t _ (right t l e) h)

pub returns-then-not-is_legal : goal.returns-then-not-is_legal
returns-then-not-is_legal c =
    let t = c.args.table.now in
    let r = refused t c.args.limits
    (elim c.then-not-is_legal.branch [
      | then-not-is_legal-via-then-not-is_legal w ↦ rw (sym c.is_legal.ensures ∙ w.if-not-is_legal.true)
      | then-not-is_legal-via-else-not-is_legal+then-not-in_range w ↦
          rw (sym w.in_range.ensures ∙ w.if-not-in_range.true) (and-false (is_legal (length t)))
    ]) in
    record { value = r.0; table_after = r.1 }

pub returns : goal.returns
returns c = let a = c.args in
    let t = a.table.now in
    let is : is_legal (length t) ≡ true = sym c.is_legal.ensures ∙ c.if-not-is_legal.false in
    let in_range : limits_in_range a.limits ≡ true = sym c.in_range.ensures ∙ c.if-not-in_range.false in
    let r = done t _ a.limits (rw (is, in_range)) (becomes_table is c.make_empty.ensures ∙ ap (λ (n : ℕ). table_of (made a.limits n)) (slot_count_lem t)) in
    record { value = r.0; table_after = r.1 }
