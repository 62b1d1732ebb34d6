use mathlib.Core.Path.{◌≡◌, refl, sym}
use mathlib.Core.List.{List}
use Prim.Native.Nat.{ℕ}
use Rattle.std.proofs.Common.{Result, Ok, Err}
use borrow.Author.Tests.{ne_eqb}
use Rattle.refusals.specs.declared.Refusal.{Refusal}
use Rattle.refusals.specs.Refusals.{number_of}
use Rattle.refusals.proofs.Outcomes.{no_success}
use Rattle.pool_rules.specs.Calls.{placed_from}
use lib.Seq.{set_out}
use Rattle.pool_session.specs.Session.{wiped}
use Rattle.pool_session.proofs.settings.wipe.Goals as goal

-- nothing is wiped after a refusal
after_refusal : {A : Type 0} (reply : Result ℕ Refusal) (none : A) (xs : List A) → ((s : ℕ) → reply ≡ Ok s → ⊥) → xs ≡ wiped (placed_from reply) none xs
unfolding wiped
after_refusal (Ok s) none xs n = absurd (n s refl)
after_refusal (Err r) none xs n = rw (ne_eqb (number_of r) 0 (no_success r))

pub returns-in_default : goal.returns-in_default
returns-in_default g c = after_refusal _ _ _ (λ s e. c.in_default.not-Ok s e)

pub returns-then-settings-slot : goal.returns-then-settings-slot
unfolding wiped
returns-then-settings-slot g c =
    rw c.in-Ok.is (sym (set_out c.args.settings.now c.in-Ok.slot c.args.none c.if-settings-slot.true))

pub returns : goal.returns
unfolding wiped
returns g c = rw c.in-Ok.is
