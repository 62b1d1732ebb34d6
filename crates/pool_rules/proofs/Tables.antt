-- Tables that are changed (`Becomes` of pool_table) one step after the other. Assumes nothing.
use mathlib.Core.Path.{◌≡◌, refl, sym, ap, ◌∙◌}
use mathlib.Core.Bool.{true}
use mathlib.Core.List.{List}
use Prim.Native.Nat.{ℕ}
use lib.ListN.{length}
use Rattle.pool_table.specs.Pool.{Pool}
use Rattle.pool_table.specs.Words.{is_legal, pool_of, table_of}
use Rattle.pool_table.specs.Changes.{Becomes}
use Rattle.pool_table.proofs.Theorems.{table_pool}

-- nothing is changed
pub becomes_itself : (t : List ℕ) → Becomes (λ p. p) t t
becomes_itself t = record { long = refl; means = λ _. refl; stays = λ _. refl }

-- a change, and then another
pub becomes_then : {f g : Pool → Pool} {t u v : List ℕ} → Becomes f t u → Becomes g u v → Becomes (λ p. g (f p)) t v
becomes_then {f} {g} x y =
    record {
      long = y.long ∙ x.long;
      means = λ h. y.means (ap is_legal x.long ∙ h) ∙ ap g (x.means h);
      stays = λ h. y.stays (ap is_legal x.long ∙ h) ∙ x.stays h;
    }

-- changes that come to one pool are one change
pub becomes_as : {f g : Pool → Pool} {t u : List ℕ} → f (pool_of t) ≡ g (pool_of t) → Becomes f t u → Becomes g t u
becomes_as e x = record { long = x.long; means = λ h. x.means h ∙ e; stays = x.stays }

-- what a table of a legal length comes to be
pub becomes_table : {f : Pool → Pool} {t u : List ℕ} → is_legal (length t) ≡ true → Becomes f t u → u ≡ table_of (f (pool_of t))
becomes_table {f} {t} {u} h x = sym (table_pool u (ap is_legal x.long ∙ h)) ∙ ap table_of (x.means h)
