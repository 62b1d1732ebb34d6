-- What a call is not about stands after it as before, by the events alone. Assumes nothing.
use mathlib.Core.Path.{◌≡◌, refl}
use mathlib.Core.Bool.{Bool, true, false}
use mathlib.Core.List.{List, ◌∷◌}
use Prim.Native.Nat.{ℕ}
use Rattle.lists.proofs.Bools.{clash, or_left, or_right}
use Rattle.txids.specs.declared.Txid.{Txid}
use Rattle.txids.specs.Txids.{same_txid}
use Rattle.pool_history.specs.History.{Call, make, add, remove, set_cost, clear, totals, template, Event}
use Rattle.pool_history.specs.Standing.{stands, held, linked, board, is_about, is_about_link}
use Rattle.pool_history.proofs.Account.{Account, account}

abbrev told : ℕ → Call → Bool → List Event → Account
told n c b es = account n (record { call = c; done = b } ∷ es)

-- what is told of x is the same in both
pub record Same (k j : Account) (x : Txid) : Type 0 where
  pub stands : j.stands x ≡ k.stands x
  pub held : j.held x ≡ k.held x
  pub place : j.board.place x ≡ k.board.place x

module _ (n : ℕ) (es : List Event) where
  pub other_same : (c : Call) (b : Bool) (x : Txid) → is_about c x ≡ false → Same (account n es) (told n c b es) x
  unfolding stands held board
  other_same c false x e = record { stands = refl; held = refl; place = refl }
  other_same (make l) true x e = clash refl e
  other_same (add i listed) true x e = record { stands = rw e; held = rw e; place = rw e }
  other_same (remove y) true x e = record { stands = rw e; held = refl; place = refl }
  other_same (set_cost y c) true x e = record { stands = refl; held = rw e; place = refl }
  other_same clear true x e = clash refl e
  other_same totals true x e = record { stands = refl; held = refl; place = refl }
  other_same (template w room) true x e = record { stands = refl; held = refl; place = refl }

  pub link_same : (c : Call) (b : Bool) (x y : Txid) → is_about_link c x y ≡ false → (told n c b es).linked x y ≡ linked es x y
  unfolding linked
  link_same c false x y e = refl
  link_same (make l) true x y e = clash refl e
  link_same (add i listed) true x y e = rw e
  link_same (remove z) true x y e = rw (or_left (same_txid z x) (same_txid z y) e, or_right (same_txid z x) (same_txid z y) e)
  link_same (set_cost z c) true x y e = refl
  link_same clear true x y e = clash refl e
  link_same totals true x y e = refl
  link_same (template w room) true x y e = refl
