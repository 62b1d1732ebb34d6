-- The start of an array that is written anew, as a session's table and settings are. Assumes nothing.
use mathlib.Core.Path.{◌≡◌, sym, ap, ◌∙◌}
use mathlib.Core.List.{List, ◌++◌}
use Prim.Native.Nat.{ℕ, ◌≤◌}
use lib.Dec.{eqb}
use lib.ListN.{length, take, drop, replicate, length-set, length-replicate}
use lib.ListN.{take-append-drop}
use lib.Seq.{length-take-le}
use borrow.Author.Tests.{ne_eqb, eq-eqb}
use Rattle.lists.specs.Lists.{overwrite}
use Rattle.lists.proofs.Bools.{cond_where}
use Rattle.pool_rules.specs.declared.Placed.{Placed}
use Rattle.pool_session.specs.Session.{wiped, wiped_all}

module _ {A : Type 0} where
  -- as much as there was, in front of what stands behind it
  pub in_front : (k : ℕ) (new xs : List A) → length new ≡ k → new ++ drop k xs ≡ overwrite new xs
  in_front k new xs e = ap (λ (n : ℕ). new ++ drop n xs) (sym e)

  module _ (k : ℕ) (xs : List A) (h : k ≤ length xs) where
    -- what stands there written again
    pub stays : xs ≡ overwrite (take k xs) xs
    stays = sym (take-append-drop k xs) ∙ in_front k (take k xs) xs (length-take-le k xs h)

    -- ---- what an add or a remove wipes

    module _ (r : Placed) (a : A) where
      pub wiped_length : length (wiped r a (take k xs)) ≡ k
      unfolding wiped
      wiped_length =
          cond_where (λ (l : List A). length l ≡ k) (eqb r.answer 0)
          (λ _. length-set (take k xs) r.slot a ∙ length-take-le k xs h) (λ _. length-take-le k xs h)

    -- ---- and a clear

    module _ (answer : ℕ) (a : A) where
      pub wipes_all : answer ≡ 0 → overwrite (replicate k a) xs ≡ overwrite (wiped_all answer a (take k xs)) xs
      unfolding wiped_all
      wipes_all e = rw (eq-eqb answer 0 e, length-take-le k xs h)

      pub wipes_nothing : (answer ≡ 0 → ⊥) → xs ≡ overwrite (wiped_all answer a (take k xs)) xs
      unfolding wiped_all
      wipes_nothing n = rw (ne_eqb answer 0 n) stays

      pub wiped_all_length : length (wiped_all answer a (take k xs)) ≡ k
      unfolding wiped_all
      wiped_all_length =
          cond_where (λ (l : List A). length l ≡ k) (eqb answer 0)
          (λ _. length-replicate (length (take k xs)) a ∙ length-take-le k xs h) (λ _. length-take-le k xs h)
