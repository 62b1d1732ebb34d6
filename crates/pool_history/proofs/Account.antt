-- A pool as the calls that succeeded tell it: which txids stand and where, what each holds, which are linked, how many and how heavy they
-- are. What a call leaves is told by one event more. Assumes nothing.
use mathlib.Core.Path.{◌≡◌, refl, sym, ◌∙◌}
use mathlib.Core.Bool.{Bool, true, false}
use mathlib.Core.List.{List, ◌∷◌}
use Prim.Native.Nat.{ℕ, ◌+◌}
use native.Mathlib.Omega.{arith}
use Rattle.lists.proofs.Bools.{clash}
use Rattle.lists.proofs.Ranges.{count_none}
use Rattle.txids.specs.declared.Txid.{Txid}
use Rattle.pool_table.specs.declared.Entry.{Entry}
use Rattle.pool_table.specs.declared.Limits.{Limits}
use Rattle.pool_table.specs.declared.Side.TheVariants.{Parents}
use Rattle.pool_table.specs.Pool.{Pool, slot_at, slot_count, occupied, entries}
use Rattle.pool_table.specs.Changes.{made}
use Rattle.pool_table.proofs.Pools.{made_count}
use Rattle.pool_rules.specs.Module8.{cleared}
use Rattle.template_rules.specs.Filling.{Settings}
use Rattle.pool_history.specs.History.{Call, make, clear, totals, template, Event}
use Rattle.pool_history.specs.Standing.{stands_after, stands, held_after, held, linked_after, linked, added_after, all_added, removed_after}
use Rattle.pool_history.specs.Standing.{all_removed, weight_of_entry, one_each, Board, board_after, board, limits_after, limits_now}
use Rattle.pool_history.proofs.Plain.{names}
use Rattle.pool_history.proofs.Made.{made_free}
use Rattle.pool_history.proofs.Places.{At}

-- ---- what events tell

pub record Account : Type 0 where
  pub limits : Limits
  pub stands : Txid → Bool
  pub held : Txid → Entry
  pub linked : Txid → Txid → Bool
  pub board : Board
  pub added : (Entry → ℕ) → ℕ
  pub removed : (Entry → ℕ) → ℕ

abbrev pub account : ℕ → List Event → Account
account n es =
    record {
      limits = limits_now es;
      stands = λ x. stands es x;
      held = λ x. held es x;
      linked = λ x y. linked es x y;
      board = board n es;
      added = λ w. all_added w es;
      removed = λ w. all_removed w es;
    }

-- what they tell with a call more that succeeded
abbrev pub after : ℕ → Call → Account → Account
after n c k =
    record {
      limits = limits_after c k.limits;
      stands = λ x. stands_after c x (k.stands x);
      held = λ x. held_after c x (k.held x);
      linked = λ x y. linked_after c k.stands x y (k.linked x y);
      board = board_after n c k.board;
      added = λ w. added_after w c (k.added w);
      removed = λ w. removed_after w c k.held (k.removed w);
    }

module _ (n : ℕ) (c : Call) (es : List Event) where
  pub account_done : account n (record { call = c; done = true } ∷ es) ≡ after n c (account n es)
  unfolding stands held linked all_added all_removed board limits_now
  account_done = refl

  pub account_refused : account n (record { call = c; done = false } ∷ es) ≡ account n es
  unfolding stands held linked all_added all_removed board limits_now
  account_refused = refl

-- of the entry in slot s
pub record Told (k : Account) (p : Pool) (x : Txid) (s : ℕ) : Type 0 where
  pub stands : k.stands x ≡ true
  pub held : (slot_at p s).entry ≡ k.held x
  pub place : k.board.place x ≡ s
  pub who : k.board.who s ≡ x

-- a pool of n slots of which the account is right
pub record Right (n : ℕ) (k : Account) (p : Pool) : Type 0 where
  pub count : slot_count p ≡ n
  pub limits : p.limits ≡ k.limits
  pub used : (s : ℕ) → occupied p s ≡ k.board.used s
  pub told : (x : Txid) (s : ℕ) → At p x s → Told k p x s
  pub at : (x : Txid) → k.stands x ≡ true → At p x (k.board.place x)
  pub links : (x y : Txid) (a b : ℕ) → At p x a → At p y b → names p Parents a b ≡ k.linked x y
  pub ends : (x y : Txid) → k.linked x y ≡ true → (k.stands x ≡ true) × (k.stands y ≡ true)
  pub total : p.total + k.removed weight_of_entry ≡ k.added weight_of_entry
  pub entries : entries p + k.removed one_each ≡ k.added one_each

-- ---- calls that change nothing, and those that empty the pool

module _ {n : ℕ} {k : Account} {p : Pool} (h : Right n k p) where
  pub right_totals : Right n (after n totals k) p
  right_totals = h

  pub right_template : (w : Settings) (room : List ℕ) → Right n (after n (template w room) k) p
  right_template w room = h

-- an account of nothing
empty_right : (n : ℕ) (k : Account) → ((x : Txid) → k.stands x ≡ false) → ((s : ℕ) → k.board.used s ≡ false)
    → ((x y : Txid) → k.linked x y ≡ false) → ((w : Entry → ℕ) → (k.added w ≡ 0) × (k.removed w ≡ 0)) → Right n k (made k.limits n)
unfolding made entries
empty_right n k absent unused apart nothing =
    let l = k.limits in
    record {
      count = made_count l n;
      limits = refl;
      used = λ s. made_free l n s ∙ sym (unused s);
      told = λ x s a. clash a.there (made_free l n s);
      at = λ x s. clash s (absent x);
      links = λ x y a b u v. clash u.there (made_free l n a);
      ends = λ x y s. clash s (apart x y);
      total = omega (arith, (nothing weight_of_entry).0, (nothing weight_of_entry).1);
      entries =
          omega (
            arith,
            count_none (occupied (made l n)) (slot_count (made l n)) (λ s _. made_free l n s),
            (nothing one_each).0,
            (nothing one_each).1,
          );
    }

pub right_made : (n : ℕ) (k : Account) (l : Limits) → Right n (after n (make l) k) (made l n)
right_made n k l = empty_right n (after n (make l) k) (λ x. refl) (λ s. refl) (λ x y. refl) (λ w. (refl, refl))

pub right_cleared : {n : ℕ} {k : Account} {p : Pool} → Right n k p → Right n (after n clear k) (cleared p)
unfolding cleared
right_cleared {n} {k} h =
    rw (h.count, h.limits) (empty_right n (after n clear k) (λ x. refl) (λ s. refl) (λ x y. refl) (λ w. (refl, refl)))
