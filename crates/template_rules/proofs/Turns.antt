-- Laws of `each_in_turn` (specs/Filling.antt), whatever is done for each, and of a list that starts as another. Assumes nothing.
use mathlib.Core.Path.{◌≡◌, refl, sym, ap, ◌∙◌}
use mathlib.Core.Bool.{Bool, true, false≢true}
use mathlib.Core.Logic.{◌⊎◌, inl, inr, ⊎_elim}
use mathlib.Core.List.{List, [], ◌∷◌, ◌++◌, append-nil, append_assoc}
use Prim.Native.Nat.{ℕ, ◌≤◌}
use native.Mathlib.Omega.{arith}
use lib.ListN.{length, drop, length-append}
use lib.Seq.{drop-append_seam}
use Rattle.lists.specs.Lists.{any_of, elem}
use Rattle.lists.proofs.Lists.{elem_head, elem_tail, elem_left, in_cons}
use Rattle.template_rules.specs.Filling.{each_in_turn}

-- ---- a list that starts as another

-- nothing of `out` is changed: more stands behind it
pub record Starts (out new : List ℕ) : Type 0 where
  pub more : List ℕ
  pub whole : new ≡ out ++ more

pub starts_itself : (out : List ℕ) → Starts out out
starts_itself out = record { more = []; whole = sym (append-nil out) }

pub starts_trans : {a b c : List ℕ} → Starts a b → Starts b c → Starts a c
starts_trans {a} p q =
    record { more = p.more ++ q.more; whole = q.whole ∙ ap (λ (l : List ℕ). l ++ q.more) p.whole ∙ append_assoc a p.more q.more }

module _ {out new : List ℕ} (p : Starts out new) where
  pub starts_drop : drop (length out) new ≡ p.more
  starts_drop = ap (drop (length out)) p.whole ∙ drop-append_seam out p.more

  -- what stands behind it is the rest
  pub starts_rest : new ≡ out ++ drop (length out) new
  starts_rest = p.whole ∙ ap (λ (l : List ℕ). out ++ l) (sym starts_drop)

  pub starts_length : length out ≤ length new
  starts_length = omega (arith, ap length p.whole, length-append out p.more)

  pub starts_elem : (x : ℕ) → elem x out ≡ true → elem x new ≡ true
  starts_elem x m = ap (elem x) p.whole ∙ elem_left x out p.more m

-- ---- one after the other

module _ (f : List ℕ → ℕ → List ℕ) where
  -- what each keeps, all keep
  pub turns_keep : (P : List ℕ → Type 0) (ss : List ℕ) → ((out : List ℕ) (s : ℕ) → elem s ss ≡ true → P out → P (f out s))
      → (out : List ℕ) → P out → P (each_in_turn f out ss)
  unfolding each_in_turn
  turns_keep P [] h out q = q
  turns_keep P (s ∷ ss) h out q =
      turns_keep P ss (λ o x m. h o x (elem_tail x s ss m)) (f out s) (h out s (elem_head s ss) q)

  pub turns_starts : ((out : List ℕ) (s : ℕ) → Starts out (f out s)) → (ss out : List ℕ) → Starts out (each_in_turn f out ss)
  turns_starts h ss out = turns_keep (Starts out) ss (λ o s _ q. starts_trans q (h o s)) out (starts_itself out)

  -- each is there at the end, where its own turn writes it and nothing is lost
  pub turns_in : ((out : List ℕ) (s : ℕ) → Starts out (f out s)) → (ss : List ℕ)
      → ((out : List ℕ) (s : ℕ) → elem s ss ≡ true → elem s (f out s) ≡ true) → (out : List ℕ) (x : ℕ) → elem x ss ≡ true
      → elem x (each_in_turn f out ss) ≡ true
  unfolding each_in_turn elem any_of
  turns_in h [] w out x m = absurd (false≢true m)
  turns_in h (s ∷ ss) w out x m =
      ⊎_elim
      (λ e. starts_elem (turns_starts h ss (f out s)) x (rw e (w out s (elem_head s ss))))
      (λ n. turns_in h ss (λ o y k. w o y (elem_tail y s ss k)) (f out s) x n)
      (in_cons x s ss m)

  -- what is there at the end was there, or came with one of them
  pub turns_from : (r : ℕ → ℕ → Bool) → ((out : List ℕ) (s x : ℕ) → elem x (f out s) ≡ true → (elem x out ≡ true) ⊎ (r s x ≡ true))
      → (ss out : List ℕ) (x : ℕ) → elem x (each_in_turn f out ss) ≡ true
      → (elem x out ≡ true) ⊎ ((s : ℕ) × (elem s ss ≡ true) × (r s x ≡ true))
  unfolding each_in_turn
  turns_from r h [] out x m = inl m
  turns_from r h (s ∷ ss) out x m =
      ⊎_elim
      (λ n. ⊎_elim inl (λ e. inr (s, elem_head s ss, e)) (h out s x n))
      (λ t. inr (t.0, elem_tail t.0 s ss t.1, t.2))
      (turns_from r h ss (f out s) x m)

  -- what is the same for each is the same for all
  pub turns_same : (g : List ℕ → ℕ → List ℕ) (ss : List ℕ) → ((out : List ℕ) (s : ℕ) → elem s ss ≡ true → f out s ≡ g out s)
      → (out : List ℕ) → each_in_turn f out ss ≡ each_in_turn g out ss
  unfolding each_in_turn
  turns_same g [] h out = refl
  turns_same g (s ∷ ss) h out =
      turns_same g ss (λ o x m. h o x (elem_tail x s ss m)) (f out s) ∙ ap (λ (o : List ℕ). each_in_turn g o ss) (h out s (elem_head s ss))

  -- first some, then the others
  pub turns_append : (ss ts out : List ℕ) → each_in_turn f out (ss ++ ts) ≡ each_in_turn f (each_in_turn f out ss) ts
  unfolding each_in_turn
  turns_append [] ts out = refl
  turns_append (s ∷ ss) ts out = turns_append ss ts (f out s)
