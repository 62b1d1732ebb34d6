-- A flood fill along any relation r that is bounded by n, from any set f: what was found, and what of it is still to be looked at.
-- Assumes nothing.
use mathlib.Core.Path.{◌≡◌, refl, sym, ap, ap₂, ◌∙◌}
use mathlib.Core.Bool.{Bool, true, false, not, ◌&&◌, ◌||◌, and-true, and-false, or-false, or-true}
use mathlib.Core.Logic.{⊎_elim}
use Prim.Native.Nat.{ℕ, ◌<◌}
use lib.Dec.{eqb, ltb}
use borrow.Author.Tests.{eq-eqb, eqb-true, ltb-true, lt-ltb}
use Rattle.lists.proofs.Bools.{clash, and_both, or_either, is_false, true_together}
use Rattle.ways.specs.Ways.{Bounded}
use Rattle.pool_clusters.proofs.Reached.{reached, reached_seed, reached_on, reached_closed}

pub record Flooding (r : ℕ → ℕ → Bool) (n : ℕ) (f found todo : ℕ → Bool) : Type 0 where
  pub some : (i : ℕ) → found i ≡ true → reached r n f i ≡ true
  pub below : (i : ℕ) → found i ≡ true → i < n
  pub seeds : (i : ℕ) → i < n → f i ≡ true → found i ≡ true
  pub known : (i : ℕ) → todo i ≡ true → found i ≡ true
  pub closed : (i j : ℕ) → found i ≡ true → todo i ≡ false → r i j ≡ true → found j ≡ true

-- the set itself is to be looked at
pub flood_start : (r : ℕ → ℕ → Bool) (n : ℕ) (f found : ℕ → Bool) → ((i : ℕ) → found i ≡ (ltb i n && f i)) → Flooding r n f found found
flood_start r n f found e =
    record {
      some = λ i h. let both = and_both (ltb i n) (f i) (sym (e i) ∙ h) in reached_seed r n f i (ltb-true i n both.0) both.1;
      below = λ i h. ltb-true i n (and_both (ltb i n) (f i) (sym (e i) ∙ h)).0;
      seeds = λ i l h. e i ∙ ap₂ ◌&&◌ (lt-ltb i n l) h;
      known = λ i h. h;
      closed = λ i j h t s. clash h t;
    }

-- a number a was looked at: what it has a step to is found, and what of that is new is to be looked at
module _
    {r : ℕ → ℕ → Bool}
    {n : ℕ}
    {f found todo : ℕ → Bool}
    (bound : Bounded r n)
    (h : Flooding r n f found todo)
    (a : ℕ)
    (here : todo a ≡ true)
    {found' todo' : ℕ → Bool}
    (grown : (i : ℕ) → found' i ≡ (found i || r a i))
    (left : (i : ℕ) → todo' i ≡ ((todo i && not (eqb i a)) || (r a i && not (found i)))) where
  keeps : (i : ℕ) → found i ≡ true → found' i ≡ true
  keeps i m = grown i ∙ ap (λ (b : Bool). b || r a i) m

  adds : (i : ℕ) → r a i ≡ true → found' i ≡ true
  adds i m = grown i ∙ ap (λ (b : Bool). found i || b) m ∙ or-true (found i)

  -- what was found is still to be looked at exactly where it was before, and is not a
  old : (i : ℕ) → found i ≡ true → todo' i ≡ (todo i && not (eqb i a))
  old i m =
      left i
      ∙ ap (λ (b : Bool). (todo i && not (eqb i a)) || (r a i && not b)) m
      ∙ ap (λ (b : Bool). (todo i && not (eqb i a)) || b) (and-false (r a i)) ∙ or-false (todo i && not (eqb i a))

  -- what was not found is so exactly where it was found now
  new : (i : ℕ) → found i ≡ false → todo' i ≡ r a i
  new i m =
      let out : todo i ≡ false = is_false (todo i) (λ e. clash (h.known i e) m) in
      left i ∙ ap₂ (λ (b c : Bool). (b && not (eqb i a)) || (r a i && not c)) out m ∙ and-true (r a i)

  pub flood_turn : Flooding r n f found' todo'
  flood_turn =
      record {
        some = λ i m. ⊎_elim (h.some i) (reached_on bound f a i (h.some a (h.known a here))) (or_either (found i) (r a i) (sym (grown i) ∙ m));
        below = λ i m. ⊎_elim (h.below i) (bound.to a i) (or_either (found i) (r a i) (sym (grown i) ∙ m));
        seeds = λ i l m. keeps i (h.seeds i l m);
        known = λ i m.
            ⊎_elim
            (λ t. keeps i (h.known i (and_both (todo i) (not (eqb i a)) t).0))
            (λ t. adds i (and_both (r a i) (not (found i)) t).0)
            (or_either (todo i && not (eqb i a)) (r a i && not (found i)) (sym (left i) ∙ m));
        closed = λ i j m t s. was i j m t s (found i) refl;
      }
    where
      was : (i j : ℕ) → found' i ≡ true → todo' i ≡ false → r i j ≡ true → (b : Bool) → found i ≡ b → found' j ≡ true
      was i j m t s false e = clash (new i e ∙ sym (ap (λ (b : Bool). b || r a i) e) ∙ sym (grown i) ∙ m) t
      was i j m t s true e = at (todo i) refl (eqb i a) refl
        where
          at : (b : Bool) → todo i ≡ b → (c : Bool) → eqb i a ≡ c → found' j ≡ true
          at b tb true ec = adds j (ap (λ (x : ℕ). r x j) (sym (eqb-true i a ec)) ∙ s)
          at true tb false ec = clash (old i e ∙ ap₂ (λ (x y : Bool). x && not y) tb ec) t
          at false tb false ec = keeps j (h.closed i j e tb s)

  -- one more was looked at
  pub done_turn : (i : ℕ) → (found i && not (todo i)) ≡ ((found' i && not (todo' i)) && not (eqb i a))
  done_turn i = go (found i) refl
    where
      go : (b : Bool) → found i ≡ b → (b && not (todo i)) ≡ ((found' i && not (todo' i)) && not (eqb i a))
      go true e =
          sym
          (ap₂ (λ (x y : Bool). (x && not y) && not (eqb i a)) (keeps i e) (old i e)
          ∙ same (todo i) (eqb i a) (λ z. ap todo (eqb-true i a z) ∙ here))
        where
          same : (t c : Bool) → (c ≡ true → t ≡ true) → (not (t && not c) && not c) ≡ not t
          same true true k = refl
          same true false k = refl
          same false true k = clash (k refl) refl
          same false false k = refl
      go false e =
          sym
          (ap₂ (λ (x y : Bool). (x && not y) && not (eqb i a)) (grown i ∙ ap (λ (b : Bool). b || r a i) e) (new i e)
          ∙ never (r a i) (not (eqb i a)))
        where
          never : (x y : Bool) → ((x && not x) && y) ≡ false
          never true y = refl
          never false y = refl

  pub done_here : (found' a && not (todo' a)) ≡ true
  done_here =
      let m = h.known a here in
      ap₂ (λ (x y : Bool). x && not y) (keeps a m) (old a m ∙ ap (λ (b : Bool). todo a && not b) (eq-eqb a a refl) ∙ and-false (todo a))

-- nothing is left: all is found
pub flood_done : {r : ℕ → ℕ → Bool} {n : ℕ} {f found todo : ℕ → Bool} → Flooding r n f found todo → ((i : ℕ) → todo i ≡ false)
    → (i : ℕ) → found i ≡ reached r n f i
flood_done {r} {n} {f} {found} {todo} h none i =
    true_together (found i) (reached r n f i)
    (h.some i)
    (reached_closed r n f found h.seeds (λ x y m s. h.closed x y m (none x) s) i)
