-- The members of a chunk put out one after the other: `left` are those that are not out yet. Assumes nothing.
use mathlib.Core.Path.{◌≡◌, refl, sym, ap, ap₂, ◌∙◌, subst}
use mathlib.Core.Bool.{Bool, true, false, not, ◌&&◌, ◌||◌, and_assoc, and-eq-true_iff}
use mathlib.Core.List.{List, [], ◌∷◌, ◌++◌, append-nil}
use Prim.Native.Nat.{ℕ, zero, suc, ◌+◌, ◌≤◌, ◌<◌}
use native.Mathlib.Omega.{arith}
use lib.Dec.{eqb, ltb}
use lib.IntN.{ℤ}
use lib.ListN.{length, set, length-append, length-set}
use borrow.Author.Tests.{eqb-true, not-true}
use mathlib.Core.Logic.{⊎_elim}
use Rattle.feefrac.specs.Rate.{rate_at}
use Rattle.txset.specs.declared.TxSet.{TxSet}
use Rattle.lists.specs.Below.{list_from}
use Rattle.lists.specs.Lists.{elem, only}
use Rattle.txset.specs.Sets.{positions, is_position, mem, members, size, is_empty, mem_at}
use Rattle.lists.proofs.Ranges.{list_below}
use Rattle.lists.proofs.Lists.{elem_snoc, written_next}
use Rattle.lists.proofs.Bools.{clash, without_or, or_either}
use Rattle.txset.proofs.Sets.{mem_position, size_without, position_and, size_most, size_more, size_in}
use Rattle.txset.proofs.Walk.{walk_done}
use Rattle.feeset.specs.Scan.{best, ranks_above}
use Rattle.output_order.specs.Output.{member_ready, inside}
use Rattle.output_order.specs.Steps.{All}
use Rattle.output_order.specs.Rounds.{freed, member_of, Within, Standing, Placed, Put}
use Rattle.output_order.proofs.Choices.{only_list, best_mem}
use Rattle.output_order.proofs.Ready.{freed_ready}

-- ---- the definition, by what is chosen

-- the member that goes next
abbrev next_member : List ℤ → List ℕ → ℕ → (ℕ → ℕ → Bool) → List ℕ → List ℕ → List ℕ
next_member fs ss n anc c out = best (ranks_above (rate_at fs ss)) (list_from (λ t. (elem t c && not (elem t out)) && member_ready n anc out t) n 0)

module _ (fs : List ℤ) (ss : List ℕ) (n : ℕ) (anc : ℕ → ℕ → Bool) (c out : List ℕ) where
  inside_step : (k : ℕ) (ts : List ℕ) → next_member fs ss n anc c out ≡ ts → inside fs ss n anc c (suc k) out ≡ inside fs ss n anc c k (out ++ ts)
  unfolding inside
  inside_step k ts e = ap (λ (l : List ℕ). inside fs ss n anc c k (out ++ l)) e

  -- where none is ready the rounds that are left add nothing
  inside_stop : (k : ℕ) → next_member fs ss n anc c out ≡ [] → inside fs ss n anc c k out ≡ out
  unfolding inside
  inside_stop zero e = refl
  inside_stop (suc k) e = inside_step k [] e ∙ ap (inside fs ss n anc c k) (append-nil out) ∙ inside_stop k e

-- ---- a room whose start is written

-- one more at the next place
pub placed_more : {out : List ℕ} {done : TxSet} {len : ℕ} {old room : List ℕ} (next : TxSet) (t : ℕ) → Placed out done len old room → len < length room
    → ((i : ℕ) → mem next i ≡ (mem done i || eqb i t)) → Placed (out ++ (t ∷ [])) next (len + 1) old (set room len t)
placed_more {out} {done} {len} {old} {room} next t p l h = record {
  member = λ i. h i ∙ ap (λ (b : Bool). b || eqb i t) (p.member i) ∙ sym (elem_snoc i t out);
  count = rw length-append (omega (arith, p.count));
  are = ap (λ (s : List ℕ). set s len t) p.are ∙ written_next out old len t (sym p.count) (omega (arith, p.long));
  long = length-set room len t ∙ p.long;
}

-- one more is done
module _ {n : ℕ} {done : TxSet} {len : ℕ} {room : List ℕ} (next : TxSet) (t : ℕ) (few : n ≤ positions) (h : Standing n done len room) (small : t < n)
    (new : mem done t ≡ false) (more : (i : ℕ) → mem next i ≡ (mem done i || eqb i t)) where
  pub standing_more : Standing n next (len + 1) (set room len t)
  standing_more = record {
    below = λ i e. ⊎_elim (h.below i) (λ z. omega (arith, eqb-true i t z)) (or_either (mem done i) (eqb i t) (sym (more i) ∙ e));
    count = omega (arith, h.count, size_more done next t new more);
    place = rw length-set h.place;
  }

  -- there is a place for it
  pub standing_room : len < length room
  standing_room = omega (arith, h.place, standing_more.count, size_most next n few standing_more.below)

-- ---- whose ancestors are left or done

-- what is left of a chunk
pub within_start : {ancestors : List ℕ} {all chunk done left : TxSet} → ((i : ℕ) → mem left i ≡ (mem chunk i && not (mem done i)))
    → Within ancestors all chunk done → Within ancestors all left done
within_start {chunk = chunk} {done} {left} without w = record {
  either = λ t a l x y.
      ap (λ (b : Bool). b || mem done a) (without a)
      ∙ rest (mem chunk a) (mem done a) (w.either t a ((and-eq-true_iff (mem chunk t) (not (mem done t))).0 (sym (without t) ∙ l)).0 x y);
}
  where
    rest : (c d : Bool) → (c || d) ≡ true → (c && not d || d) ≡ true
    rest true true e = refl
    rest true false e = refl
    rest false d e = e

-- one goes from left to done
moved : (l d e : Bool) → (l || d) ≡ true → (l && not e || (d || e)) ≡ true
moved true d false h = refl
moved true true true h = refl
moved true false true h = refl
moved false true e h = refl
moved false false e h = clash h refl

-- ---- the loop

-- `left` are the members of the chunk c that are not out
abbrev pub Rest : ℕ → List ℕ → List ℕ → TxSet → Type 0
Rest n c out left = (i : ℕ) → mem left i ≡ (ltb i n && (elem i c && not (elem i out)))

-- on the way from `out₀` to the end of the chunk: what is out, and how many rounds are left
pub record Going (fs : List ℤ) (ss : List ℕ) (n : ℕ) (ancestors c out₀ old room : List ℕ) (done : TxSet) (len : ℕ) (left : TxSet) : Type 0 where
  pub out : List ℕ
  pub rounds : ℕ
  pub placed : Placed out done len old room
  pub rest : Rest n c out left
  pub enough : size left ≤ rounds
  pub same : inside fs ss n (mem_at ancestors) c rounds out ≡ inside fs ss n (mem_at ancestors) c (length c) out₀

pub record Putting (fs : List ℤ) (ss : List ℕ) (n : ℕ) (ancestors room₀ : List ℕ) (done₀ : TxSet) (len₀ : ℕ) (left₀ : TxSet)
    (room : List ℕ) (done : TxSet) (len : ℕ) (left : TxSet) : Type 0 where
  pub stands : Standing n done len room
  pub long : length room ≡ length room₀
  pub fresh : (i : ℕ) → mem left i ≡ true → (i < n) × (mem done i ≡ false)
  pub puts : (c out₀ old : List ℕ) → Rest n c out₀ left₀ → Placed out₀ done₀ len₀ old room₀ → Going fs ss n ancestors c out₀ old room done len left

module _ (fs : List ℤ) (ss : List ℕ) (n : ℕ) (ancestors room : List ℕ) (chunk done : TxSet) (len : ℕ) (left : TxSet)
    (small : (i : ℕ) → mem chunk i ≡ true → i < n) (without : (i : ℕ) → mem left i ≡ (mem chunk i && not (mem done i))) where
  pub putting_start : Standing n done len room → Putting fs ss n ancestors room done len left room done len left
  putting_start h = record {
    stands = h;
    long = refl;
    fresh = λ i e.
        let parts = (and-eq-true_iff (mem chunk i) (not (mem done i))).0 (sym (without i) ∙ e) in
        (small i parts.0, not-true (mem done i) parts.1);
    puts = λ c out₀ old r p. record {
      out = out₀;
      rounds = length c;
      placed = p;
      rest = r;
      enough = size_in left c (λ i e.
          let parts = (and-eq-true_iff (ltb i n) (elem i c && not (elem i out₀))).0 (sym (r i) ∙ e) in
          ((and-eq-true_iff (elem i c) (not (elem i out₀))).0 parts.1).0);
      same = refl;
    };
  }

module _ {fs : List ℤ} {ss : List ℕ} {n : ℕ} {ancestors room₀ : List ℕ} {done₀ : TxSet} {len₀ : ℕ} {left₀ : TxSet}
    {room : List ℕ} {done : TxSet} {len : ℕ} {left : TxSet} {all : TxSet} (p : Putting fs ss n ancestors room₀ done₀ len₀ left₀ room done len left) (h : All n all) where
  -- what is chosen is what the definition takes
  chosen_member : (c out₀ old : List ℕ) (g : Going fs ss n ancestors c out₀ old room done len left)
      → member_of fs ss ancestors all left done ≡ next_member fs ss n (mem_at ancestors) c g.out
  unfolding members
  chosen_member c out₀ old g =
      ap (best (ranks_above (rate_at fs ss)))
      (only_list (freed ancestors all done) (mem left) positions 0
      ∙ list_below (λ j. mem left j && freed ancestors all done j)
      (λ t. (elem t c && not (elem t g.out)) && member_ready n (mem_at ancestors) g.out t) n positions h.few
      (λ i.
      ap₂ ◌&&◌ (g.rest i) (freed_ready n done g.out g.placed.member ancestors all i h)
      ∙ and_assoc (ltb i n) (elem i c && not (elem i g.out)) (member_ready n (mem_at ancestors) g.out i)))

  -- none is ready
  pub putting_stop : (chunk : TxSet) → ((i : ℕ) → mem left₀ i ≡ (mem chunk i && not (mem done₀ i)))
      → member_of fs ss ancestors all left done ≡ [] → Put fs ss n (mem_at ancestors) chunk done₀ len₀ room₀ done len room
  putting_stop chunk without e = record {
    stands = p.stands;
    puts = λ c out old is q.
        let g = p.puts c out old (λ i.
        without i ∙ ap₂ (λ (a b : Bool). a && not b) (is i) (q.member i) ∙ and_assoc (ltb i n) (elem i c) (not (elem i out))) q in
        subst (λ (o : List ℕ). Placed o done len old room)
        (sym (inside_stop fs ss n (mem_at ancestors) c g.out g.rounds (sym (chosen_member c out old g) ∙ e)) ∙ g.same)
        g.placed;
  }

  -- none is left
  pub putting_done : (chunk : TxSet) → ((i : ℕ) → mem left₀ i ≡ (mem chunk i && not (mem done₀ i)))
      → is_empty left ≡ true → Put fs ss n (mem_at ancestors) chunk done₀ len₀ room₀ done len room
  unfolding best only
  putting_done chunk without e =
      putting_stop chunk without (ap (λ (l : List ℕ). best (ranks_above (rate_at fs ss)) (only (freed ancestors all done) l)) (walk_done left e))

  -- t is chosen, taken from `left` and put out
  module _ (t : ℕ) (left' done' : TxSet) (is : member_of fs ss ancestors all left done ≡ t ∷ [])
      (less : (i : ℕ) → mem left' i ≡ (mem left i && not (eqb i t))) (more : (i : ℕ) → mem done' i ≡ (mem done i || (is_position i && eqb i t))) where
    in_left : mem left t ≡ true
    in_left = best_mem (ranks_above (rate_at fs ss)) (freed ancestors all done) left t is

    done_more : (i : ℕ) → mem done' i ≡ (mem done i || eqb i t)
    done_more i = more i ∙ ap (λ (b : Bool). mem done i || b) (position_and i (eqb i t) (λ e. omega (arith, eqb-true i t e, mem_position left t in_left)))

    pub putting_less : size left' < size left
    putting_less = omega (arith, size_without left left' t in_left less)

    pub putting_within : Within ancestors all left done → Within ancestors all left' done'
    putting_within w = record {
      either = λ i a l x y.
          ap₂ ◌||◌ (less a) (done_more a)
          ∙ moved (mem left a) (mem done a) (eqb a t)
          (w.either i a ((and-eq-true_iff (mem left i) (not (eqb i t))).0 (sym (less i) ∙ l)).0 x y);
    }

    pub putting_room : len < length room
    putting_room = standing_room done' t h.few p.stands (p.fresh t in_left).0 (p.fresh t in_left).1 done_more

    going_turn : (c out₀ old : List ℕ) → (g : Going fs ss n ancestors c out₀ old room done len left)
        → Going fs ss n ancestors c out₀ old (set room len t) done' (len + 1) left'
    going_turn c out₀ old g = go g.rounds g.enough g.same
      where
        group : (a b d e : Bool) → ((a && (b && not d)) && not e) ≡ (a && (b && not (d || e)))
        group a b d e = and_assoc a (b && not d) (not e) ∙ ap (λ (c : Bool). a && c) (without_or b d e)

        go : (k : ℕ) → size left ≤ k → inside fs ss n (mem_at ancestors) c k g.out ≡ inside fs ss n (mem_at ancestors) c (length c) out₀
            → Going fs ss n ancestors c out₀ old (set room len t) done' (len + 1) left'
        go zero l e = absurd (omega (arith, putting_less))
        go (suc k) l e = record {
          out = g.out ++ (t ∷ []);
          rounds = k;
          placed = placed_more done' t g.placed putting_room done_more;
          rest = λ i.
              less i
              ∙ ap (λ (b : Bool). b && not (eqb i t)) (g.rest i)
              ∙ group (ltb i n) (elem i c) (elem i g.out) (eqb i t)
              ∙ sym (ap (λ (b : Bool). ltb i n && (elem i c && not b)) (elem_snoc i t g.out));
          enough = omega (arith, putting_less);
          same = sym (inside_step fs ss n (mem_at ancestors) c g.out k (t ∷ []) (sym (chosen_member c out₀ old g) ∙ is)) ∙ e;
        }

    pub putting_turn : Putting fs ss n ancestors room₀ done₀ len₀ left₀ (set room len t) done' (len + 1) left'
    putting_turn = record {
      stands = standing_more done' t h.few p.stands (p.fresh t in_left).0 (p.fresh t in_left).1 done_more;
      long = length-set room len t ∙ p.long;
      fresh = λ i e.
          let parts = (and-eq-true_iff (mem left i) (not (eqb i t))).0 (sym (less i) ∙ e) in
          let was = p.fresh i parts.0 in
          (was.0, done_more i ∙ ap₂ ◌||◌ was.1 (not-true (eqb i t) parts.1));
      puts = λ c out₀ old r q. going_turn c out₀ old (p.puts c out₀ old r q);
    }
