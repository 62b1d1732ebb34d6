-- The rounds of specs/Candidates.antt as the code runs them. Assumes nothing.
use mathlib.Core.Path.{◌≡◌, refl, sym, ap, ap₂, ◌∙◌}
use mathlib.Core.Logic.{⊎_elim}
use mathlib.Core.Bool.{Bool, true, false, not, ◌&&◌, ◌||◌, and-true, and-false, and_comm, and_assoc}
use mathlib.Core.List.{List, [], ◌∷◌, ◌++◌, append_assoc, append-nil}
use Prim.Native.Nat.{ℕ, zero, suc, ◌+◌, ◌-◌, ◌≤◌, ◌<◌}
use native.Mathlib.Omega.{arith}
use lib.Dec.{ltb, leb}
use lib.IntN.{ℤ}
use lib.ListN.{length, take, drop, get_or, length-append}
use lib.Seq.{take_at, drop_at, drop-append-add, drop-drop}
use borrow.Author.Tests.{ltb-true, leb-true, lt-leb, le-leb}
use Rattle.feefrac.specs.declared.FeeFrac.{FeeFrac}
use Rattle.feefrac.specs.Rate.{rank_order, is_greater}
use Rattle.txset.specs.declared.TxSet.{TxSet}
use Rattle.lists.specs.Below.{bit, count_from, list_from}
use Rattle.lists.specs.Lists.{elem, any_of, overwrite}
use Rattle.txset.specs.Sets.{positions, is_position, mem, members, size, is_empty, lowest_of, set_at, mem_at}
use Rattle.txset.proofs.Sets.{members_elem, size_members, full_mem, size_most, empty_mem}
use Rattle.txset.proofs.Walk.{walk_done, lowest_mem, size_empty}
use Rattle.feeset.specs.Total.{total}
use Rattle.feeset.specs.Scan.{best, ranks_above}
use Rattle.candidates.specs.Candidates.{given_back, ancestor_sum, remaining, candidate, remaining_ancestors, fewer_ancestors}
use Rattle.candidates.specs.Candidates.{append_ancestors, append_for, rounds, ancestor_order, fits, written, filled}
use Rattle.candidates.specs.Steps.{ancestor_in, sum_at, Places, HeldBelow, Resumes, Counted, fewer_by, sorted, GaveBack, ChangedOnly, Appended}
use Rattle.lists.proofs.Bools.{clash, and_left, and_right, or_left, or_right, or_either, is_false}
use Rattle.lists.proofs.Below.{elem_below}
use Rattle.lists.proofs.Lists.{without_append}
use Rattle.lists.proofs.Ranges.{list_below, count_below, count_parts}
use Rattle.feeset.proofs.Scan.{best_ext}
use Rattle.candidates.proofs.Sums.{back_append}
use Rattle.candidates.proofs.Resuming.{lowest_first, resumes_first, resumes_on}

-- all members are out: nothing more is taken
pub rounds_none : (fs : List ℤ) (ss : List ℕ) (n : ℕ) (anc desc : ℕ → ℕ → Bool) (k : ℕ) (out : List ℕ) → remaining n out ≡ []
    → rounds fs ss n anc desc k out ≡ out
unfolding rounds candidate append_for best
rounds_none fs ss n anc desc zero out e = refl
rounds_none fs ss n anc desc (suc k) out e =
    ap (λ (l : List ℕ). rounds fs ss n anc desc k (append_for n anc out (best (ranks_above (ancestor_sum fs ss n anc desc out)) l))) e
    ∙ rounds_none fs ss n anc desc k out e

-- a round that takes nothing: so do all
rounds_stuck : (fs : List ℤ) (ss : List ℕ) (n : ℕ) (anc desc : ℕ → ℕ → Bool) (k : ℕ) (out : List ℕ)
    → append_for n anc out (candidate fs ss n anc desc out) ≡ out → rounds fs ss n anc desc k out ≡ out
unfolding rounds
rounds_stuck fs ss n anc desc zero out e = refl
rounds_stuck fs ss n anc desc (suc k) out e = ap (rounds fs ss n anc desc k) e ∙ rounds_stuck fs ss n anc desc k out e

-- the members are the first n positions, and the sets are given by words
module _ (ws : List ℕ) (n : ℕ) (few : n ≤ positions) (all : TxSet) (full : (i : ℕ) → mem all i ≡ (is_position i && ltb i n)) where
  -- a member
  pub all_mem : (i : ℕ) → mem all i ≡ ltb i n
  all_mem = full_mem n all few full

  -- an ancestor
  in_all : (i a : ℕ) → ancestor_in ws all i a ≡ (ltb a n && mem_at ws i a)
  unfolding ancestor_in
  in_all i a = ap (λ (b : Bool). mem_at ws i a && b) (all_mem a) ∙ and_comm (mem_at ws i a) (ltb a n)

  -- the ancestors that the code counts
  pub ancestors_below : (i : ℕ) → list_from (ancestor_in ws all i) positions 0 ≡ list_from (mem_at ws i) n 0
  ancestors_below i = list_below (ancestor_in ws all i) (mem_at ws i) n positions few (in_all i)

  -- its counts are those of the definition
  pub fewer_below : (counts : List ℕ) → Counted ws all n counts → (x y : ℕ) → x < n → y < n → fewer_by counts x y ≡ fewer_ancestors n (mem_at ws) x y
  unfolding fewer_by fewer_ancestors
  fewer_below counts is x y p q = ap₂ ltb (counted x p) (counted y q)
    where
      counted : (i : ℕ) → i < n → get_or counts i 0 ≡ count_from (mem_at ws i) n 0
      counted i l = is.each i l ∙ count_below (ancestor_in ws all i) (mem_at ws i) n positions few (in_all i)

  -- there are no more than n
  pub size_all : size all ≤ n
  size_all = size_most all n few (λ i e. ltb-true i n (sym (all_mem i) ∙ e))

-- the loop of `ancestor_order`: `out` are out, in their order, at the start of `order`, and `todo` are left
pub record Taking
    (fs : List ℤ)
    (ss ws ds : List ℕ)
    (n : ℕ)
    (room order : List ℕ)
    (present : List FeeFrac)
    (held : List ℕ)
    (todo : TxSet)
    (from len : ℕ) : Type 0 where
  pub out : List ℕ
  pub round : ℕ
  pub goes : rounds fs ss n (mem_at ws) (mem_at ds) (n - round) out ≡ rounds fs ss n (mem_at ws) (mem_at ds) n []
  pub upto : round + size todo ≤ n
  pub count : len ≡ length out
  pub sum : len + size todo ≤ n
  pub left : (i : ℕ) → mem todo i ≡ (ltb i n && not (elem i out))
  pub sums : (i : ℕ) → mem todo i ≡ true → sum_at present i ≡ ancestor_sum fs ss n (mem_at ws) (mem_at ds) out i
  pub starts : is_empty todo ≡ false → from < n
  pub resumes : Resumes (ranks_above (sum_at present)) todo held from
  pub are : order ≡ out ++ drop len room
  pub long : length order ≡ length room

module _
    (fs : List ℤ)
    (ss ws ds : List ℕ)
    (n : ℕ)
    (few : n ≤ positions)
    (all : TxSet)
    (full : (i : ℕ) → mem all i ≡ (is_position i && ltb i n))
    (counts : List ℕ)
    (counted : Counted ws all n counts)
    (room : List ℕ) where
  -- at first nothing is out
  pub take_start : (present : List FeeFrac) (held : List ℕ)
      → ((i : ℕ) → i < n → sum_at present i ≡ total fs ss (list_from (ancestor_in ws all i) positions 0))
      → Taking fs ss ws ds n room room present held all 0 0
  unfolding ancestor_sum given_back elem any_of
  take_start present held e = record {
    out = [];
    round = 0;
    goes = ap (λ (k : ℕ). rounds fs ss n (mem_at ws) (mem_at ds) k []) (omega arith);
    upto = omega (arith, size_all ws n few all full);
    count = refl;
    sum = omega (arith, size_all ws n few all full);
    left = λ i. all_mem ws n few all full i ∙ sym (and-true (ltb i n));
    sums = λ i m. e i (ltb-true i n (sym (all_mem ws n few all full i) ∙ m)) ∙ ap (total fs ss) (ancestors_below ws n few all full i);
    starts = λ m. let l = ltb-true (lowest_of all) n (sym (all_mem ws n few all full (lowest_of all)) ∙ lowest_mem all m) in omega arith;
    resumes = resumes_first (ranks_above (sum_at present)) all held;
    are = refl;
    long = refl;
  }

  module _
      (order : List ℕ)
      (present : List FeeFrac)
      (old : List ℕ)
      (todo : TxSet)
      (from len : ℕ)
      (h : Taking fs ss ws ds n room order present old todo from len) where
    -- what is left has its places
    pub todo_places : (m : ℕ) → n ≤ m → Places todo m
    todo_places m l i e = let b = ltb-true i n (and_left (ltb i n) (not (elem i h.out)) (sym (h.left i) ∙ e)) in omega arith

    -- what is left is what remains
    todo_members : members todo ≡ remaining n h.out
    unfolding members remaining
    todo_members = list_below (mem todo) (λ i. not (elem i h.out)) n positions few h.left

    -- when nothing is left, all that is to be taken is out
    pub take_empty : is_empty todo ≡ true → h.out ≡ rounds fs ss n (mem_at ws) (mem_at ds) n []
    take_empty e = sym (rounds_none fs ss n (mem_at ws) (mem_at ds) (n - h.round) h.out (sym todo_members ∙ walk_done todo e)) ∙ h.goes

    -- the candidate of the definition is that of the code
    candidate_is : candidate fs ss n (mem_at ws) (mem_at ds) h.out ≡ best (ranks_above (sum_at present)) (members todo)
    unfolding candidate ranks_above
    candidate_is =
        ap (best (ranks_above (ancestor_sum fs ss n (mem_at ws) (mem_at ds) h.out))) (sym todo_members)
        ∙ best_ext _ _ (members todo) (λ x y p q. ap₂ (λ (a b : FeeFrac). is_greater (rank_order a b)) (sym (sum_of x p)) (sym (sum_of y q)))
      where
        sum_of : (x : ℕ) → elem x (members todo) ≡ true → sum_at present x ≡ ancestor_sum fs ss n (mem_at ws) (mem_at ds) h.out x
        sum_of x p = h.sums x (sym (members_elem todo x) ∙ p)

    -- t is taken: `at` is its set, `some` its ancestors that are left, and `rest` what is left without them
    module _
        (t : ℕ)
        (at some rest : TxSet)
        (best-is : best (ranks_above (sum_at present)) (members todo) ≡ t ∷ [])
        (at-is : at ≡ set_at ws t)
        (shared : (i : ℕ) → mem some i ≡ (mem at i && mem todo i))
        (without : (i : ℕ) → mem rest i ≡ (mem todo i && not (mem some i))) where
      -- the ones of `some` that are not in `gone` are the ancestors that are not out
      some_left : (gone : List ℕ) (a : ℕ) → (mem some a && not (elem a gone)) ≡ (ltb a n && (mem_at ws t a && not (elem a (h.out ++ gone))))
      some_left gone a =
          ap (λ (b : Bool). b && not (elem a gone)) (shared a ∙ ap₂ ◌&&◌ (ap (λ (s : TxSet). mem s a) at-is) (h.left a))
          ∙ rw (← and_assoc (mem_at ws t a) (ltb a n) (not (elem a h.out)), and_comm (mem_at ws t a) (ltb a n))
          (rw (and_assoc (ltb a n) (mem_at ws t a) (not (elem a h.out)), and_assoc (ltb a n) (mem_at ws t a && not (elem a h.out)) (not (elem a gone)))
          (ap (λ (b : Bool). ltb a n && b) (without_append (mem_at ws t a) a h.out gone)))

      -- they are members
      member : (gone : List ℕ) (x : ℕ) → elem x (list_from (λ a. mem some a && not (elem a gone)) positions 0) ≡ true → x < n
      member gone x e =
          ltb-true x n
          (and_left (ltb x n) (mem_at ws t x && not (elem x (h.out ++ gone)))
          (sym (some_left gone x) ∙ (elem_below (λ a. mem some a && not (elem a gone)) positions x e).1))

      -- appending them one by one is appending them after what is out
      appends : (k : ℕ) (gone : List ℕ)
          → append_ancestors n (mem_at ws) t k (h.out ++ gone) ≡ h.out ++ sorted (fewer_by counts) (mem some) k gone
      unfolding append_ancestors sorted remaining_ancestors
      appends zero gone = refl
      appends (suc k) gone =
          let left = list_from (λ a. mem some a && not (elem a gone)) positions 0 in
          let e : best (fewer_ancestors n (mem_at ws)) (remaining_ancestors n (mem_at ws) t (h.out ++ gone)) ≡ best (fewer_by counts) left =
          ap (best (fewer_ancestors n (mem_at ws))) (sym (list_below _ _ n positions few (some_left gone)))
          ∙ best_ext _ _ left (λ x y p q. sym (fewer_below ws n few all full counts counted x y (member gone x p) (member gone y q))) in
          ap (append_ancestors n (mem_at ws) t k)
          (append_assoc h.out gone _ ∙ ap (λ (l : List ℕ). h.out ++ (gone ++ l)) e)
          ∙ appends k (gone ++ best (fewer_by counts) left)

      some_members : members some ≡ remaining_ancestors n (mem_at ws) t h.out
      unfolding members remaining_ancestors elem any_of
      some_members =
          list_below (mem some) (λ a. mem_at ws t a && not (elem a h.out)) n positions few
          (λ a.
          sym (and-true (mem some a)) ∙ some_left [] a
          ∙ ap (λ (l : List ℕ). ltb a n && (mem_at ws t a && not (elem a l))) (append-nil h.out))

      -- so a round appends them
      appended : append_for n (mem_at ws) h.out (candidate fs ss n (mem_at ws) (mem_at ds) h.out) ≡ h.out ++ sorted (fewer_by counts) (mem some) (size some) []
      unfolding append_for
      appended =
          ap (append_for n (mem_at ws) h.out) (candidate_is ∙ best-is)
          ∙ ap₂ (append_ancestors n (mem_at ws) t) (sym (size_members some ∙ ap length some_members)) (sym (append-nil h.out))
          ∙ appends (size some) []

      -- the rest and they are what was left
      parts : size todo ≡ size some + size rest
      unfolding size
      parts = count_parts (mem todo) (mem some) (mem rest) positions 0 (λ j. rw (without j, shared j) (go (mem at j) (mem todo j)))
        where
          go : (a b : Bool) → bit b ≡ bit (a && b) + bit (b && not (a && b))
          go true true = refl
          go true false = refl
          go false true = refl
          go false false = refl

      -- they have their places, and the rest has
      pub some_places : (m : ℕ) → n ≤ m → Places some m
      some_places m l i e = todo_places m l i (and_right (mem at i) (mem todo i) (sym (shared i) ∙ e))

      pub rest_places : (m : ℕ) → n ≤ m → Places rest m
      rest_places m l i e = todo_places m l i (and_left (mem todo i) (not (mem some i)) (sym (without i) ∙ e))

      -- where there is none, all that is to be taken is out
      pub take_none : is_empty some ≡ true → h.out ≡ rounds fs ss n (mem_at ws) (mem_at ds) n []
      unfolding sorted
      take_none e =
          sym
          (rounds_stuck fs ss n (mem_at ws) (mem_at ds) (n - h.round) h.out
          (appended ∙ ap (λ (k : ℕ). h.out ++ sorted (fewer_by counts) (mem some) k []) (size_empty some e) ∙ append-nil h.out))
          ∙ h.goes

      -- else fewer are left
      some_size : is_empty some ≡ false → 0 < size some
      some_size e =
          let m : mem some (lowest_of some) ≡ true = lowest_mem some e in
          omega (arith, size_members some, elem_long (lowest_of some) (members some) (members_elem some (lowest_of some) ∙ m))
        where
          elem_long : (x : ℕ) (xs : List ℕ) → elem x xs ≡ true → 0 < length xs
          elem_long x [] q = clash q none
            where
              none : elem x [] ≡ false
              none = unfold elem any_of in refl
          elem_long x (y ∷ ys) q = omega arith

      pub take_fewer : is_empty some ≡ false → size rest < size todo
      take_fewer e = omega (arith, parts, some_size e)

      -- there is room for them
      pub take_room : n ≤ length room → len + size some ≤ length order
      take_room l = omega (arith, parts, h.sum, h.long)

      module _
          (last : List ℕ)
          (end : ℕ)
          (app : Appended (fewer_by counts) some order last len end)
          (kept_long : length last ≡ length order) where
        new : List ℕ
        new = sorted (fewer_by counts) (mem some) (size some) []

        front : take len order ≡ h.out
        front = ap (take len) h.are ∙ take_at h.out (drop len room) len (sym h.count)

        -- what was appended is the part of the order from `len` to `end`
        gone_is : take (end - len) (drop len last) ≡ new
        unfolding new
        gone_is =
            let e : drop len last ≡ new ++ drop end order =
            ap (drop len) app.are ∙ drop_at (take len order) (new ++ drop end order) len (ap length front ∙ sym h.count) in
            ap (take (end - len)) e ∙ take_at new (drop end order) (end - len) (app.many ∙ omega (arith, app.ends))

        -- and what stands behind it has not changed
        behind : drop end order ≡ drop end room
        behind =
            let e : end ≡ length h.out + size some = omega (arith, app.ends, h.count) in
            let d : len + size some ≡ end = sym app.ends in
            ap₂ drop e h.are ∙ drop-append-add h.out (drop len room) (size some) ∙ drop-drop (size some) len room
            ∙ ap (λ (k : ℕ). drop k room) d

        -- one round
        pub take_turn : (present' : List FeeFrac) (held : List ℕ) (changed both : TxSet) (next : ℕ) → is_empty some ≡ false
            → GaveBack fs ss ds rest (take (end - len) (drop len last)) (sum_at present) (sum_at present')
            → ChangedOnly rest changed (sum_at present) (sum_at present')
            → HeldBelow (ranks_above (sum_at present)) todo held positions
            → ((i : ℕ) → mem both i ≡ (mem some i || mem changed i)) → next ≡ lowest_of both
            → Taking fs ss ws ds n room last present' held rest next end
        unfolding ancestor_sum rounds new ranks_above
        take_turn present' held changed both next any back only kept joins is =
            let many : length new ≡ size some = app.many in
            let fewer = some_size any in
            let fall : n - h.round ≡ suc (n - (h.round + 1)) = omega (arith, h.upto, parts) in
            record {
              out = h.out ++ new;
              round = h.round + 1;
              goes =
                  ap (rounds fs ss n (mem_at ws) (mem_at ds) (n - (h.round + 1))) (sym appended)
                  ∙ ap (λ (k : ℕ). rounds fs ss n (mem_at ws) (mem_at ds) k h.out) (sym fall)
                  ∙ h.goes;
              upto = omega (arith, h.upto, parts);
              count = rw length-append (omega (arith, app.ends, h.count));
              sum = omega (arith, parts, app.ends, h.sum);
              left = λ i.
                  without i ∙ ap₂ (λ (b c : Bool). b && not c) (h.left i) (sym (app.holds i)) ∙ without_append (ltb i n) i h.out new;
              sums = λ i m.
                  back i m
                  ∙ ap₂ (given_back fs ss (λ t. mem_at ds t i)) (h.sums i (was_left i m)) gone_is
                  ∙ sym (back_append fs ss (λ t. mem_at ds t i) (total fs ss (list_from (mem_at ws i) n 0)) h.out new);
              starts = λ _. todo_places n (omega arith) next first_left;
              resumes =
                  resumes_on (λ a b. is_greater (rank_order a b)) (sum_at present) (sum_at present') todo rest next
                  (λ j l. without j ∙ ap (λ (b : Bool). mem todo j && not b) (not_some j l) ∙ and-true (mem todo j))
                  (λ j l m. only.same j (not_changed j l)) held kept first_left;
              are =
                  app.are ∙ ap₂ (λ (x y : List ℕ). x ++ (new ++ y)) front behind ∙ sym (append_assoc h.out new (drop end room));
              long = kept_long ∙ h.long;
            }
          where
            was_left : (i : ℕ) → mem rest i ≡ true → mem todo i ≡ true
            was_left i m = and_left (mem todo i) (not (mem some i)) (sym (without i) ∙ m)

            -- below the lowest of both nothing has changed
            not_some : (j : ℕ) → j < next → mem some j ≡ false
            not_some j l = or_left (mem some j) (mem changed j) (sym (joins j) ∙ lowest_first both j (omega (arith, is)))

            not_changed : (j : ℕ) → j < next → mem changed j ≡ false
            not_changed j l = or_right (mem some j) (mem changed j) (sym (joins j) ∙ lowest_first both j (omega (arith, is)))

            -- and that was left
            both_some : is_empty both ≡ false
            both_some =
                is_false (is_empty both)
                (λ e.
                let i = lowest_of some in
                clash (lowest_mem some any) (or_left (mem some i) (mem changed i) (sym (joins i) ∙ empty_mem both e i)))

            first_left : mem todo next ≡ true
            first_left =
                ⊎_elim
                (λ m. and_right (mem at next) (mem todo next) (sym (shared next) ∙ m))
                (λ m. was_left next (only.within next m))
                (or_either (mem some next) (mem changed next) (sym (joins next) ∙ ap (mem both) is ∙ lowest_mem both both_some))

-- ---- what the function promises

-- too many members, or too few places: nothing is written
pub unfit : (fs : List ℤ) (ss : List ℕ) (a d : ℕ → ℕ → Bool) (room : List ℕ) → fits fs room ≡ false
    → (0 ≡ written fs ss a d room) × (room ≡ filled fs ss a d room)
unfolding written filled
unfit fs ss a d room e = (rw e, rw e)

pub many_unfit : (fs : List ℤ) (room : List ℕ) → positions < length fs → fits fs room ≡ false
unfolding fits
many_unfit fs room l = rw (lt-leb (length fs) positions l)

pub narrow_unfit : (fs : List ℤ) (room : List ℕ) → length room < length fs → fits fs room ≡ false
unfolding fits
narrow_unfit fs room l = rw (lt-leb (length fs) (length room) l) (and-false (leb (length fs) positions))

-- else there is room
pub fit : (fs : List ℤ) (room : List ℕ) → length fs ≤ positions → length fs ≤ length room → fits fs room ≡ true
unfolding fits
fit fs room a b = ap₂ ◌&&◌ (le-leb (length fs) positions a) (le-leb (length fs) (length room) b)

pub fit_few : (fs : List ℤ) (room : List ℕ) → fits fs room ≡ true → length fs ≤ positions
unfolding fits
fit_few fs room e = leb-true (length fs) positions (and_left (leb (length fs) positions) (leb (length fs) (length room)) e)

pub fit_room : (fs : List ℤ) (room : List ℕ) → fits fs room ≡ true → length fs ≤ length room
unfolding fits
fit_room fs room e = leb-true (length fs) (length room) (and_right (leb (length fs) positions) (leb (length fs) (length room)) e)

-- and all that was taken is there
pub all_taken : {fs : List ℤ} {ss ws ds room order : List ℕ} {present : List FeeFrac} {held : List ℕ} {todo : TxSet} {from len : ℕ}
    → (h : Taking fs ss ws ds (length fs) room order present held todo from len) → fits fs room ≡ true
    → h.out ≡ rounds fs ss (length fs) (mem_at ws) (mem_at ds) (length fs) []
    → (len ≡ written fs ss (mem_at ws) (mem_at ds) room) × (order ≡ filled fs ss (mem_at ws) (mem_at ds) room)
unfolding written filled ancestor_order
all_taken {fs} {room = room} {len = len} h t e =
    (rw t (h.count ∙ ap length e), rw t (h.are ∙ ap (λ (k : ℕ). h.out ++ drop k room) h.count ∙ ap (λ (l : List ℕ). overwrite l room) e))
