-- The chunks put out one after the other: `left` are those that are not taken yet. Assumes nothing.
use Rattle.std.proofs.Common.{Option, Some, None, is_some, Ordering}
use mathlib.Core.Path.{◌≡◌, refl, sym, ap, ap₂, ◌∙◌}
use mathlib.Core.Bool.{Bool, true, false, cond, not, ◌&&◌, ◌||◌, and-true, and-eq-true_iff, or_comm}
use mathlib.Core.List.{List, [], ◌∷◌, ◌++◌}
use Prim.Native.Nat.{ℕ, zero, suc, ◌≤◌, ◌<◌}
use native.Mathlib.Omega.{arith}
use lib.Dec.{eqb, ltb, leb}
use lib.IntN.{ℤ}
use lib.ListN.{length, drop}
use borrow.Author.Tests.{ltb-true, le-leb, lt-leb}
use Rattle.feefrac.specs.Rate.{rank_order, size_order, then_by, is_greater, higher}
use Rattle.feefrac.proofs.Order.{rate_below}
use Rattle.feefrac.proofs.Higher.{higher_one}
use Rattle.txset.specs.declared.TxSet.{TxSet}
use Rattle.lists.specs.Below.{list_from}
use Rattle.lists.specs.Lists.{any_of, elem, overwrite}
use Rattle.txset.specs.Sets.{positions, is_position, mem, members, size, mem_at}
use Rattle.lists.proofs.Bools.{clash, without_or, cases}
use Rattle.lists.proofs.Ranges.{list_below}
use Rattle.lists.proofs.Below.{elem_below}
use Rattle.txset.proofs.Walk.{size_empty}
use Rattle.txset.proofs.Sets.{mem_empty, full_mem, size_most, size_without}
use Rattle.feeset.specs.Scan.{best}
use Rattle.feeset.proofs.Scan.{best_ext}
use Rattle.chunking.specs.Orders.{chunks_of, chunk_at}
use Rattle.output_order.specs.declared.Piece.{Piece}
use Rattle.output_order.specs.Output.{chunk_rate, chunk_above, chunk_ready, inside, put_out, next_chunk, chunks_out, output_order, fits, written, filled}
use Rattle.output_order.specs.Steps.{piece_at, rate_of, All, Cut, Below, Drops}
use Rattle.output_order.specs.Rounds.{chosen, piece_above, sum_above, covered, chunk_of, Within, Standing, Placed, Put}
use Rattle.output_order.proofs.Choices.{only_list, best_mem, best_ready, Found, found_early, turn_mem, turn_least}
use Rattle.output_order.proofs.Ready.{ready_within, covered_ready}

-- ---- the definition, by what is chosen

module _ (fs : List ℤ) (ss : List ℕ) (n : ℕ) (anc : ℕ → ℕ → Bool) (cs : List (List ℕ)) (gone out : List ℕ) where
  chunks_step : (m : ℕ) (ks : List ℕ) → next_chunk fs ss n anc cs gone out ≡ ks
      → chunks_out fs ss n anc cs (suc m) gone out ≡ chunks_out fs ss n anc cs m (ks ++ gone) (put_out fs ss n anc cs out ks)
  unfolding chunks_out
  chunks_step m ks e = ap (λ (l : List ℕ). chunks_out fs ss n anc cs m (l ++ gone) (put_out fs ss n anc cs out l)) e

  -- where none is ready the rounds that are left add nothing
  chunks_stop : (m : ℕ) → next_chunk fs ss n anc cs gone out ≡ [] → chunks_out fs ss n anc cs m gone out ≡ out
  unfolding chunks_out put_out
  chunks_stop zero e = refl
  chunks_stop (suc m) e = chunks_step m [] e ∙ chunks_stop m e

-- ---- what is answered

module _ (fs : List ℤ) (ss : List ℕ) (anc : ℕ → ℕ → Bool) (order room : List ℕ) where
  -- the answer and the room are those of the definition
  abbrev pub Answered : ℕ → List ℕ → Type 0
  Answered r room' = (r ≡ written fs ss anc order room) × (room' ≡ filled fs ss anc order room)

  refuses : fits fs order room ≡ false → Answered 0 room
  unfolding written filled
  refuses e = (
    sym (ap (λ (b : Bool). cond b (length (output_order fs ss anc order)) 0) e),
    sym (ap (λ (b : Bool). cond b (overwrite (output_order fs ss anc order) room) room) e),
  )

  pub refuses_members : positions < length fs → Answered 0 room
  unfolding fits
  refuses_members l = refuses (ap (λ (b : Bool). b && (leb (length order) (length fs) && leb (length fs) (length room))) (lt-leb (length fs) positions l))

  pub refuses_order : length fs ≤ positions → length fs < length order → Answered 0 room
  unfolding fits
  refuses_order h l =
      refuses (ap₂ (λ (a b : Bool). a && (b && leb (length fs) (length room))) (le-leb (length fs) positions h) (lt-leb (length order) (length fs) l))

  module _ (h : length fs ≤ positions) (g : length order ≤ length fs) where
    pub refuses_room : length room < length fs → Answered 0 room
    unfolding fits
    refuses_room l =
        refuses (ap₂ (λ (a b : Bool). a && (b && leb (length fs) (length room))) (le-leb (length fs) positions h) (le-leb (length order) (length fs) g)
        ∙ lt-leb (length fs) (length room) l)

    answers : {out : List ℕ} {done : TxSet} {len : ℕ} {room' : List ℕ} → length fs ≤ length room
        → Placed out done len room room' → out ≡ output_order fs ss anc order
        → Answered len room'
    unfolding written filled fits
    answers {out} {done} {len} {room'} l p e =
        let yes : fits fs order room ≡ true =
        ap₂ (λ (a b : Bool). a && (b && leb (length fs) (length room))) (le-leb (length fs) positions h) (le-leb (length order) (length fs) g)
        ∙ le-leb (length fs) (length room) l in (
          p.count ∙ ap length e ∙ sym (ap (λ (b : Bool). cond b (length (output_order fs ss anc order)) 0) yes),
          p.are ∙ ap (λ (m : ℕ). out ++ drop m room) p.count ∙ ap (λ (o : List ℕ). overwrite o room) e
              ∙ sym (ap (λ (b : Bool). cond b (overwrite (output_order fs ss anc order) room) room) yes),
        )

-- ---- the scan of the chunks

-- one that is lower is not above
lower : (p q : Piece) → higher q.rate p.rate ≡ true → piece_above p q ≡ false
unfolding piece_above rank_order
lower p q e =
    let a = p.rate in
    let b = q.rate in
    ap (λ (o : Ordering). is_greater (then_by (then_by o (size_order b.size a.size)) (size_order q.top p.top))) (rate_below a b (higher_one b a e) e)

-- a drop comes behind what is found: it is the one
pub found_drop : (ps : List Piece) {left drops : TxSet} (done : TxSet) {s : TxSet} (t : TxSet) {found : Option ℕ} {k : ℕ}
    → Found (sum_above ps) (covered ps done) left found s → Below (rate_of ps) left drops
    → members s ≡ k ∷ members t → is_some found ≡ true → mem drops k ≡ true → chosen found ≡ chunk_of ps left done
found_drop ps {left} done {s} t {found} {k} h below w some m = go found refl some
  where
    go : (o : Option ℕ) → found ≡ o → is_some o ≡ true → chosen found ≡ chunk_of ps left done
    go None e y = absurd (cc)
    go (Some f) e y =
        found_early h f e (λ j q.
        lower (piece_at ps j) (piece_at ps f) (below.falls f k j m (h.behind f k e (turn_mem h t w)) (turn_least h t w j q) (h.of j q)))

-- ---- the loop

-- what is known of the chunks before the first is put out
pub record Known (fs : List ℤ) (ss ancestors order : List ℕ) (all : TxSet) (ps : List Piece) (r : ℕ) (drops : TxSet) : Type 0 where
  pub whole : All (length fs) all
  pub chunks : Cut (length fs) (mem_at ancestors) (chunks_of fs ss order) ps r
  pub rates : (k : ℕ) → k < r → rate_of ps k ≡ chunk_rate fs ss (length fs) (chunk_at (chunks_of fs ss order) k)
  pub falling : Drops (rate_of ps) r drops
  pub short : length order ≤ length fs
  pub long : length ps ≡ positions

-- on the way: which chunks are gone, what is out, and how many rounds are left
pub record Rounds (fs : List ℤ) (ss ancestors order room₀ : List ℕ) (all : TxSet) (ps : List Piece)
    (r : ℕ) (drops : TxSet) (room : List ℕ) (left done : TxSet) (len : ℕ) : Type 0 where
  pub known : Known fs ss ancestors order all ps r drops
  pub gone : List ℕ
  pub out : List ℕ
  pub rounds : ℕ
  pub enough : size left ≤ rounds
  pub rest : (k : ℕ) → mem left k ≡ (ltb k r && not (elem k gone))
  pub stands : Standing (length fs) done len room
  pub placed : Placed out done len room₀ room
  pub same : chunks_out fs ss (length fs) (mem_at ancestors) (chunks_of fs ss order) rounds gone out ≡ output_order fs ss (mem_at ancestors) order

-- the full set of n
pub full_all : {n : ℕ} {s : TxSet} → n ≤ positions → ((i : ℕ) → mem s i ≡ (is_position i && ltb i n)) → All n s
full_all {n} {s} h full = record { few = h; are = full_mem n s h full }

pub rounds_start : {fs : List ℤ} {ss ancestors order : List ℕ} {all : TxSet} {ps : List Piece} {r : ℕ} {drops : TxSet} (room : List ℕ) (left done : TxSet) → Known fs ss ancestors order all ps r drops → length fs ≤ length room
    → All r left → ((i : ℕ) → mem done i ≡ false)
    → Rounds fs ss ancestors order room all ps r drops room left done 0
unfolding output_order elem any_of
rounds_start {fs} {ss} {ancestors} {order} {r = r} room left done h place full none = record {
  known = h;
  gone = [];
  out = [];
  rounds = length (chunks_of fs ss order);
  enough = omega (arith, size_most left r h.chunks.few (λ i e. ltb-true i r (sym (full.are i) ∙ e)), h.chunks.count);
  rest = λ k. full.are k ∙ sym (and-true (ltb k r));
  stands = record {
    below = λ i e. clash e (none i);
    count = sym (size_empty done (mem_empty done none));
    place = place;
  };
  placed = record { member = none; count = refl; are = refl; long = refl };
  same = refl;
}

module _ {fs : List ℤ} {ss ancestors order room₀ : List ℕ} {all : TxSet} {ps : List Piece} {r : ℕ} {drops : TxSet} {room : List ℕ} {left done : TxSet} {len : ℕ}
    (p : Rounds fs ss ancestors order room₀ all ps r drops room left done len) where
  -- a candidate of the definition
  candidate : ℕ → Bool
  candidate k = not (elem k p.gone) && chunk_ready (length fs) (mem_at ancestors) p.out (chunk_at (chunks_of fs ss order) k)

  above_same : (x y : ℕ) → x < r → y < r → sum_above ps x y ≡ chunk_above fs ss (length fs) (chunks_of fs ss order) x y
  unfolding piece_above chunk_above
  above_same x y lx ly = rw (p.known.rates x lx, p.known.rates y ly, (p.known.chunks.holds x lx).highest, (p.known.chunks.holds y ly).highest)

  -- what is chosen is what the definition takes
  chosen_chunk : chunk_of ps left done
      ≡ next_chunk fs ss (length fs) (mem_at ancestors) (chunks_of fs ss order) p.gone p.out
  unfolding members next_chunk candidate
  chosen_chunk =
      ap (best (sum_above ps))
      (only_list (covered ps done) (mem left) positions 0
      ∙ list_below (λ j. mem left j && covered ps done j) candidate r positions p.known.chunks.few
      (λ i. ap (λ (b : Bool). b && covered ps done i) (p.rest i) ∙ cases (ltb i r) (λ e. rw e (ready i (ltb-true i r e))) (λ e. rw e)))
      ∙ best_ext (sum_above ps) (chunk_above fs ss (length fs) (chunks_of fs ss order)) (list_from candidate r 0)
      (λ x y ex ey. above_same x y (elem_below candidate r x ex).0 (elem_below candidate r y ey).0)
      ∙ ap (λ (m : ℕ). best (chunk_above fs ss (length fs) (chunks_of fs ss order)) (list_from candidate m 0)) p.known.chunks.count
    where
      ready : (i : ℕ) → i < r → (not (elem i p.gone) && covered ps done i) ≡ candidate i
      ready i l =
          ap (λ (b : Bool). not (elem i p.gone) && b)
          (covered_ready (length fs) done p.out p.placed.member (mem_at ancestors) (chunk_at (chunks_of fs ss order) i) ((piece_at ps i).outside)
          (p.known.chunks.holds i l).outsiders)

  -- past one of `drops` none of those left is above one before it
  pub rounds_below : Below (rate_of ps) left drops
  rounds_below = record {
    falls = λ i d j m a b e. p.known.falling.falls i d j m a b (ltb-true j r ((and-eq-true_iff (ltb j r) (not (elem j p.gone))).0 (sym (p.rest j) ∙ e)).0);
  }

  -- k is chosen
  module _ (k : ℕ) (is : chunk_of ps left done ≡ k ∷ []) where
    chosen_below : k < r
    chosen_below =
        ltb-true k r
        ((and-eq-true_iff (ltb k r) (not (elem k p.gone))).0
        (sym (p.rest k) ∙ best_mem (sum_above ps) (covered ps done) left k is)).0

    pub chosen_place : k < positions
    chosen_place = omega (arith, chosen_below, p.known.chunks.few)

    -- its members are members of the cluster
    pub chosen_small : (i : ℕ) → mem (piece_at ps k).set i ≡ true → i < length fs
    chosen_small i e =
        ltb-true i (length fs)
        ((and-eq-true_iff (ltb i (length fs)) (elem i (chunk_at (chunks_of fs ss order) k))).0
        (sym ((p.known.chunks.holds k chosen_below).members i) ∙ e)
        ).0

    -- whose ancestors are among them, or out
    pub chosen_within : Within ancestors all (piece_at ps k).set done
    chosen_within = record {
      either = λ t a l x y.
          let n = length fs in
          let c = chunk_at (chunks_of fs ss order) k in
          let held = p.known.chunks.holds k chosen_below in
          let parts = (and-eq-true_iff (ltb t n) (elem t c)).0 (sym (held.members t) ∙ l) in
          let small = sym (p.known.whole.are a) ∙ y in
          ap₂ ◌||◌ (held.members a ∙ ap (λ (b : Bool). b && elem a c) small) (p.placed.member a)
          ∙ ready_within n (mem_at ancestors) p.out c
          (sym (covered_ready n done p.out p.placed.member (mem_at ancestors) c (piece_at ps k).outside held.outsiders)
          ∙ best_ready (sum_above ps) (covered ps done) left k is)
          t a (ltb-true t n parts.0) (ltb-true a n small) parts.1 x;
    }

    -- it is taken
    module _ (left' : TxSet) (less : (i : ℕ) → mem left' i ≡ (mem left i && not (eqb i k))) where
      pub rounds_less : size left' < size left
      rounds_less = omega (arith, size_without left left' k (best_mem (sum_above ps) (covered ps done) left k is) less)

      -- and its members are put out
      pub rounds_turn : (done' : TxSet) (len' : ℕ) (room' : List ℕ)
          → Put fs ss (length fs) (mem_at ancestors) (piece_at ps k).set done len room done' len' room'
          → Rounds fs ss ancestors order room₀ all ps r drops room' left' done' len'
      unfolding put_out elem any_of
      rounds_turn done' len' room' put = go p.rounds p.enough p.same
        where
          go : (m : ℕ) → size left ≤ m
              → chunks_out fs ss (length fs) (mem_at ancestors) (chunks_of fs ss order) m p.gone p.out ≡ output_order fs ss (mem_at ancestors) order
              → Rounds fs ss ancestors order room₀ all ps r drops room' left' done' len'
          go zero l e = absurd (omega (arith, rounds_less))
          go (suc m) l e =
              let cs = chunks_of fs ss order in
              let c = chunk_at cs k in
              let n = length fs in
              record {
                known = p.known;
                gone = k ∷ p.gone;
                out = inside fs ss n (mem_at ancestors) c (length c) p.out;
                rounds = m;
                enough = omega (arith, rounds_less);
                rest = λ i. less i ∙ ap (λ (b : Bool). b && not (eqb i k)) (p.rest i) ∙ without_or (ltb i r) (elem i p.gone) (eqb i k)
                    ∙ ap (λ (b : Bool). ltb i r && not b) (or_comm (elem i p.gone) (eqb i k));
                stands = put.stands;
                placed = put.puts c p.out room₀ (p.known.chunks.holds k chosen_below).members p.placed;
                same = sym (chunks_step fs ss n (mem_at ancestors) cs p.gone p.out m (k ∷ []) (sym chosen_chunk ∙ is)) ∙ e;
              }

  -- where all is out
  over : p.out ≡ output_order fs ss (mem_at ancestors) order → Answered fs ss (mem_at ancestors) order room₀ len room
  over e =
      answers fs ss (mem_at ancestors) order room₀ p.known.whole.few p.known.short (omega (arith, p.stands.place, p.placed.long)) p.placed e

  -- no chunk is ready
  pub rounds_stop : chunk_of ps left done ≡ [] → Answered fs ss (mem_at ancestors) order room₀ len room
  rounds_stop e =
      over (sym (chunks_stop fs ss (length fs) (mem_at ancestors) (chunks_of fs ss order) p.gone p.out p.rounds (sym chosen_chunk ∙ e)) ∙ p.same)
