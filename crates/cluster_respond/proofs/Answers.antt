-- What the program prints, by what its parts answer: a text that was read, and the call of linearize. Assumes nothing.
use Prim.Native.Nat.{ℕ, ◌≤◌}
use native.Mathlib.Omega.{arith}
use mathlib.Core.Path.{◌≡◌, refl, sym, ap, ap₂, ◌∙◌}
use mathlib.Core.Bool.{true, ◌&&◌}
use mathlib.Core.List.{List, ◌++◌}
use lib.Dec.{leb}
use lib.ListN.{length, take, drop, length-append}
use lib.Seq.{take_at}
use lib.IntN.{ℤ}
use borrow.Author.Tests.{le-ltb, le-leb, ne_eqb}
use Rattle.txset.specs.Sets.{positions}
use Rattle.refusals.specs.declared.Reply.{Reply}
use Rattle.refusals.specs.Refusals.{answer_of, success, refusal}
use Rattle.refusals.proofs.Lines.{Takes, succeeds, writes, answered}
use Rattle.linearize.specs.Linearize.{refusals, linear_order, reply, room_after}
use Rattle.refusals.specs.declared.Refusal.{Refusal}
use Rattle.std.proofs.Common.{Result, Ok}
use Rattle.cluster_reader.specs.Reading.{Read, refused, cluster, read, Told, told, read_told}
use Rattle.cluster_reader.specs.Calls.{fees_after, sizes_after, parents_after}
use Rattle.cluster_reader.proofs.Lengths.{read_whole, read_refused}
use Rattle.cluster_writer.specs.Writing.{refusal_text, success_text}
use Rattle.cluster_writer.specs.Calls.{few, success_printed, success_room}
use Rattle.lists.specs.Lists.{overwrite}
use Rattle.chunking.specs.Orders.{order_lengths}
use Rattle.cluster_respond.specs.Program.{cluster_text, text_of, response}

-- a room starts with a list of n
pub record Starts {A : Type 0} (xs room : List A) (n : ℕ) : Type 0 where
  pub count : n ≡ length xs
  pub within : n ≤ length room
  pub is : take n room ≡ xs

pub starts : {A : Type 0} (xs rest : List A) {room : List A} {n : ℕ} → n ≡ length xs → room ≡ xs ++ rest → Starts xs room n
starts xs rest {n = n} e f =
    rw f (record { count = e; within = omega (arith, length-append xs rest); is = take_at xs rest n (sym e) })

-- the part that is lent has n elements
pub part_long : {A : Type 0} {xs room : List A} {n : ℕ} → Starts xs room n → n ≡ length (take n room)
part_long h = h.count ∙ sym (ap length h.is)

-- what is printed as one text is printed as its equal
pub prints : {t u : List ℕ} {r : ℕ} {new : List ℕ} (old : List ℕ) → t ≡ u → r ≡ length t → new ≡ overwrite t old → (r ≡ length u) × (new ≡ overwrite u old)
prints old e p q = (p ∙ ap length e, q ∙ ap (λ (x : List ℕ). overwrite x old) e)

-- ---- linearize has answered

-- in a room with a place for each member
module _
    (fs : List ℤ)
    (ss ps room : List ℕ)
    (wide : length fs ≤ length room)
    (sizes : length ss ≡ length fs)
    (r : Reply)
    (is : r ≡ reply fs ss ps room) where
  -- a reply's number is that of the first line that holds
  number_is : (reply fs ss ps room).answer ≡ answer_of (refusals fs ss ps room)
  unfolding reply
  number_is = answered (refusals fs ss ps room) refusal (success (length (linear_order fs ss ps))) (λ x. x.answer) refl (λ k. refl)

  -- its answer is that in one as long as the members are many
  same_answer : r.answer ≡ answer_of (refusals fs ss ps ss)
  unfolding reply refusals
  same_answer =
      ap (λ (x : Reply). x.answer) is
      ∙ number_is
      ∙ rw (le-ltb (length room) (length fs) wide, le-ltb (length ss) (length fs) (omega arith))

  pub refused_text : (r.answer ≡ 0 → ⊥) → refusal_text r.answer ≡ cluster_text fs ss ps
  unfolding cluster_text
  refused_text n = rw (← same_answer, ne_eqb r.answer 0 n)

  module _ (e : r.answer ≡ 0) where
    none : Takes (refusals fs ss ps room)
    none = record { answer = sym number_is ∙ sym (ap (λ (x : Reply). x.answer) is) ∙ e }

    -- the order stands at the room's start
    pub ordered : (new : List ℕ) → new ≡ room_after fs ss ps room → Starts (linear_order fs ss ps) new r.written
    unfolding reply room_after
    ordered new o =
        starts (linear_order fs ss ps) (drop (length (linear_order fs ss ps)) room)
        (ap (λ (x : Reply). x.written) (is ∙ sym (succeeds refusal (success (length (linear_order fs ss ps))) none refl)))
        (o ∙ sym (writes room (overwrite (linear_order fs ss ps) room) none refl))

    -- it is printed with the lengths of its chunks
    pub success_text_lem : (order lens out out' : List ℕ) (k : ℕ) → order ≡ linear_order fs ss ps → lens ≡ order_lengths fs ss order
        → length order ≤ positions → length lens ≤ positions → k ≡ success_printed fs ss order lens → out' ≡ success_room fs ss order lens out
        → (k ≡ length (cluster_text fs ss ps)) × (out' ≡ overwrite (cluster_text fs ss ps) out)
    unfolding cluster_text success_printed success_room few
    success_text_lem order lens out out' k o l x y p q =
        let fit : (leb (length order) positions && leb (length lens) positions) ≡ true =
        ap₂ ◌&&◌ (le-leb (length order) positions x) (le-leb (length lens) positions y) in
        let text : success_text fs ss order lens ≡ cluster_text fs ss ps = rw (l, o, ← same_answer, e) in
        prints out text (p ∙ rw fit) (q ∙ rw fit)

-- ---- the input was read

-- three arrays start with the n members that a text gives
pub record Given (text : List ℕ) (n : ℕ) (fees : List ℤ) (sizes parents : List ℕ) : Type 0 where
  pub fs : List ℤ
  pub ss : List ℕ
  pub ps : List ℕ
  pub is : read text ≡ cluster fs ss ps
  pub few : n ≤ positions
  pub fees_are : Starts fs fees n
  pub sizes_are : Starts ss sizes n
  pub parents_are : Starts ps parents n

module _ (text : List ℕ) {i : Result ℕ Refusal} (e : told i ≡ read_told (read text)) where
  -- it was refused, with a number that is not 0
  pub refused_input : {j : Result ℕ Refusal} → i ≡ j → ((told j).number ≡ 0 → ⊥) → refusal_text (told j).number ≡ response text
  unfolding response
  refused_input {j} f n = go (read text) (ap (λ (t : Told). t.number) (sym (ap told f) ∙ e))
    where
      go : (r : Read) → (told j).number ≡ (read_told r).number → refusal_text (told j).number ≡ text_of r
      go (refused k) h = ap refusal_text h
      go (cluster fs ss ps) h = absurd (n h)

  -- it gave n members, and the arrays start with them
  module _
      {n : ℕ}
      (f : i ≡ Ok n)
      (fees₀ fees : List ℤ)
      (sizes₀ parents₀ sizes parents : List ℕ)
      (x : fees ≡ fees_after (read text) fees₀)
      (y : sizes ≡ sizes_after (read text) sizes₀)
      (z : parents ≡ parents_after (read text) parents₀) where
    pub members_read : Given text n fees sizes parents
    members_read = go (read text) refl (sym (ap told f) ∙ e) x y z
      where
        go : (r : Read) → read text ≡ r → told (Ok n) ≡ read_told r → fees ≡ fees_after r fees₀ → sizes ≡ sizes_after r sizes₀ → parents ≡ parents_after r parents₀
            → Given text n fees sizes parents
        go (refused k) is h a b c = absurd (omega (arith, read_refused text is, ap (λ (t : Told). t.number) h))
        go (cluster fs ss ps) is h a b c =
            let w = read_whole text is in
            let count : n ≡ length fs = ap (λ (t : Told). t.count) h in
            record {
              fs = fs;
              ss = ss;
              ps = ps;
              is = is;
              few = omega (arith, w.few);
              fees_are = starts fs (drop (length fs) fees₀) count a;
              sizes_are = starts ss (drop (length fs) sizes₀) (omega (arith, w.sizes)) b;
              parents_are = starts ps (drop (length fs) parents₀) (omega (arith, w.parents)) c;
            }

-- what is printed for the members is the response to the text
pub given_text : {text : List ℕ} {n : ℕ} {fees : List ℤ} {sizes parents : List ℕ} → Given text n fees sizes parents
    → cluster_text (take n fees) (take n sizes) (take n parents) ≡ response text
unfolding response
given_text g = rw (g.fees_are.is, g.sizes_are.is, g.parents_are.is, g.is)
