-- What a write makes of the pool that a table means (specs/Changes.antt), from the words that it put and those that it left. Assumes nothing.
use mathlib.Core.Path.{◌≡◌, refl, sym, ap, ap₂, ◌∙◌, subst}
use mathlib.Core.Logic.{◌⊎◌, inl, inr, ⊎_elim}
use mathlib.Core.Bool.{Bool, true, false, not, ◌&&◌, ◌||◌}
use mathlib.Core.List.{List, [], ◌∷◌, ◌++◌}
use Prim.Native.Nat.{ℕ, zero, suc, ◌+◌, ◌-◌, ◌*◌, ◌^◌, ◌≤◌, ◌<◌}
use native.Mathlib.Omega.{arith}
use lib.Dec.{lit<, eqb, ltb}
use lib.ListN.{length, get_or, take, drop, set, replicate, length-take, length-drop, length-set, length-replicate, replicate-append-replicate, get_or-eq_default}
use borrow.Author.Tests.{ltb-false, lt-ltb}
use Rattle.lists.proofs.Bools.{clash}
use Rattle.lists.proofs.Numbers.{lt_or_ge, by_number}
use Rattle.txset.specs.Sets.{has_in}
use Rattle.txset.proofs.Words.{Fits}
use Rattle.slotsets.specs.SlotSets.{set_words, span, plus, minus, words_from, set_from}
use Rattle.slotsets.proofs.SlotSets.{set_is, from_long}
use Rattle.pool_table.specs.declared.Entry.{Entry}
use Rattle.pool_table.specs.declared.Limits.{Limits}
use Rattle.pool_table.specs.declared.Side.{Side}
use Rattle.pool_table.specs.declared.Side.TheVariants.{Parents, Children}
use Rattle.pool_table.specs.Pool.{Slot, Pool, free, slot_at, slot_count}
use Rattle.pool_table.specs.Words.{header, row, row_at, parents_at, children_at, side_at, total_at, slots_in, is_legal, HasRow, entry_in, slot_in, limits_in, pool_of, entry_words, slot_words, rows_of, table_of}
use Rattle.pool_table.specs.Changes.{changed, with_entry, with_link, unlinked, with_total, free_slots, made, Becomes}
use Rattle.pool_table.proofs.Parts.{part_take}
use Rattle.pool_table.proofs.Puts.{back, Put, put_part, put_there, put_else}
use Rattle.pool_table.proofs.Theorems.{legal_long, pool_table}
use Rattle.pool_table.proofs.Pools.{whole_made, pool_ext, changed_count, changed_here, changed_else, changed_past}
use Rattle.pool_table.proofs.Rows.{slot_count_lem, slot_at_lem, word_at, slot_is, slot_same, txid_is, entry_is, entry_words_lem, whole_row, whole_free, free_zeros, length_entry, side_end}

-- ---- a table that stays

pub stays : {f : Pool → Pool} {t : List ℕ} → is_legal (length t) ≡ false → Becomes f t t
stays e = record { long = refl; means = λ h. clash h e; stays = λ h. refl }

-- a table of a legal length has a header
pub legal_header : (t : List ℕ) → is_legal (length t) ≡ true → header ≤ length t
legal_header t e = omega (arith, legal_long (length t) e)

-- nor is a slot changed that is not there
pub row_none : (t : List ℕ) (s : ℕ) (f : Slot → Slot) → (is_legal (length t) && ltb s (slot_count (pool_of t))) ≡ false → Becomes (changed s f) t t
row_none t s f e = go (is_legal (length t)) refl
  where
    go : (b : Bool) → is_legal (length t) ≡ b → Becomes (changed s f) t t
    go false p = stays p
    go true p =
        let q : ltb s (slot_count (pool_of t)) ≡ false = rw p at e in
        record { long = refl; means = λ h. sym (changed_past s f (pool_of t) (ltb-false s (slot_count (pool_of t)) q)); stays = λ h. clash p h }

-- ---- what is as it was

module _ (old new : List ℕ) (e : length new ≡ length old) where
  same_count : slot_count (pool_of new) ≡ slot_count (pool_of old)
  same_count = slot_count_lem new ∙ ap slots_in e ∙ sym (slot_count_lem old)

  same_slot : (i : ℕ) → i < slot_count (pool_of old) → ((k : ℕ) → k < row → get_or new (row_at i + k) 0 ≡ get_or old (row_at i + k) 0)
      → slot_at (pool_of new) i ≡ slot_at (pool_of old) i
  same_slot i l h =
      slot_at_lem new i (omega (arith, same_count))
      ∙ slot_is new (row_at i) (slot_in old (row_at i)) (whole_row old (row_at i))
      (λ k m. h k m ∙ sym (word_at old i k l m) ∙ ap (λ (x : Slot). get_or (slot_words x) k 0) (slot_at_lem old i l))
      ∙ sym (slot_at_lem old i l)

  same_limits : ((i : ℕ) → i < total_at → get_or new i 0 ≡ get_or old i 0) → (pool_of new).limits ≡ (pool_of old).limits
  unfolding pool_of limits_in
  same_limits h = rw (h 0 (lit< tt), h 1 (lit< tt), h 2 (lit< tt))

-- ---- one row written

-- nothing but a row differs, and that is what f makes of it
module _ (old new : List ℕ) (s : ℕ) {at : ℕ} (r : HasRow old s at) (f : Slot → Slot) (e : length new ≡ length old)
    (out : (i : ℕ) → (i < at) ⊎ (at + row ≤ i) → get_or new i 0 ≡ get_or old i 0) (here : slot_in new at ≡ f (slot_in old at)) where
  row_here : slot_at (pool_of new) s ≡ slot_at (changed s f (pool_of old)) s
  row_here =
      slot_at_lem new s (omega (arith, same_count old new e, r.there))
      ∙ ap (slot_in new) (sym r.start) ∙ here ∙ ap (λ (n : ℕ). f (slot_in old n)) r.start
      ∙ ap f (sym (slot_at_lem old s r.there))
      ∙ sym (changed_here s f (pool_of old) r.there)

  row_else : (i : ℕ) → i < slot_count (pool_of old) → (i ≡ s → ⊥) → slot_at (pool_of new) i ≡ slot_at (changed s f (pool_of old)) i
  row_else i l n =
      same_slot old new e i l
      (λ k m.
      out (row_at i + k) (⊎_elim (λ (b : i < s). inl (omega (arith, r.start))) (λ (b : s ≤ i). inr (omega (arith, r.start))) (lt_or_ge i s)))
      ∙ sym (changed_else s f (pool_of old) i n)

  row_slots : (i : ℕ) → i < slot_count (pool_of new) → slot_at (pool_of new) i ≡ slot_at (changed s f (pool_of old)) i
  row_slots =
      by_number (λ i. i < slot_count (pool_of new) → slot_at (pool_of new) i ≡ slot_at (changed s f (pool_of old)) i) s (λ l. row_here)
      (λ i n l. row_else i (omega (arith, same_count old new e)) (λ z. n (sym z)))

  row_means : pool_of new ≡ changed s f (pool_of old)
  unfolding pool_of changed
  row_means =
      pool_ext (pool_of new) (changed s f (pool_of old))
      (same_limits old new e (λ i l. out i (inl (omega (arith, r.start)))))
      (out total_at (inl (omega (arith, r.start))))
      (same_count old new e ∙ sym (changed_count s f (pool_of old)))
      row_slots

  pub row_becomes : Becomes (changed s f) old new
  row_becomes = record { long = e; means = λ h. row_means; stays = λ h. clash r.legal h }

-- ---- the parts of a row, after words were put

-- an entry is its words
entry_one : (a b : Entry) → entry_words a ≡ entry_words b → a ≡ b
unfolding entry_words
entry_one a b h = entry_is (txid_is (word 0) (word 1) (word 2) (word 3)) (word 4) (word 5) (word 6)
  where
    word : (k : ℕ) → get_or (entry_words a) k 0 ≡ get_or (entry_words b) k 0
    word k = ap (λ (ws : List ℕ). get_or ws k 0) h

module _ {a : ℕ} {part old new : List ℕ} (p : Put a part old new) where
  entry_there : (e : Entry) → part ≡ entry_words e → entry_in new a ≡ e
  unfolding entry_words
  entry_there e h = entry_one (entry_in new a) e (entry_words_lem new a ∙ ap (λ (n : ℕ). words_from new n a) (sym (ap length h)) ∙ put_there p ∙ h)

  entry_else : (b : ℕ) → b + parents_at ≤ a → entry_in new b ≡ entry_in old b
  entry_else b l = entry_one (entry_in new b) (entry_in old b) (entry_words_lem new b ∙ put_else p b parents_at (inl l) ∙ sym (entry_words_lem old b))

  set_there : length part ≡ set_words → set_from new a ≡ part
  unfolding set_from
  set_there h = ap (λ (n : ℕ). words_from new n a) (sym h) ∙ put_there p

  set_else : (b : ℕ) → (b + set_words ≤ a) ⊎ (a + length part ≤ b) → set_from new b ≡ set_from old b
  unfolding set_from
  set_else b h = put_else p b set_words h

  -- what is put into a row is put nowhere else
  row_out : (at : ℕ) → at ≤ a → a + length part ≤ at + row → (i : ℕ) → (i < at) ⊎ (at + row ≤ i) → get_or new i 0 ≡ get_or old i 0
  row_out at l m i h = p.outer i (⊎_elim (λ (x : i < at). inl (omega arith)) (λ (x : at + row ≤ i). inr (omega arith)) h)

-- ---- each write

-- the entry
pub entry_becomes : (old new : List ℕ) (s : ℕ) {at : ℕ} → HasRow old s at → (e : Entry) (part : List ℕ) → part ≡ entry_words e → Put at part old new
    → Becomes (changed s (with_entry e)) old new
unfolding slot_in
entry_becomes old new s {at} r e part h p =
    let l : length part ≡ parents_at = ap length h ∙ length_entry e in
    row_becomes old new s r (with_entry e) p.long (row_out p at (omega arith) (omega arith))
    (slot_same (entry_there p e h) (set_else p (at + parents_at) (inr (omega arith))) (set_else p (at + children_at) (inr (omega arith))))

-- one more in the set of a side
pub link_becomes : (old new : List ℕ) (s : ℕ) {at : ℕ} → HasRow old s at → (side : Side) (b : ℕ) (part : List ℕ) → Put (at + side_at side) part old new
    → length part ≡ set_words → part ≡ plus (set_from old (at + side_at side)) b → Becomes (changed s (with_link side b)) old new
unfolding slot_in
link_becomes old new s {at} r Parents b part p l h =
    row_becomes old new s r (with_link Parents b) p.long (row_out p at (omega arith) (omega arith))
    (slot_same (entry_else p at (omega arith)) (set_there p l ∙ h) (set_else p (at + children_at) (inr (omega arith))))
link_becomes old new s {at} r Children b part p l h =
    row_becomes old new s r (with_link Children b) p.long (row_out p at (omega arith) (omega arith))
    (slot_same (entry_else p at (omega arith)) (set_else p (at + parents_at) (inl (omega arith))) (set_there p l ∙ h))

-- one less in both sets, the second after the first
pub unlink_becomes : (old mid new : List ℕ) (s : ℕ) {at : ℕ} → HasRow old s at → (b : ℕ) (part rest : List ℕ)
    → Put (at + parents_at) part old mid → length part ≡ set_words → part ≡ minus (set_from old (at + parents_at)) b
    → Put (at + children_at) rest mid new → length rest ≡ set_words → rest ≡ minus (set_from mid (at + children_at)) b
    → Becomes (changed s (unlinked b)) old new
unfolding slot_in
unlink_becomes old mid new s {at} r b part rest p l h q m g =
    row_becomes old new s r (unlinked b) (q.long ∙ p.long)
    (λ i x. row_out q at (omega arith) (omega arith) i x ∙ row_out p at (omega arith) (omega arith) i x)
    (slot_same
    (entry_else q at (omega arith) ∙ entry_else p at (omega arith))
    (set_else q (at + parents_at) (inl (omega arith)) ∙ set_there p l ∙ h)
    (set_there q m ∙ g ∙ ap (λ (ws : List ℕ). minus ws b) (set_else p (at + children_at) (inr (omega arith)))))

-- a whole row of zeros
pub free_becomes : (old new : List ℕ) (s : ℕ) {at : ℕ} → HasRow old s at → (part : List ℕ) → part ≡ replicate row 0 → Put at part old new
    → Becomes (changed s (λ x. free)) old new
free_becomes old new s {at} r part h p =
    let l : length part ≡ row = ap length h in
    row_becomes old new s r (λ x. free) p.long (row_out p at (omega arith) (omega arith))
    (slot_is new at free whole_free
    (λ k m. p.inner k (omega arith) ∙ ap (λ (ws : List ℕ). get_or ws k 0) (h ∙ sym free_zeros)))

-- the total
pub total_becomes : (old new : List ℕ) (n : ℕ) → is_legal (length old) ≡ true → Put total_at (n ∷ []) old new → Becomes (with_total n) old new
unfolding pool_of slot_at
total_becomes old new n e p =
    record {
      long = p.long;
      means =
          λ h.
          pool_ext (pool_of new) (with_total n (pool_of old)) (same_limits old new p.long (λ i l. p.outer i (inl l))) (p.inner 0 (lit< tt))
          (same_count old new p.long)
          (λ i l. same_slot old new p.long i (omega (arith, same_count old new p.long)) (λ k m. p.outer (row_at i + k) (inr (omega arith))));
      stays = λ h. clash e h;
    }

-- ---- a part of a row that was lent, and is back

-- as many words as from a place to its end
abbrev up_to : ℕ → ℕ → ℕ
up_to from n = from + n - from

up_to_lem : (from n : ℕ) → up_to from n ≡ n
up_to_lem from n = omega arith

-- the words of an entry
pub entered : (old part : List ℕ) (s : ℕ) {at : ℕ} → HasRow old s at → (e : Entry) → part ≡ entry_words e
    → Becomes (changed s (with_entry e)) old (back at (up_to at parents_at) part old)
entered old part s {at} r e h =
    entry_becomes old (back at (up_to at parents_at) part old) s r e part h
    (put_part at (up_to at parents_at) part old (omega (arith, r.within)) (ap length h ∙ length_entry e ∙ sym (up_to_lem at parents_at)))

-- zeros
pub freed : (old part : List ℕ) (s : ℕ) {at : ℕ} → HasRow old s at → part ≡ replicate (length (take (up_to at row) (drop at old))) 0
    → Becomes (changed s (λ x. free)) old (back at (up_to at row) part old)
freed old part s {at} r h =
    let w : at + row ≤ length old = r.within in
    let l : length (take (up_to at row) (drop at old)) ≡ row = simp (length-take, length-drop) (omega arith) in
    let m : part ≡ replicate row 0 = h ∙ ap (λ (n : ℕ). replicate n 0) l in
    free_becomes old (back at (up_to at row) part old) s r part m (put_part at (up_to at row) part old (omega arith) (ap length m ∙ sym (up_to_lem at row)))

-- a set, with b in it or without b
module _ (old part : List ℕ) (a b : ℕ) (h : a + set_words ≤ length old) (l : length part ≡ length (take (up_to a set_words) (drop a old))) where
  abbrev given : List ℕ
  given = take (up_to a set_words) (drop a old)

  given_is : given ≡ set_from old a
  unfolding set_from
  given_is = ap (λ (n : ℕ). take n (drop a old)) (up_to_lem a set_words) ∙ part_take old set_words a h

  back_long : length part ≡ set_words
  back_long = l ∙ ap length given_is ∙ from_long old a

  back_put : Put a part old (back a (up_to a set_words) part old)
  back_put = put_part a (up_to a set_words) part old (omega arith) (back_long ∙ sym (up_to_lem a set_words))

  back_fits : Fits (back a (up_to a set_words) part old) → Fits part
  back_fits f j =
      ⊎_elim
      (λ (m : j < length part). subst (λ (w : ℕ). w < 2 ^ 64) (back_put.inner j m) (f (a + j)))
      (λ (m : length part ≤ j). subst (λ (w : ℕ). w < 2 ^ 64) (sym (get_or-eq_default part 0 m)) (lit< tt))
      (lt_or_ge j (length part))

  back_plus : Fits (back a (up_to a set_words) part old) → ((i : ℕ) → has_in part i ≡ (has_in given i || (ltb i (span given) && eqb i b)))
      → part ≡ plus (set_from old a) b
  back_plus f g =
      sym
      (set_is (λ i. has_in (set_from old a) i || eqb i b) part back_long (back_fits f)
      (λ i m.
      g i
      ∙ ap₂ (λ (x y : Bool). x || (y && eqb i b)) (ap (λ (ws : List ℕ). has_in ws i) given_is)
      (lt-ltb i (span given) (omega (arith, ap length given_is, from_long old a)))))

  back_minus : Fits (back a (up_to a set_words) part old) → ((i : ℕ) → has_in part i ≡ (has_in given i && not (eqb i b))) → part ≡ minus (set_from old a) b
  back_minus f g =
      sym
      (set_is (λ i. has_in (set_from old a) i && not (eqb i b)) part back_long (back_fits f)
      (λ i m. g i ∙ ap (λ (ws : List ℕ). has_in ws i && not (eqb i b)) given_is))

-- the set of a side, with one slot more
pub linked : (old part : List ℕ) (s : ℕ) {at : ℕ} → HasRow old s at → (side : Side) (b o : ℕ) → o ≡ side_at side
    → length part ≡ length (take (up_to (at + o) set_words) (drop (at + o) old))
    → ((i : ℕ)
    → has_in part i
    ≡ (has_in (take (up_to (at + o) set_words) (drop (at + o) old)) i
    || (ltb i (span (take (up_to (at + o) set_words) (drop (at + o) old))) && eqb i b)))
    → Fits (back (at + o) (up_to (at + o) set_words) part old)
    → Becomes (changed s (with_link side b)) old (back (at + o) (up_to (at + o) set_words) part old)
linked old part s {at} r side b o q l g f =
    let a = at + o in
    let new = back a (up_to a set_words) part old in
    let h : a + set_words ≤ length old = omega (arith, r.within, side_end side) in
    link_becomes old new s r side b part
    (subst (λ (n : ℕ). Put (at + n) part old new) q (back_put old part a b h l))
    (back_long old part a b h l)
    (back_plus old part a b h l f g ∙ ap (λ (n : ℕ). plus (set_from old (at + n)) b) q)

-- both sets, lent one after the other, with one slot less
module _ (old part : List ℕ) (s : ℕ) {at : ℕ} (r : HasRow old s at) (b : ℕ)
    (l : length part ≡ length (take (up_to (at + parents_at) set_words) (drop (at + parents_at) old))) where
  abbrev half : List ℕ
  half = back (at + parents_at) (up_to (at + parents_at) set_words) part old

  abbrev next : ℕ
  next = at + parents_at + set_words

  first_within : at + parents_at + set_words ≤ length old
  first_within = omega (arith, r.within)

  first_put : Put (at + parents_at) part old half
  first_put = back_put old part (at + parents_at) b first_within l

  pub next_within : next + set_words ≤ length half
  next_within = omega (arith, first_put.long, r.within)

  pub unlinked_both : (rest : List ℕ)
      → ((i : ℕ) → has_in part i ≡ (has_in (take (up_to (at + parents_at) set_words) (drop (at + parents_at) old)) i && not (eqb i b)))
      → Fits half → length rest ≡ length (take (up_to next set_words) (drop next half))
      → ((i : ℕ) → has_in rest i ≡ (has_in (take (up_to next set_words) (drop next half)) i && not (eqb i b)))
      → Fits (back next (up_to next set_words) rest half) → Becomes (changed s (unlinked b)) old (back next (up_to next set_words) rest half)
  unlinked_both rest g f m k d =
      let new = back next (up_to next set_words) rest half in
      let n : next ≡ at + children_at = omega arith in
      unlink_becomes old half new s r b part rest first_put
      (back_long old part (at + parents_at) b first_within l)
      (back_minus old part (at + parents_at) b first_within l f g)
      (subst (λ (n : ℕ). Put n rest half new) n (back_put half rest next b next_within m))
      (back_long half rest next b next_within m)
      (back_minus half rest next b next_within m d k ∙ ap (λ (n : ℕ). minus (set_from half n) b) n)

-- ---- a table made anew

rows_free : (n : ℕ) → rows_of (free_slots n) ≡ replicate (n * row) 0
unfolding rows_of free_slots
rows_free zero = refl
rows_free (suc n) =
    let e : 39 + n * 39 ≡ suc n * 39 = omega arith in
    ap₂ ◌++◌ free_zeros (rows_free n) ∙ replicate-append-replicate row (n * row) 0 ∙ ap (λ (m : ℕ). replicate m 0) e

-- all zeros, and then the limits at the start
pub made_becomes : (old zeros : List ℕ) (l : Limits) → is_legal (length old) ≡ true → zeros ≡ replicate (length old) 0
    → Becomes (λ p. made l (slot_count p)) old (set (set (set zeros 0 l.count) 1 l.size) 2 l.bytes_per_sigop)
unfolding made table_of slot_at
made_becomes old zeros l e z =
    record {
      long = simp (length-set) (ap length z ∙ length-replicate (length old) 0);
      means = λ h. ap pool_of is_table ∙ pool_table (made l n) (whole_made l n);
      stays = λ h. clash e h;
    }
  where
    n : ℕ
    n = slot_count (pool_of old)

    long : length old ≡ suc (suc (suc (suc (n * row))))
    long = omega (arith, legal_long (length old) e, slot_count_lem old)

    is_table : set (set (set zeros 0 l.count) 1 l.size) 2 l.bytes_per_sigop ≡ table_of (made l n)
    is_table =
        ap (λ (ws : List ℕ). set (set (set ws 0 l.count) 1 l.size) 2 l.bytes_per_sigop) (z ∙ ap (λ (k : ℕ). replicate k 0) long)
        ∙ ap (λ (ws : List ℕ). l.count ∷ l.size ∷ l.bytes_per_sigop ∷ 0 ∷ ws) (sym (rows_free n))
