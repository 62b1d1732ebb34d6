-- Laws of specs/Reading.antt: the first line, a member's lines, and the members one after the other. Assumes nothing.
use mathlib.Core.Path.{◌≡◌, refl, sym, ap, subst, ◌∙◌}
use mathlib.Core.Bool.{Bool, true, false, cond, ◌&&◌, and-false, and-true}
use mathlib.Core.Logic.{◌⊎◌, inl, inr, ⊎_elim}
use mathlib.Core.List.{List, [], ◌++◌}
use Prim.Native.Nat.{ℕ, suc, ◌+◌, ◌-◌, ◌≤◌, ◌<◌}
use native.Mathlib.Nat.{sub-zero}
use native.Mathlib.Numerals.{add-one}
use native.Mathlib.Omega.{arith}
use lib.Dec.{ltb}
use lib.ListN.{length, drop, take, set, length-drop, length-set, drop_of_length-le}
use lib.Seq.{drop-cons, take-suc-set}
use lib.IntN.{ℤ}
use borrow.Author.Tests.{lt-ltb, le-ltb, ltb-true, ltb-false, ne_eqb}
use Rattle.txset.specs.Sets.{positions, set_words}
use Rattle.lists.proofs.Numbers.{lt_or_ge}
use Rattle.std.proofs.Common.{Some, None, Result, Ok, Err}
use Rattle.refusals.specs.Refusals.{number_of as refusal_number}
use Rattle.lists.proofs.Bools.{and_both, cases, cond_first, cond_second}
use Rattle.txset.specs.declared.TxSet.{TxSet}
use Rattle.texts.specs.Numerals.{number_of, signed_of, is_number, number_in, are_numbers, is_signed}
use Rattle.texts.specs.Places.{before, behind}
use Rattle.texts.proofs.Places.{place_behind}
use Rattle.refusals.specs.declared.Refusal.{Refusal}
use Rattle.refusals.specs.declared.Refusal.TheVariants.{LengthsDiffer, TooManyMembers, OutOfRange, Cycle, NotAnOrder, TxidPresent, NoSlotFree, ClusterTooMany, ClusterTooLarge, TxidAbsent, RoomTooShort, TableIllFormed, InputIllFormed}
use Rattle.cluster_reader.specs.declared.MemberLines.{MemberLines}
use Rattle.cluster_reader.specs.Lines.{longest_line, is_field, value_of}
use Rattle.cluster_reader.specs.Reading.{n_key, fee_key, size_key, parents_key, parts, word_of}
use Rattle.cluster_reader.specs.Reading.{is_member, member_fee, member_size, member_parents, next_member, Read, refused, cluster, members, read}
use Rattle.cluster_reader.specs.Reading.{Told, told, read_told, first_told}
use Rattle.cluster_reader.specs.Calls.{fees_after, sizes_after, parents_after, Decided, is_decided}
use Rattle.cluster_reader.specs.Steps.{next_line, number_at, has_end, member_at, parents_in}
use Rattle.cluster_reader.proofs.Places.{Field, field_inside, field_short, goes_on, too_long}

-- ---- the first line

module _ (text : List ℕ) where
  pub first_no_field : is_field n_key text ≡ false → first_told text ≡ told (Err InputIllFormed)
  unfolding first_told
  first_no_field e = rw e

  pub number_found : is_field n_key text ≡ true → number_at text ≡ number_of (value_of n_key text)
  unfolding number_at
  number_found e = rw e

  pub number_none : is_field n_key text ≡ false → number_at text ≡ None
  unfolding number_at
  number_none e = rw e

  -- what was read of the number decides
  pub first_none : number_at text ≡ None → first_told text ≡ told (Err InputIllFormed)
  unfolding first_told number_at
  first_none e = cases (is_field n_key text) (λ f. rw (rw f at e, and-false (is_field n_key text))) (λ f. rw f)

  module _ (n : ℕ) (e : number_at text ≡ Some n) where
    read_so : (is_field n_key text ≡ true) × (number_of (value_of n_key text) ≡ Some n)
    unfolding number_at
    read_so = cond_first (is_field n_key text) e (λ q. let z : ◌≡◌ {A = ℕ} 0 1 = cc in omega arith)

    pub first_many : positions < n → first_told text ≡ told (Err TooManyMembers)
    unfolding first_told
    first_many l = rw (read_so.0, read_so.1, lt-ltb positions n l)

    pub first_count : n ≤ positions → first_told text ≡ told (Ok n)
    unfolding first_told
    first_count l = rw (read_so.0, read_so.1, le-ltb positions n l)

-- ---- a member's three lines

module _ (text : List ℕ) (from : ℕ) where
  abbrev fee_line : List ℕ
  fee_line = drop from text

  abbrev size_line : List ℕ
  size_line = behind 10 fee_line

  abbrev parents_line : List ℕ
  parents_line = behind 10 size_line

  abbrev fee_test : Bool
  fee_test = is_field fee_key fee_line && is_signed (signed_of (value_of fee_key fee_line))

  abbrev size_test : Bool
  size_test = is_field size_key size_line && is_number (number_of (value_of size_key size_line))

  abbrev parents_test : Bool
  parents_test = is_field parents_key parents_line && are_numbers (parts (value_of parents_key parents_line))

  not_fee : fee_test ≡ false → member_at text from ≡ None
  unfolding member_at is_member
  not_fee e = rw e

  not_size : size_test ≡ false → member_at text from ≡ None
  unfolding member_at is_member
  not_size e = rw (e, and-false fee_test)

  not_parents : parents_test ≡ false → member_at text from ≡ None
  unfolding member_at is_member
  not_parents e = rw (e, and-false size_test, and-false fee_test)

  pub no_fee_line : is_field fee_key fee_line ≡ false → member_at text from ≡ None
  no_fee_line e = not_fee (rw e)

  pub no_fee : signed_of (value_of fee_key fee_line) ≡ None → member_at text from ≡ None
  no_fee e = not_fee (rw (e, and-false (is_field fee_key fee_line)))

  pub no_size_line : is_field size_key size_line ≡ false → member_at text from ≡ None
  no_size_line e = not_size (rw e)

  pub no_size : number_of (value_of size_key size_line) ≡ None → member_at text from ≡ None
  no_size e = not_size (rw (e, and-false (is_field size_key size_line)))

  pub no_parents_line : is_field parents_key parents_line ≡ false → member_at text from ≡ None
  no_parents_line e = not_parents (rw e)

  pub no_parents : parents_in (value_of parents_key parents_line) ≡ None → member_at text from ≡ None
  unfolding parents_in
  no_parents e =
      let p = cond_second (are_numbers (parts (value_of parents_key parents_line))) e (λ q. let z : ◌≡◌ {A = ℕ} 0 1 = cc in omega arith) in
      not_parents (rw (p.0, and-false (is_field parents_key parents_line)))

  pub member_read : {s₁ e₁ s₂ e₂ s₃ e₃ : ℕ} (f : ℤ) (n : ℕ) (p : TxSet)
      → Field fee_key fee_line text from s₁ e₁ → signed_of (value_of fee_key fee_line) ≡ Some f
      → Field size_key size_line text (e₁ + 1) s₂ e₂ → number_of (value_of size_key size_line) ≡ Some n
      → Field parents_key parents_line text (e₂ + 1) s₃ e₃ → parents_in (value_of parents_key parents_line) ≡ Some p
      → member_at text from ≡ Some (record { fee = f; size = n; parents = p; next = e₃ + 1 })
  unfolding member_at is_member parents_in
  member_read f n p a ea b eb c ec =
      let q = cond_first (are_numbers (parts (value_of parents_key parents_line))) ec (λ q. let z : ◌≡◌ {A = ℕ} 0 1 = cc in omega arith) in
      let s : record { word = word_of 0 (parts (value_of parents_key parents_line)) } ≡ p = cc in
      rw (a.field, ea, b.field, eb, c.field, q.0, s, c.at, b.at, a.at)

-- what a caller learns of a member that was read where the text goes on as xs
pub record Lines (xs text : List ℕ) (m : MemberLines) : Type 0 where
  pub member : is_member xs ≡ true
  pub fee : m.fee ≡ member_fee xs
  pub size : m.size ≡ member_size xs
  pub word : m.parents.word ≡ member_parents xs
  pub next : drop m.next text ≡ next_member xs
  pub inside : m.next ≤ length text

module _ (text : List ℕ) (from : ℕ) where
  last_inside : is_member (drop from text) ≡ true → next_line text (next_line text (next_line text from)) ≤ length text
  unfolding is_member
  last_inside e =
      let at = next_line text (next_line text from) in
      let here : drop at text ≡ parents_line text from = place_behind 10 text (next_line text from) ∙ ap (behind 10) (place_behind 10 text from) in
      let p = (and_both (size_test text from) (parents_test text from) (and_both (fee_test text from) (size_test text from && parents_test text from) e).1).1 in
      let f = (and_both (is_field parents_key (parents_line text from)) (are_numbers (parts (value_of parents_key (parents_line text from)))) p).0 in
      omega (arith, field_inside parents_key (drop at text) (ap (is_field parents_key) here ∙ f), length-drop at text)

  pub member_lines : (m : MemberLines) → member_at text from ≡ Some m → Lines (drop from text) text m
  unfolding member_at
  member_lines m h =
      let p = cond_first (is_member (drop from text)) h (λ e. let z : ◌≡◌ {A = ℕ} 0 1 = cc in omega arith) in
      let q : record {
        fee = member_fee (drop from text);
        size = member_size (drop from text);
        parents = record { word = member_parents (drop from text) };
        next = next_line text (next_line text (next_line text from));
      } ≡ m = cc in
      let n : next_line text (next_line text (next_line text from)) ≡ m.next = ap (λ (t : MemberLines). t.next) q in
      record {
        member = p.0;
        fee = sym (ap (λ (t : MemberLines). t.fee) q);
        size = sym (ap (λ (t : MemberLines). t.size) q);
        word = sym (ap (λ (t : MemberLines). t.parents.word) q);
        next =
            ap (λ (k : ℕ). drop k text) (sym n)
            ∙ place_behind 10 text (next_line text (next_line text from))
            ∙ ap (behind 10) (place_behind 10 text (next_line text from) ∙ ap (behind 10) (place_behind 10 text from));
        inside = omega (arith, last_inside p.0);
      }

  pub member_malformed : member_at text from ≡ None → is_member (drop from text) ≡ false
  unfolding member_at
  member_malformed h = (cond_second (is_member (drop from text)) h (λ e. let z : ◌≡◌ {A = ℕ} 0 1 = cc in omega arith)).0

-- ---- the members: i of them are in the lists, and the next starts at `at`

pub record Taken (n : ℕ) (text : List ℕ) (from : ℕ) (fs : List ℤ) (ss ps : List ℕ) (at i : ℕ) : Type 0 where
  pub count : i ≤ n
  pub within : at ≤ length text
  pub fees : length fs ≡ positions
  pub sizes : length ss ≡ positions
  pub words : length ps ≡ set_words
  pub rest : members n (drop from text) [] [] [] ≡ members (n - i) (drop at text) (take i fs) (take i ss) (take i ps)

pub none_taken : (n : ℕ) (text : List ℕ) (from : ℕ) (fs : List ℤ) (ss ps : List ℕ) → from ≤ length text
    → length fs ≡ positions → length ss ≡ positions → length ps ≡ set_words → Taken n text from fs ss ps from 0
none_taken n text from fs ss ps l f s p = record {
  count = omega arith;
  within = l;
  fees = f;
  sizes = s;
  words = p;
  rest = ap (λ (k : ℕ). members k (drop from text) [] [] []) (sym (sub-zero n));
}

module _ {n : ℕ} {text : List ℕ} {from : ℕ} {fs : List ℤ} {ss ps : List ℕ} {at i : ℕ} (t : Taken n text from fs ss ps at i) where
  more : i < n → members n (drop from text) [] [] [] ≡ members (suc (n - (i + 1))) (drop at text) (take i fs) (take i ss) (take i ps)
  more l =
      let e : n - i ≡ suc (n - (i + 1)) = omega arith in
      t.rest ∙ ap (λ (k : ℕ). members k (drop at text) (take i fs) (take i ss) (take i ps)) e

  all : n ≤ i → members n (drop from text) [] [] [] ≡ members 0 (drop at text) (take i fs) (take i ss) (take i ps)
  all l =
      let e : n - i ≡ 0 = omega arith in
      t.rest ∙ ap (λ (k : ℕ). members k (drop at text) (take i fs) (take i ss) (take i ps)) e

  pub stop : i < n → is_member (drop at text) ≡ false → members n (drop from text) [] [] [] ≡ refused 13
  unfolding members
  stop l e = more l ∙ rw e

  pub turn : i < n → n ≤ positions → (m : MemberLines) → Lines (drop at text) text m → {fs' : List ℤ} {ss' ps' : List ℕ}
      → fs' ≡ set fs i m.fee → ss' ≡ set ss i m.size → ps' ≡ set ps i m.parents.word → Taken n text from fs' ss' ps' m.next (i + 1)
  unfolding members
  turn l h m r ef es ep =
      rw (ef, es, ep)
      (record {
        count = omega arith;
        within = r.inside;
        fees = length-set fs i m.fee ∙ t.fees;
        sizes = length-set ss i m.size ∙ t.sizes;
        words = length-set ps i m.parents.word ∙ t.words;
        rest =
            more l
            ∙ rw (
              r.member,
              add-one i,
              r.next,
              take-suc-set fs i m.fee (omega arith),
              take-suc-set ss i m.size (omega arith),
              take-suc-set ps i m.parents.word (omega arith),
              r.fee,
              r.size,
              r.word,
            );
      })

  pub tail : n ≤ i → at < length text → members n (drop from text) [] [] [] ≡ refused 13
  unfolding members
  tail l h = all l ∙ rw (drop-cons text at 0 h)

  pub done : n ≤ i → length text ≤ at → members n (drop from text) [] [] [] ≡ cluster (take n fs) (take n ss) (take n ps)
  unfolding members
  done l h =
      let e : i ≡ n = omega arith in
      all l ∙ rw (drop_of_length-le text h, e)

-- ---- the arrays and the answer, by what was read

abbrev pub Left : Read → Result ℕ Refusal → List ℤ → List ℤ → List ℕ → List ℕ → List ℕ → List ℕ → Type 0
Left r a fs fs₀ ss ss₀ ps ps₀ = (told a ≡ read_told r) × ((fs ≡ fees_after r fs₀) × ((ss ≡ sizes_after r ss₀) × (ps ≡ parents_after r ps₀)))

-- a refusal leaves them
pub refused_left : (e : Refusal) {r : Read} {fs : List ℤ} {ss ps : List ℕ} → r ≡ refused (refusal_number e) → Left r (Err e) fs fs ss ss ps ps
refused_left e h = rw h (refl, (refl, (refl, refl)))

-- what was read takes their start
pub cluster_left : (fs : List ℤ) (ss ps : List ℕ) (n : ℕ) {r : Read} {gs hs : List ℤ} {ts us qs vs : List ℕ} → r ≡ cluster gs ts qs → length gs ≡ n
    → hs ≡ gs ++ drop n fs → us ≡ ts ++ drop n ss → vs ≡ qs ++ drop n ps → Left r (Ok n) hs fs us ss vs ps
cluster_left fs ss ps n e l a b c = rw (e, l) (refl, (a, (b, c)))

-- ---- what the first line decides

-- a refusal's number is not 0
pub number_some : (e : Refusal) → 0 < refusal_number e
number_some e = elim e as (λ (r : Refusal). 0 < refusal_number r) [
  | LengthsDiffer ↦ omega arith
  | TooManyMembers ↦ omega arith
  | OutOfRange ↦ omega arith
  | Cycle ↦ omega arith
  | NotAnOrder ↦ omega arith
  | TxidPresent ↦ omega arith
  | NoSlotFree ↦ omega arith
  | ClusterTooMany ↦ omega arith
  | ClusterTooLarge ↦ omega arith
  | TxidAbsent ↦ omega arith
  | RoomTooShort ↦ omega arith
  | TableIllFormed ↦ omega arith
  | InputIllFormed ↦ omega arith
]

-- two answers of different numbers are two
apart : {s t : Told} → s ≡ t → s.number ≡ t.number
apart e = ap (λ (t : Told). t.number) e

module _ (text : List ℕ) where
  abbrev is_first : Bool
  is_first = is_field n_key text && is_number (number_of (value_of n_key text))

  abbrev count : ℕ
  count = number_in (number_of (value_of n_key text))

  abbrev above : Bool
  above = ltb positions count

  -- it is one of two
  pub which : (e : Refusal) → first_told text ≡ told (Err e) → (told (Err e) ≡ told (Err TooManyMembers)) ⊎ (told (Err e) ≡ told (Err InputIllFormed))
  unfolding first_told
  which e h = go is_first above count h
    where
      go : (a b : Bool) (n : ℕ) → cond a (cond b (told (Err TooManyMembers)) (told (Ok n))) (told (Err InputIllFormed)) ≡ told (Err e)
          → (told (Err e) ≡ told (Err TooManyMembers)) ⊎ (told (Err e) ≡ told (Err InputIllFormed))
      go true true n q = inl (sym q)
      go true false n q = absurd (omega (arith, apart q, number_some e))
      go false b n q = inr (sym q)

  -- a refusal by the first line is what is read
  pub read_err : (e : Refusal) → first_told text ≡ told (Err e) → read text ≡ refused (refusal_number e)
  unfolding first_told read
  read_err e h = go is_first above count _ h
    where
      go : (a b : Bool) (n : ℕ) (m : Read) → cond a (cond b (told (Err TooManyMembers)) (told (Ok n))) (told (Err InputIllFormed)) ≡ told (Err e)
          → cond a (cond b (refused 2) m) (refused 13) ≡ refused (refusal_number e)
      go true true n m q = ap refused (apart q)
      go true false n m q = absurd (omega (arith, apart q, number_some e))
      go false b n m q = ap refused (apart q)

  -- a first line that is of its form, with a number above 64 or not
  record Whole (t : Told) : Type 0 where
    form : is_first ≡ true
    says : cond above (told (Err TooManyMembers)) (told (Ok count)) ≡ t
    ends : length (before 10 text) < length text

  whole : {t : Told} → first_told text ≡ t → (told (Err InputIllFormed) ≡ t → ⊥) → Whole t
  unfolding first_told
  whole h n =
      let p = cond_first is_first h n in
      record { form = p.0; says = p.1; ends = field_inside n_key text (and_both (is_field n_key text) (is_number (number_of (value_of n_key text))) p.0).0 }

  whole_many : first_told text ≡ told (Err TooManyMembers) → Whole (told (Err TooManyMembers))
  whole_many h = whole h (λ e. omega (arith, apart e))

  pub record Counted (n : ℕ) : Type 0 where
    pub is : read text ≡ members n (drop (next_line text 0) text) [] [] []
    pub few : n ≤ positions
    pub inside : next_line text 0 ≤ length text
    pub near : next_line text 0 ≤ longest_line
    pub ends : length (before 10 text) < length text

  pub read_count : (n : ℕ) → first_told text ≡ told (Ok n) → Counted n
  unfolding read
  read_count n h =
      let w = whole h (λ e. omega (arith, apart e)) in
      let b = cond_second above w.says (λ e. omega (arith, apart e)) in
      let same : count ≡ n = ap (λ (t : Told). t.count) b.1 in
      record {
        is = rw (w.form, b.0, same) (ap (λ (xs : List ℕ). members n xs [] [] []) (sym (place_behind 10 text 0)));
        few = omega (arith, ltb-false positions count b.0);
        inside = omega (arith, w.ends);
        near = omega (arith, field_short n_key text (and_both (is_field n_key text) (is_number (number_of (value_of n_key text))) w.form).0);
        ends = w.ends;
      }

-- the first line says the same where the text goes on
pub first_goes_on : (start rest : List ℕ) → length (before 10 start) < length start → first_told (start ++ rest) ≡ first_told start
unfolding first_told
first_goes_on start rest l =
    let s = goes_on n_key start rest l in
    rw (s.field, s.value)

pub many_decided : (start : List ℕ) → first_told start ≡ told (Err TooManyMembers) → Decided start true
many_decided start h =
    λ rest. read_err (start ++ rest) TooManyMembers (first_goes_on start rest (whole_many start h).ends ∙ h) ∙ sym (read_err start TooManyMembers h)

-- which starts decide
module _ (start : List ℕ) where
  pub count_open : (n : ℕ) → first_told start ≡ told (Ok n) → false ≡ is_decided start
  unfolding is_decided
  count_open n h = sym (rw h (and-false (has_end start)))

  pub refused_certain : (e : Refusal) → first_told start ≡ told (Err e) → has_end start ≡ is_decided start
  unfolding is_decided
  refused_certain e h = sym (rw (h, ne_eqb (refusal_number e) 0 (λ q. omega (arith, q, number_some e))) (and-true (has_end start)))

  many_whole : first_told start ≡ told (Err TooManyMembers) → has_end start ≡ true
  many_whole h = rw (lt-ltb (length (before 10 start)) (length start) (whole_many start h).ends)

pub malformed_decided : (start : List ℕ) → first_told start ≡ told (Err InputIllFormed) → Decided start (has_end start)
malformed_decided start h = go (has_end start) refl
  where
    short : has_end start ≡ true → length start ≤ length (before 10 start) → 1024 < length start
    short e l = ltb-true 1024 (length start) (rw (le-ltb (length (before 10 start)) (length start) l) at e)

    go : (b : Bool) → has_end start ≡ b → Decided start b
    go true e =
        λ rest. read_err (start ++ rest) InputIllFormed
        (⊎_elim
        (λ l. first_goes_on start rest l ∙ h)
        (λ l. first_no_field (start ++ rest) (too_long n_key start rest l (short e l)))
        (lt_or_ge (length (before 10 start)) (length start)))
        ∙ sym (read_err start InputIllFormed h)
    go false e = tt

-- a refusal by the first line decides, once the line is whole or too long
pub refused_decided : (start : List ℕ) (e : Refusal) → first_told start ≡ told (Err e) → Decided start (has_end start)
refused_decided start e h =
    ⊎_elim
    (λ t. subst (Decided start) (sym (many_whole start (h ∙ t))) (many_decided start (h ∙ t)))
    (λ t. malformed_decided start (h ∙ t))
    (which start e h)
