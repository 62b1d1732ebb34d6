-- A text that is longer than the lines of the largest cluster: whatever stands in it, it is no cluster. Assumes nothing.
use mathlib.Core.Path.{◌≡◌, refl, ◌∙◌}
use mathlib.Core.Bool.{true, ◌&&◌}
use mathlib.Core.List.{List, [], ◌∷◌, ◌++◌}
use Prim.Native.Nat.{ℕ, zero, suc, ◌+◌, ◌*◌, ◌≤◌, ◌<◌}
use native.Mathlib.Omega.{arith}
use lib.ListN.{length, drop, length-drop}
use lib.IntN.{ℤ}
use Rattle.std.proofs.Common.{Ok}
use Rattle.texts.specs.Numerals.{number_of, signed_of, is_number, is_signed}
use Rattle.texts.specs.Places.{behind}
use Rattle.cluster_reader.specs.Lines.{longest_line, longest_text, is_field, value_of}
use Rattle.cluster_reader.specs.Reading.{fee_key, size_key, parents_key}
use Rattle.cluster_reader.specs.Reading.{is_member, member_fee, member_size, member_parents, next_member, Read, refused, members, read, told, first_told}
use Rattle.cluster_reader.specs.Steps.{next_line}
use Rattle.lists.proofs.Bools.{and_both, cond_where}
use Rattle.cluster_reader.proofs.Places.{field_passes}
use Rattle.cluster_reader.proofs.Reading.{read_count}

-- a member's three lines pass at most three lines' bytes
member_passes : (xs : List ℕ) → is_member xs ≡ true → length xs ≤ 3 * longest_line + length (next_member xs)
unfolding is_member
member_passes xs e =
    let size = behind 10 xs in
    let parents = behind 10 size in
    let p = and_both (is_field fee_key xs && is_signed (signed_of (value_of fee_key xs))) _ e in
    let q = and_both (is_field size_key size && is_number (number_of (value_of size_key size))) _ p.1 in
    let a = field_passes fee_key xs (and_both (is_field fee_key xs) _ p.0).0 in
    let b = field_passes size_key size (and_both (is_field size_key size) _ q.0).0 in
    let c = field_passes parents_key parents (and_both (is_field parents_key parents) _ q.1).0 in
    omega arith

-- so where more stands there than k members can have, something is behind them, or one of them is not of its form
members_full : (k : ℕ) (xs : List ℕ) (fs : List ℤ) (ss ps : List ℕ) → k * (3 * longest_line) < length xs → members k xs fs ss ps ≡ refused 13
unfolding members
members_full zero [] fs ss ps l = absurd (omega arith)
members_full zero (x ∷ xs) fs ss ps l = refl
members_full (suc k) xs fs ss ps l =
    cond_where (λ (r : Read). r ≡ refused 13) (is_member xs)
    (λ e. members_full k (next_member xs) (fs ++ (member_fee xs ∷ [])) (ss ++ (member_size xs ∷ [])) (ps ++ (member_parents xs ∷ []))
    (omega (arith, member_passes xs e)))
    (λ _. refl)

-- a first line that gives a number of members, in a text that has more than those can have
pub count_full : (text : List ℕ) (n : ℕ) → first_told text ≡ told (Ok n) → longest_text < length text → read text ≡ refused 13
count_full text n h long =
    let c = read_count text n h in
    c.is ∙ members_full n (drop (next_line text 0) text) [] [] [] (omega (arith, c.few, c.near, length-drop (next_line text 0) text))
