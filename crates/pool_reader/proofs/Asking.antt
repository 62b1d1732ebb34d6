-- From what was read of a line to what the line asks for. Assumes nothing.
use mathlib.Core.Path.{◌≡◌, refl, sym, ap, ◌∙◌}
use mathlib.Core.Bool.{true, false, ◌&&◌, and-false}
use mathlib.Core.List.{List, [], ◌∷◌, ◌++◌}
use Prim.Native.Nat.{ℕ, ◌+◌, ◌≤◌, ◌<◌}
use native.Mathlib.Nat.{zero-add}
use native.Mathlib.Omega.{arith}
use lib.Dec.{eqb, leb}
use lib.IntN.{ℤ}
use lib.ListN.{length, get_or, take, drop}
use borrow.Author.Tests.{le-leb, lt-leb, eq-eqb, ne_eqb, eqb-true, eqb-false}
use Rattle.lists.proofs.Bools.{cases, and_both}
use Rattle.lists.specs.Lists.{all_of, same}
use Rattle.std.proofs.Common.{Some, None}
use Rattle.texts.specs.Numerals.{are_numbers, signed_of}
use Rattle.texts.specs.Places.{before, place_of, split}
use Rattle.texts.proofs.Places.{before_take}
use Rattle.texts.specs.Hex.{is_hex64, hex_bytes}
use Rattle.txids.specs.Txids.{txid_at}
use Rattle.pool_rules.specs.Calls.{entry_of}
use Rattle.pool_reader.specs.Requests.{Request, make, add, remove, set_cost, clear, totals, delta, mark, template, malformed}
use Rattle.pool_reader.specs.Requests.{numbers_in, are_txids, bytes_in, longest_line, request_of, by_word, by_plain_word}
use Rattle.pool_reader.specs.Requests.{make_word, clear_word, totals_word, delta_word, mark_word, template_word, add_word, remove_word, set_cost_word}
use Rattle.pool_reader.specs.Requests.{as_add, as_remove, as_set_cost, as_make, as_alone, as_delta, as_mark, as_template}
use Rattle.pool_reader.specs.Steps.{words_at, Place, start_numbers, starts_txid}
use Rattle.pool_reader.proofs.Reading.{words_none, words_next}

-- ---- the line

pub too_long : (line : List ℕ) → longest_line < length line → request_of line ≡ malformed
unfolding request_of
too_long line l = rw (lt-leb (length line) longest_line l)

pub by_word_lem : (line : List ℕ) → length line ≤ longest_line
    → request_of line ≡ by_word (take (place_of 32 line 0) line) (words_at line (place_of 32 line 0 + 1))
unfolding request_of words_at
by_word_lem line l =
    let rest = words_at line (place_of 32 line 0 + 1) in
    let s : split 32 line ≡ before 32 line ∷ rest = sym (rw (le-leb 0 (length line) (omega arith))) ∙ words_next line 0 (omega arith) in
    let w : before 32 line ≡ take (place_of 32 line 0) line =
    sym (ap (λ (n : ℕ). take n line) (zero-add (length (before 32 line))) ∙ before_take 32 line) in
    rw (le-leb (length line) longest_line l, s) (ap (λ (k : List ℕ). by_word k rest) w)

pub first_within : (line : List ℕ) → length line ≤ longest_line → (end : ℕ) → end ≤ length line → Place line (end + 1)
first_within line l end h = record { short = l; within = omega arith }

-- ---- numbers alone

module _ (ws : List (List ℕ)) where
  pub no_make : (eqb (length ws) 4 && are_numbers ws) ≡ false → as_make ws ≡ malformed
  unfolding as_make
  no_make e = rw e

  pub no_mark : (eqb (length ws) 2 && are_numbers ws) ≡ false → as_mark ws ≡ malformed
  unfolding as_mark
  no_mark e = rw e

  pub no_terms : (eqb (length ws) 3 && are_numbers ws) ≡ false → as_template ws ≡ malformed
  unfolding as_template
  no_terms e = rw e

  module _ (values : List ℕ) (v : values ≡ numbers_in ws) where
    pub is_make : (eqb (length ws) 4 && are_numbers ws) ≡ true
        → as_make ws
        ≡ make (get_or values 0 0) (record { count = get_or values 1 0; size = get_or values 2 0; bytes_per_sigop = get_or values 3 0 })
    unfolding as_make
    is_make e = rw (e, v)

    pub is_mark : (eqb (length ws) 2 && are_numbers ws) ≡ true → as_mark ws ≡ mark (get_or values 0 0) (get_or values 1 0)
    unfolding as_mark
    is_mark e = rw (e, v)

    pub is_terms : (eqb (length ws) 3 && are_numbers ws) ≡ true
        → as_template ws ≡ template (record { budget = record { 0 = get_or values 0 0 }; reserve = get_or values 1 0; minimum = get_or values 2 0 })
    unfolding as_template
    is_terms e = rw (e, v)

-- ---- a txid first

pub no_txid_remove : (ws : List (List ℕ)) → starts_txid ws ≡ false → as_remove ws ≡ malformed
unfolding as_remove
no_txid_remove [] e = refl
no_txid_remove (w ∷ ws) e = rw (e, and-false (eqb (length (w ∷ ws)) 1))

pub more_remove : (w v : List ℕ) (ws : List (List ℕ)) → as_remove (w ∷ v ∷ ws) ≡ malformed
unfolding as_remove
more_remove w v ws = rw (ne_eqb (length (w ∷ v ∷ ws)) 1 (λ e. omega arith))

pub is_remove : (w : List ℕ) → is_hex64 w ≡ true → as_remove (w ∷ []) ≡ remove (txid_at (hex_bytes w) 0)
unfolding as_remove
is_remove w e = rw e

pub no_txid_cost : (ws : List (List ℕ)) → starts_txid ws ≡ false → as_set_cost ws ≡ malformed
unfolding as_set_cost
no_txid_cost [] e = refl
no_txid_cost (w ∷ ws) e = rw (e, and-false (eqb (length (w ∷ ws)) 2))

module _ (w : List ℕ) (ws : List (List ℕ)) where
  pub no_cost : (eqb (length ws) 1 && are_numbers ws) ≡ false → as_set_cost (w ∷ ws) ≡ malformed
  unfolding as_set_cost
  no_cost f = cases (eqb (length ws) 1) as_many (λ g. rw (ne_eqb (length (w ∷ ws)) 2 (λ q. eqb-false (length ws) 1 g (omega arith))))
    where
      as_many : eqb (length ws) 1 ≡ true → as_set_cost (w ∷ ws) ≡ malformed
      as_many t =
          let n : are_numbers ws ≡ false = rw t at f in
          rw (n, and-false (is_hex64 w), and-false (eqb (length (w ∷ ws)) 2))

  pub is_cost : (values : List ℕ) → is_hex64 w ≡ true → (eqb (length ws) 1 && are_numbers ws) ≡ true → values ≡ numbers_in ws
      → as_set_cost (w ∷ ws) ≡ set_cost (txid_at (hex_bytes w) 0) (get_or values 0 0)
  unfolding as_set_cost numbers_in
  is_cost values h e v =
      let f = and_both (eqb (length ws) 1) (are_numbers ws) e in
      rw (h, f.1, v, eq-eqb (length (w ∷ ws)) 2 (omega (arith, eqb-true (length ws) 1 f.0)))

pub no_txid_add : (ws : List (List ℕ)) → starts_txid ws ≡ false → as_add ws ≡ malformed
unfolding as_add
no_txid_add [] e = refl
no_txid_add (w ∷ ws) e = rw (e, and-false (leb 4 (length (w ∷ ws))))

pub no_numbers_add : (w : List ℕ) (ws : List (List ℕ)) → start_numbers 3 ws ≡ false → as_add (w ∷ ws) ≡ malformed
unfolding as_add are_numbers all_of start_numbers
no_numbers_add w [] e = refl
no_numbers_add w (a ∷ []) e = refl
no_numbers_add w (a ∷ b ∷ []) e = refl
no_numbers_add w (a ∷ b ∷ d ∷ ws) e = rw (e, and-false (is_hex64 w), and-false (leb 4 (length (w ∷ a ∷ b ∷ d ∷ ws))))

pub no_parents_add : (w : List ℕ) (read ps : List (List ℕ)) → length read ≡ 3 → are_txids ps ≡ false → as_add (w ∷ (read ++ ps)) ≡ malformed
unfolding as_add
no_parents_add w [] ps l e = absurd (omega arith)
no_parents_add w (a ∷ []) ps l e = absurd (omega arith)
no_parents_add w (a ∷ b ∷ []) ps l e = absurd (omega arith)
no_parents_add w (a ∷ b ∷ d ∷ []) ps l e =
    rw (e, and-false (are_numbers (a ∷ b ∷ d ∷ [])), and-false (is_hex64 w), and-false (leb 4 (length (w ∷ a ∷ b ∷ d ∷ ps))))
no_parents_add w (a ∷ b ∷ d ∷ f ∷ read) ps l e = absurd (omega arith)

pub is_add : (w : List ℕ) (read ps : List (List ℕ)) → length read ≡ 3 → is_hex64 w ≡ true → are_numbers read ≡ true → are_txids ps ≡ true
    → as_add (w ∷ (read ++ ps))
    ≡ add (entry_of (hex_bytes w) (get_or (numbers_in read) 0 0) (get_or (numbers_in read) 1 0) (get_or (numbers_in read) 2 0)) (bytes_in ps)
unfolding as_add numbers_in
is_add w [] ps l h n e = absurd (omega arith)
is_add w (a ∷ []) ps l h n e = absurd (omega arith)
is_add w (a ∷ b ∷ []) ps l h n e = absurd (omega arith)
is_add w (a ∷ b ∷ d ∷ []) ps l h n e = rw (h, n, e, le-leb 4 (length (w ∷ a ∷ b ∷ d ∷ ps)) (omega arith))
is_add w (a ∷ b ∷ d ∷ f ∷ read) ps l h n e = absurd (omega arith)

-- ---- a number and a delta

pub no_slot : (ws : List (List ℕ)) → start_numbers 1 ws ≡ false → as_delta ws ≡ malformed
unfolding as_delta are_numbers all_of start_numbers
no_slot [] e = refl
no_slot (a ∷ ws) e = rw (e, and-false (eqb (length (a ∷ ws)) 2))

pub slot_alone : (read : List (List ℕ)) → length read ≡ 1 → as_delta (read ++ []) ≡ malformed
unfolding as_delta
slot_alone [] l = absurd (omega arith)
slot_alone (a ∷ []) l = refl
slot_alone (a ∷ b ∷ read) l = absurd (omega arith)

module _ (v : List ℕ) where
  pub slot_more : (read : List (List ℕ)) (u : List ℕ) (rest : List (List ℕ)) → length read ≡ 1 → as_delta (read ++ (v ∷ u ∷ rest)) ≡ malformed
  unfolding as_delta
  slot_more [] u rest l = absurd (omega arith)
  slot_more (a ∷ []) u rest l = rw (ne_eqb (length (a ∷ v ∷ u ∷ rest)) 2 (λ e. omega arith))
  slot_more (a ∷ b ∷ read) u rest l = absurd (omega arith)

  pub no_sats : (read : List (List ℕ)) → length read ≡ 1 → signed_of v ≡ None → as_delta (read ++ (v ∷ [])) ≡ malformed
  unfolding as_delta
  no_sats [] l e = absurd (omega arith)
  no_sats (a ∷ []) l e = rw (e, and-false (are_numbers (a ∷ [])))
  no_sats (a ∷ b ∷ read) l e = absurd (omega arith)

  pub is_delta : (read : List (List ℕ)) (z : ℤ) → length read ≡ 1 → are_numbers read ≡ true → signed_of v ≡ Some z
      → as_delta (read ++ (v ∷ [])) ≡ delta (get_or (numbers_in read) 0 0) z
  unfolding as_delta numbers_in
  is_delta [] z l n e = absurd (omega arith)
  is_delta (a ∷ []) z l n e = rw (n, e)
  is_delta (a ∷ b ∷ read) z l n e = absurd (omega arith)

-- ---- a word alone

module _ (r : Request) (line : List ℕ) (end : ℕ) where
  pub alone : length line ≤ end → as_alone r (words_at line (end + 1)) ≡ r
  unfolding as_alone
  alone l = rw (words_none line (end + 1) (omega arith))

  pub not_alone : end < length line → as_alone r (words_at line (end + 1)) ≡ malformed
  unfolding as_alone
  not_alone l =
      let w = before 32 (drop (end + 1) line) in
      let rest = words_at line (place_of 32 line (end + 1) + 1) in
      rw (words_next line (end + 1) (omega arith), ne_eqb (length (w ∷ rest)) 0 (λ e. omega arith))

-- ---- the first word

module _ (k : List ℕ) (ws : List (List ℕ)) where
  pub by_make : same k make_word ≡ true → by_plain_word k ws ≡ as_make ws
  unfolding by_plain_word
  by_make e = rw e

  module _ (n1 : same k make_word ≡ false) where
    pub by_clear : same k clear_word ≡ true → by_plain_word k ws ≡ as_alone clear ws
    unfolding by_plain_word
    by_clear e = rw (n1, e)

    module _ (n2 : same k clear_word ≡ false) where
      pub by_totals : same k totals_word ≡ true → by_plain_word k ws ≡ as_alone totals ws
      unfolding by_plain_word
      by_totals e = rw (n1, n2, e)

      module _ (n3 : same k totals_word ≡ false) where
        pub by_delta : same k delta_word ≡ true → by_plain_word k ws ≡ as_delta ws
        unfolding by_plain_word
        by_delta e = rw (n1, n2, n3, e)

        module _ (n4 : same k delta_word ≡ false) where
          pub by_mark : same k mark_word ≡ true → by_plain_word k ws ≡ as_mark ws
          unfolding by_plain_word
          by_mark e = rw (n1, n2, n3, n4, e)

          module _ (n5 : same k mark_word ≡ false) where
            pub by_template : same k template_word ≡ true → by_plain_word k ws ≡ as_template ws
            unfolding by_plain_word
            by_template e = rw (n1, n2, n3, n4, n5, e)

            pub by_none : same k template_word ≡ false → by_plain_word k ws ≡ malformed
            unfolding by_plain_word
            by_none e = rw (n1, n2, n3, n4, n5, e)

  pub by_add : same k add_word ≡ true → by_word k ws ≡ as_add ws
  unfolding by_word
  by_add e = rw e

  module _ (n1 : same k add_word ≡ false) where
    pub by_remove : same k remove_word ≡ true → by_word k ws ≡ as_remove ws
    unfolding by_word
    by_remove e = rw (n1, e)

    module _ (n2 : same k remove_word ≡ false) where
      pub by_set_cost : same k set_cost_word ≡ true → by_word k ws ≡ as_set_cost ws
      unfolding by_word
      by_set_cost e = rw (n1, n2, e)

      pub by_plain : same k set_cost_word ≡ false → by_word k ws ≡ by_plain_word k ws
      unfolding by_word
      by_plain e = rw (n1, n2, e)
