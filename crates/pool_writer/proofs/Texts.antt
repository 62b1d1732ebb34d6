-- A txid's bytes as the loop writes them, and that all that is printed fits the room. Assumes nothing.
use mathlib.Core.Path.{◌≡◌, refl, ap, ap₂, ◌∙◌}
use mathlib.Core.List.{List, [], ◌∷◌, ◌++◌}
use Prim.Native.Nat.{ℕ, zero, suc, ◌/◌, ◌%◌, ◌^◌, ◌≤◌}
use native.Mathlib.Nat.{mul_comm, pow-suc, div-div-eq-div-mul}
use native.Mathlib.Omega.{arith}
use lib.ListN.{length, length-append}
use Rattle.std.specs.Int.{bytes_high_first, byte_at}
use Rattle.slotsets.specs.SlotSets.{capacity}
use Rattle.txids.specs.declared.Txid.{Txid}
use Rattle.texts.specs.Writing.{decimal, text_line}
use Rattle.texts.proofs.Digits.{decimal_length}
use Rattle.texts.proofs.HexText.{text_length}
use Rattle.texts.proofs.Numbers.{joined_length, commas_length}
use Rattle.pool_writer.specs.Texts.{word_bytes, word_text, txid_text, slot_text}
use Rattle.pool_writer.specs.Answers.{entries_name, weight_name, number_text, selected_text, room_length}

-- ---- the bytes of a word, as the standard library gives them

byte_next : (k n : ℕ) → byte_at (suc k) n ≡ byte_at k (n / 256)
byte_next zero n = refl
byte_next (suc k) n =
    rw (div-div-eq-div-mul n 256 (256 ^ suc k)) (ap (λ (m : ℕ). n / m % 256) (pow-suc 256 (suc k) ∙ mul_comm (256 ^ suc k) 256))

last_bytes : (k n : ℕ) → bytes_high_first (suc k) n ≡ bytes_high_first k (n / 256) ++ (n % 256 ∷ [])
last_bytes zero n = refl
last_bytes (suc k) n = ap₂ ◌∷◌ (byte_next k n) (last_bytes k n)

pub bytes_are : (k n : ℕ) → bytes_high_first k n ≡ word_bytes k n
unfolding word_bytes
bytes_are zero n = refl
bytes_are (suc k) n = last_bytes k n ∙ ap (λ (l : List ℕ). l ++ (n % 256 ∷ [])) (bytes_are k (n / 256))

-- ---- lengths

bytes_count : (k n : ℕ) → length (word_bytes k n) ≡ k
unfolding word_bytes
bytes_count zero n = refl
bytes_count (suc k) n = omega (arith, length-append (word_bytes k (n / 256)) (n % 256 ∷ []), bytes_count k (n / 256))

word_length : (w : ℕ) → length (word_text w) ≡ 16
word_length w = omega (arith, text_length (word_bytes 8 w), bytes_count 8 w)

txid_length : (x : Txid) → length (txid_text x) ≤ 64
unfolding txid_text
txid_length x =
    simp length-append (omega (arith, word_length x.w0, word_length x.w1, word_length x.w2, word_length x.w3))

pub number_length : (n : ℕ) → length (number_text n) ≤ room_length
unfolding number_text
number_length n = simp length-append (omega (arith, decimal_length n))

pub line_length : (key : List ℕ) (n : ℕ) → length key ≤ 20 → length (text_line key (decimal n)) ≤ room_length
line_length key n h = simp length-append (omega (arith, decimal_length n))

pub totals_length : (n w : ℕ) → length (entries_name ++ (decimal n ++ text_line weight_name (decimal w))) ≤ room_length
totals_length n w = simp length-append (omega (arith, decimal_length n, decimal_length w))

pub selected_length : (t slots : List ℕ) → length slots ≤ capacity → length (selected_text t slots) ≤ room_length
unfolding selected_text
selected_length t slots h =
    simp length-append (omega (arith, commas_length slots, joined_length (slot_text t) 64 (λ s. txid_length _) slots))
