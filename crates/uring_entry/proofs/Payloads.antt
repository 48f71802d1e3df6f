-- The 64 bytes of data and the eight words that hold them.
use Rattle.std.proofs.Common.{◌≡◌, ℕ, ◌+◌, ◌-◌, ◌*◌, ◌^◌, ◌<◌, ◌∙◌, refl, sym, ap, List, [], ◌∷◌, length, get_or, take, drop, set, take-add, arith}
use Rattle.std.proofs.lemmas.List.{places, take_all, take_more}
use Rattle.std.proofs.lemmas.Nat.{le_bytes_8}
use Rattle.std.proofs.lemmas.Slice.{put_mid-paste, take-put_mid}
use borrow.Rule.Slice.PartMut.{put_mid}
use Rattle.std.proofs.lemmas.Grind.{common_steps, flat_map-append}
use Rattle.uring_entry.proofs.Common.{AreWords, bytes_of, from_le_bytes, take_more_set, to_le_bytes, w64}

-- all words and all bytes
pub all_taken : (i : ℕ) (bytes words : List ℕ) → length words ≡ i → length bytes ≡ 8 * i
    → take (8 * i) bytes ≡ bytes_of (take i words) → bytes ≡ bytes_of words
all_taken i bytes words words_length bytes_length same =
    sym (take_all (8 * i) bytes (omega arith)) ∙ same ∙ ap bytes_of (take_all i words (omega arith))

-- one word more, which the next eight bytes make
pub word_more : (i k word : ℕ) (bytes words eight : List ℕ) → i < length words
    → ((j : ℕ) → get_or bytes j 0 < 256)
    → eight ≡ take k (drop (8 * i) bytes) → k ≡ 8 → length eight ≡ 8 → word ≡ from_le_bytes w64 eight
    → bytes_of (take i words) ≡ take (8 * i) bytes
    → bytes_of (take (i + 1) (set words i word)) ≡ take (8 * (i + 1)) bytes
word_more i k word bytes words eight within fits next k_is size is same =
    let last : to_le_bytes w64 word ≡ eight = le_bytes_8 eight word size (λ j. rw next (grind (arith, places, fits (8 * i + j)))) is in
    let end : 8 * i + k ≡ 8 * (i + 1) = omega arith in
    cc (take_more_set words i word within, flat_map-append (to_le_bytes w64) (take i words) (word ∷ []), take-add (8 * i) k bytes)

-- the bytes of one word more
pub bytes_more : (i k : ℕ) (bytes words put : List ℕ) → i < 8 → length words ≡ 8 → k ≡ 8
    → put ≡ to_le_bytes w64 (get_or words i 0)
    → (take (8 * i) bytes ≡ bytes_of (take i words)) × (length bytes ≡ 64)
    → (take (8 * (i + 1)) (put_mid (8 * i) k bytes put) ≡ bytes_of (take (i + 1) words)) × (length (put_mid (8 * i) k bytes put) ≡ 64)
bytes_more i k bytes words put within words_length k_is put_is (same, bytes_length) =
    let size : length put ≡ 8 = ap length put_is in
    (cc (take-put_mid (8 * i) k bytes put (8 * (i + 1)) (omega arith) (omega arith), take_more words i 0 (omega arith), flat_map-append (to_le_bytes w64) (take i words) (get_or words i 0 ∷ [])), rw (put_mid-paste (8 * i) k bytes put put 8 refl (sym k_is) (sym size)) (grind (arith, places)))

-- the last eight of sixteen words
pub last_eight : (words : List ℕ) → length words ≡ 16 → take 8 (drop 8 words) ≡ drop 8 words
last_eight words size = grind (arith, common_steps)

-- one word set
pub words_set : (i word : ℕ) (words : List ℕ) → word < 2 ^ 64 → AreWords words
    → AreWords (set words i word)
words_set i word [] lt h = tt
words_set i word (w ∷ words) lt h = grind (arith, (words_set (i - 1) word words lt h.1))
