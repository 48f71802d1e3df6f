-- Completions by their texts, with their bytes.
use Rattle.std.proofs.Common.{◌≡◌, ℕ, zero, suc, ◌<◌, ◌≤◌, ◌+◌, List, [], ◌∷◌, ◌++◌, length, map, take, drop, replicate, ◌/◌, Option, Some, None, refl, sym, ap, subst, ◌∙◌, arith}
use Rattle.std.specs.List.{AllByRecursion}
use Rattle.uring_observed_text.proofs.Common.{AreBytes, CompletesTo, Cqe, HasText, IsPadded, MatchOption, append_cancel_left, blank_completion, bytes_eq-Decides, codes, false_from_ne_true, front_of, length-append, length-drop, no_bytes, same_Some, take-append-drop}
use Rattle.uring_text.proofs.HexLaws.{data_again, data_found, hex_found}
use Rattle.uring_text.specs.Completions.{before_others, trimmed}
use Rattle.uring_text.specs.Reading.{data_of, hex_of}
use Rattle.uring_text.specs.Tokens.{hex_or_dash}

-- ---- bytes without the zeros at their end

abbrev zeros_of : List ℕ → List ℕ
zeros_of p = map (λ b. 0) p

refilled : (b : ℕ) (ts zs p : List ℕ) → ts ++ drop (length ts) zs ≡ p
    → before_others b ts ++ drop (length (before_others b ts)) (0 ∷ zs) ≡ b ∷ p
refilled b ts zs p e = grind arith

refill : (p : List ℕ) → trimmed p ++ drop (length (trimmed p)) (zeros_of p) ≡ p
refill [] = refl
refill (b ∷ p) = refilled b (trimmed p) (zeros_of p) p (refill p)

zeros_are : (p : List ℕ) → zeros_of p ≡ replicate (length p) 0
zeros_are [] = refl
zeros_are (b ∷ p) = ap (λ (l : List ℕ). 0 ∷ l) (zeros_are p)

refill_all : (p : List ℕ) → length p ≡ 64 → trimmed p ++ drop (length (trimmed p)) no_bytes ≡ p
refill_all p size = grind (arith, (zeros_are p), (refill p))

others_all : (P : ℕ → Type 0) (b : ℕ) (ts : List ℕ) → P b → AllByRecursion P ts → AllByRecursion P (before_others b ts)
others_all P b ts has all = grind arith

trimmed_all : (P : ℕ → Type 0) (p : List ℕ) → AllByRecursion P p → AllByRecursion P (trimmed p)
trimmed_all P [] all = tt
trimmed_all P (b ∷ p) all = others_all P b (trimmed p) all.0 (trimmed_all P p all.1)

others_few : (b n : ℕ) (ts : List ℕ) → length ts ≤ n → length (before_others b ts) ≤ n + 1
others_few b n ts few = grind arith

trimmed_few : (p : List ℕ) → length (trimmed p) ≤ length p
trimmed_few [] = omega arith
trimmed_few (b ∷ p) = let few = others_few b (length p) (trimmed p) (trimmed_few p) in omega (arith, few)

trimmed_sized : (p : List ℕ) → AreBytes p 64 64 → AreBytes (trimmed p) 0 64
trimmed_sized p sized = grind (arith, trimmed_few, trimmed_all)

-- ---- with zeros at their end

zeros_drop : (n k : ℕ) → AllByRecursion (λ b. b < 256) (drop n (replicate k 0))
zeros_drop n zero = none n where
  none : (n : ℕ) → AllByRecursion (λ b. b < 256) (drop n [])
  none zero = tt
  none (suc n) = tt
zeros_drop zero (suc k) = (omega arith, zeros_drop zero k)
zeros_drop (suc n) (suc k) = zeros_drop n k

joined_all : (P : ℕ → Type 0) (xs ys : List ℕ) → AllByRecursion P xs → AllByRecursion P ys → AllByRecursion P (xs ++ ys)
joined_all P [] ys all more = more
joined_all P (x ∷ xs) ys all more = (all.0, joined_all P xs ys all.1 more)

filled_sized : (bytes : List ℕ) → AreBytes bytes 0 64 → AreBytes (bytes ++ drop (length bytes) no_bytes) 64 64
filled_sized bytes sized =
    grind (arith, (length-append bytes (drop (length bytes) no_bytes)), (length-drop (length bytes) no_bytes), (zeros_drop (length bytes) 64), joined_all)

-- ---- texts

has_front : (c e : Cqe) (text : List ℕ) → HasText c text e → text ≡ front_of c ++ hex_or_dash (trimmed e.payload)
has_front c e text has = grind arith

-- a text that begins otherwise
pub front_none : (c : Cqe) (text : List ℕ) → ((rest : List ℕ) → text ≡ front_of c ++ rest → ⊥) → (e : Cqe) → HasText c text e → ⊥
front_none c text none e has = none (hex_or_dash (trimmed e.payload)) (has_front c e text has)

token_is : (c e : Cqe) (text token : List ℕ) → text ≡ front_of c ++ token → HasText c text e
    → data_of token ≡ Some (trimmed e.payload)
token_is c e text token is has = grind (arith, append_cancel_left, has_front, data_again, trimmed_sized)

-- a token that is no bytes
pub data_none : (c : Cqe) (text token : List ℕ) → text ≡ front_of c ++ token → data_of token ≡ None
    → (e : Cqe) → HasText c text e → ⊥
data_none c text token is none e has = grind (arith, (token_is c e text token is has))

-- ---- a token

pub padded : (token room : List ℕ) (count : ℕ) → hex_of count token ≡ Some (take count room)
    → drop count room ≡ drop count no_bytes → IsPadded (hex_of count token) room
padded token room count found rest = grind (arith, hex_found, take-append-drop)

-- a token of this data has that of its digits
pub data_digits : (token : List ℕ) (count : ℕ) → (token ≡ codes "-" → ⊥) → count ≡ length token / 2 → (count ≡ 0 → ⊥)
    → count ≤ 64 → data_of token ≡ hex_of count token
unfolding data_of
data_digits token count other is some most = grind (arith, false_from_ne_true, bytes_eq-Decides)

pub data_few : (token : List ℕ) → (token ≡ codes "-" → ⊥) → length token / 2 ≡ 0 → data_of token ≡ None
unfolding data_of
data_few token other none = grind (arith, bytes_eq-Decides)

pub data_many : (token : List ℕ) → (token ≡ codes "-" → ⊥) → 64 < length token / 2 → data_of token ≡ None
unfolding data_of
data_many token other many = grind (arith, false_from_ne_true, bytes_eq-Decides)

pub data_dash : data_of (codes "-") ≡ Some []
unfolding data_of
data_dash = refl

pub dash_padded : (token room : List ℕ) → token ≡ codes "-" → room ≡ no_bytes → IsPadded (data_of token) room
dash_padded token room dash none = grind (arith, data_dash)

pub decoded_padded : (token : List ℕ) (count : ℕ) (r : Option (List ℕ)) → data_of token ≡ hex_of count token
    → MatchOption r (hex_of count token ≡ None) (λ room. (hex_of count token ≡ Some (take count room)) × (drop count room ≡ drop count no_bytes))
    → MatchOption r (data_of token ≡ None) (λ room. IsPadded (data_of token) room)
decoded_padded token count r same is = grind (arith, padded)

payload_is : (c e : Cqe) (text token bytes room : List ℕ) → text ≡ front_of c ++ token → data_of token ≡ Some bytes
    → room ≡ bytes ++ drop (length bytes) no_bytes → HasText c text e → e.payload ≡ room
payload_is c e text token bytes room is found room_is has =
    grind (arith, (same_Some bytes (trimmed e.payload) (sym found ∙ token_is c e text token is has)), (token_is c e text token is has), refill_all)

pub completes_to : (c d : Cqe) (text token bytes room : List ℕ) → text ≡ front_of c ++ token → data_of token ≡ Some bytes
    → room ≡ bytes ++ drop (length bytes) no_bytes → d ≡ record { user_data = c.user_data; res = c.res; payload = room }
    → CompletesTo c text d
completes_to c d text token bytes room is found room_is d_is = record {
  same = ap blank_completion d_is;
  sized = subst (λ (l : List ℕ). AreBytes l 64 64) (sym (ap (λ (x : Cqe). x.payload) d_is ∙ room_is)) (filled_sized bytes (data_found token bytes found).1);
  only = λ e has.
      (λ i. record { user_data = (ap (λ (x : Cqe). x.user_data) has.same) i; res = (ap (λ (x : Cqe). x.res) has.same) i; payload = payload_is c e text token bytes room is found room_is has i })
      ∙ sym d_is;
}

padded_by : (o : Option (List ℕ)) (room : List ℕ) → IsPadded o room
    → (bytes : List ℕ) × (o ≡ Some bytes) × (room ≡ bytes ++ drop (length bytes) no_bytes)
padded_by o room is = grind arith

pub completes_padded : (c d : Cqe) (text token room : List ℕ) → text ≡ front_of c ++ token → IsPadded (data_of token) room
    → d ≡ record { user_data = c.user_data; res = c.res; payload = room } → CompletesTo c text d
completes_padded c d text token room is padded_so d_is =
    let by = padded_by (data_of token) room padded_so in
    completes_to c d text token by.0 room is by.1 by.2 d_is
