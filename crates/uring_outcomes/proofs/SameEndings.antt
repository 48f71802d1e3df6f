-- That two endings are the same: completion by completion, and each file by what is told of it.
use Rattle.std.proofs.Common.{◌≡◌, ℕ, suc, ◌-◌, ◌<◌, ◌≤◌, ℤ, pos, Bool, ◌&&◌, List, [], ◌∷◌, length, Option, Some, None, refl, sym, ap, ap₂, ◌∙◌, arith}
use Rattle.uring_outcomes.proofs.Common.{Cqe, Ending, FileContents, byte_of, eqb-true, file_of, nat_eq, option_and_then, option_map, slice_get, state_of}
use Rattle.std.specs.Bool.{Decides}
use Rattle.std.specs.Ordering.{int_eq}
use lib.Pointwise.{pointwise, bytes_decides}
use Rattle.uring_files.specs.declared.file.FileState.{FileState}

-- Completions.

-- what `==` returns of two completions
abbrev pub same_completion : Cqe → Cqe → Bool
same_completion c d =
    nat_eq c.user_data d.user_data && (int_eq c.res d.res && pointwise nat_eq c.payload d.payload)

pub completion_decides : (c d : Cqe) → Decides (same_completion c d) (c ≡ d)
completion_decides c d = grind (arith, eqb-true, bytes_decides)

-- Files.

-- lists with the same element at each place below a bound that they keep
pub same_by_places : {X : Type 0} (xs ys : List X) (n : ℕ) → length xs ≤ n → length ys ≤ n
    → ((k : ℕ) → k < n → slice_get xs k ≡ slice_get ys k) → xs ≡ ys
same_by_places [] [] n few few' at = refl
same_by_places [] (y ∷ ys) n few few' at = let no : None ≡ Some y = at 0 (omega arith) in absurd cc
same_by_places (x ∷ xs) [] n few few' at = let no : Some x ≡ None = at 0 (omega arith) in absurd cc
same_by_places (x ∷ xs) (y ∷ ys) n few few' at =
    let firsts : Some x ≡ Some y = at 0 (omega arith) in
    let first : x ≡ y = cc in
    ap₂ (λ z zs. z ∷ zs) first (same_by_places xs ys (n - 1) (omega arith) (omega arith) (λ k low. at (suc k) (omega arith)))

pub same_by_descriptors : (a b : List FileContents) → length a ≤ 64 → length b ≤ 64
    → ((k : ℕ) → k < 64 → file_of a (pos k) ≡ file_of b (pos k)) → a ≡ b
same_by_descriptors a b few few' at = same_by_places a b 64 few few' at

abbrev state : FileContents → FileState
state f = record { len = length f.bytes; writes = f.writes; synced = f.synced }

file_by : (f h : FileContents) → f.bytes ≡ h.bytes → f.writes ≡ h.writes → f.synced ≡ h.synced → f ≡ h
file_by f h bytes writes synced = grind arith

same_by_state : (o p : Option FileContents) (s t : FileState) → Some s ≡ option_map state o
    → Some t ≡ option_map state p → s ≡ t
    → ((k : ℕ) → k < s.len → option_and_then (λ f. slice_get f.bytes k) o ≡ option_and_then (λ f. slice_get f.bytes k) p)
    → o ≡ p
same_by_state None p s t is are same bytes = absurd cc
same_by_state (Some f) None s t is are same bytes = absurd cc
same_by_state (Some f) (Some h) s t is are same bytes =
    let here : s ≡ state f = cc in
    let there : t ≡ state h = cc in
    let both : state f ≡ state h = sym here ∙ same ∙ there in
    let len : s.len ≡ length f.bytes = ap (λ (x : FileState). x.len) here in
    let lens : length f.bytes ≡ length h.bytes = ap (λ (x : FileState). x.len) both in
    ap (λ x. Some x)
    (file_by f h (same_by_places f.bytes h.bytes (length f.bytes) (omega arith) (omega arith) (λ k low. bytes k (omega arith)))
    (ap (λ (x : FileState). x.writes) both) (ap (λ (x : FileState). x.synced) both))

-- what `==` returns of two states
abbrev pub same_state : FileState → FileState → Bool
same_state s t = nat_eq s.len t.len && (nat_eq s.writes t.writes && nat_eq s.synced t.synced)

pub state_decides : (s t : FileState) → Decides (same_state s t) (s ≡ t)
state_decides s t = grind arith

-- files of one descriptor with the same state and the same bytes
pub same_of_states : (a b : List FileContents) (fd : ℤ) (s t : FileState) → Some s ≡ state_of a fd
    → Some t ≡ state_of b fd → s ≡ t
    → ((k : ℕ) → k < s.len → byte_of a fd k ≡ byte_of b fd k) → file_of a fd ≡ file_of b fd
same_of_states a b fd s t is are same bytes = grind (arith, same_by_state)

pub bytes_alike : (a b : List FileContents) (fd : ℤ) (k : ℕ) → file_of a fd ≡ file_of b fd
    → byte_of a fd k ≡ byte_of b fd k
bytes_alike a b fd k e = ap (option_and_then (λ f. slice_get f.bytes k)) e

-- Endings.

pub ending_by : (e f : Ending) → e.posted ≡ f.posted → e.files ≡ f.files → e ≡ f
ending_by e f posted files = λ i. record { posted = posted i; files = files i }
