-- The texts of files, one more at a time.
use Rattle.std.proofs.Common.{◌≡◌, ℕ, zero, suc, ◌+◌, ◌<◌, List, [], ◌∷◌, ◌++◌, length, take, get_or, Option, Some, None, pos, refl, sym, ap, ◌∙◌, append_assoc, add-one, arith}
use Rattle.uring_litmus.proofs.Common.{MatchOption, byte_of, file_of, file_text, files_texts, option_map, option_to_list, slice_get, slice_get-get_or, state_text, take_more}
use Rattle.uring_files.specs.Contents.{FileContents}
use Rattle.uring_files.specs.declared.file.FileState.{FileState}
use Rattle.uring_text.specs.Tokens.{hex_or_dash}

files_append : (fd : ℕ) (xs : List FileContents) (file : FileContents)
    → files_texts fd (xs ++ file ∷ []) ≡ files_texts fd xs ++ file_text (fd + length xs) file ∷ []
files_append fd [] file = grind arith
files_append fd (x ∷ xs) file = grind (arith, (files_append (fd + 1) xs file))

taken_past : {X : Type 0} (xs : List X) (k : ℕ) → slice_get xs k ≡ None → take (suc k) xs ≡ take k xs
taken_past [] zero none = refl
taken_past [] (suc k) none = refl
taken_past (x ∷ xs) zero none = absurd cc
taken_past (x ∷ xs) (suc k) none = ap (λ l. x ∷ l) (taken_past xs k none)

taken_at : {X : Type 0} (xs : List X) (k : ℕ) (x : X) → slice_get xs k ≡ Some x
    → take (suc k) xs ≡ take k xs ++ x ∷ []
taken_at [] k x some = absurd cc
taken_at (y ∷ xs) zero x some = let same : y ≡ x = cc in ap (λ z. z ∷ []) same
taken_at (y ∷ xs) (suc k) x some = ap (λ l. y ∷ l) (taken_at xs k x some)

taken_count : {X : Type 0} (xs : List X) (k : ℕ) (x : X) → slice_get xs k ≡ Some x
    → length (take k xs) ≡ k
taken_count [] k x some = absurd cc
taken_count (y ∷ xs) zero x some = refl
taken_count (y ∷ xs) (suc k) x some = ap suc (taken_count xs k x some)

-- one file more, if there is one
pub file_more : (files : List FileContents) (fd : ℕ) (o : Option FileContents) (before so after : List (List ℕ))
    → slice_get files fd ≡ o → so ≡ before ++ files_texts 0 (take fd files)
    → MatchOption o (after ≡ so) (λ file. after ≡ so ++ file_text fd file ∷ [])
    → after ≡ before ++ files_texts 0 (take (fd + 1) files)
file_more files fd None before so after none is same = grind (arith, taken_past)
file_more files fd (Some file) before so after some is more =
    let count : 0 + length (take fd files) ≡ fd = let n = taken_count files fd file some in omega arith in
    more ∙ ap (λ l. l ++ file_text fd file ∷ []) is ∙ append_assoc before (files_texts 0 (take fd files)) (file_text fd file ∷ [])
    ∙ ap (λ l. before ++ l) (ap (λ n. files_texts 0 (take fd files) ++ file_text n file ∷ []) (sym count) ∙ sym (files_append 0 (take fd files) file))
    ∙ ap (λ l. before ++ files_texts 0 l) (sym (taken_at files fd file some)) ∙ ap (λ n. before ++ files_texts 0 (take n files)) (sym (add-one fd))

-- one byte more of a file
pub byte_more : (files : List FileContents) (fd : ℕ) (file : FileContents) (at : ℕ) (before after : List ℕ)
    → file_of files (pos fd) ≡ Some file → at < length file.bytes → before ≡ take at file.bytes
    → after ≡ before ++ option_to_list (byte_of files (pos fd) at) → after ≡ take (at + 1) file.bytes
byte_more files fd file at before after is low so now =
    grind (arith, (get_or file.bytes at 0), (slice_get-get_or file.bytes at 0 low), (take_more file.bytes at 0 low))

-- how a file stands
abbrev pub state_of_file : FileContents → FileState
state_of_file file = record { len = length file.bytes; writes = file.writes; synced = file.synced }

taken_whole : {X : Type 0} (xs : List X) (k : ℕ) → slice_get xs k ≡ None → take k xs ≡ xs
taken_whole [] zero none = refl
taken_whole [] (suc k) none = refl
taken_whole (x ∷ xs) zero none = absurd cc
taken_whole (x ∷ xs) (suc k) none = ap (λ l. x ∷ l) (taken_whole xs k none)

-- where there is no file, all were told
pub all_taken : (files : List FileContents) (fd : ℕ) (before texts : List (List ℕ))
    → None ≡ option_map state_of_file (slice_get files fd) → texts ≡ before ++ files_texts 0 (take fd files)
    → texts ≡ before ++ files_texts 0 files
all_taken files fd before texts none is = grind (arith, taken_whole)

-- there is one
pub one_file : (o : Option FileContents) (fd : ℕ) (s : FileState) (bytes text : List ℕ) (before after : List (List ℕ))
    → Some s ≡ option_map state_of_file o
    → ((file : FileContents) → o ≡ Some file → length file.bytes ≡ s.len → bytes ≡ file.bytes)
    → text ≡ state_text fd s ++ hex_or_dash bytes → after ≡ before ++ text ∷ []
    → MatchOption o (after ≡ before) (λ file. after ≡ before ++ file_text fd file ∷ [])
one_file o fd s bytes text before after some are is now = grind arith
