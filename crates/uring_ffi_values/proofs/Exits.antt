-- What a call on a place tells at its ends.
use Rattle.std.proofs.Common.{◌≡◌, ◌↔◌, ◌<◌, ◌≤◌, ℕ, ℤ, List, [], length, SFits, pos, neg_ℤ, of_z, to_z, w32, Bool, true, false, Option, Some, None, refl, sym, subst, ap, ◌∙◌, arith}
use Rattle.std.specs.Borrow.{Bor}
use Rattle.std.specs.Ordering.{int_eq}
use Rattle.uring_ffi_values.proofs.Common.{Answer, AreShort, BeginsOn, CrashMachine, EBADF, EFBIG, EINVAL, ENOENT, FitsRun, IsAskedFor, IsNoStart, IsSome, IsSomeAnd, Setup, SetupWords, Step, SteppedOn, SufficesFor, TellsStepOn, begun_on, both_ways, first_files, is_some, log_at, option_copied, words_of}
use Rattle.std.proofs.lemmas.Bool.Decides.{Decides-int_eq}
use Rattle.uring_ffi_values.specs.declared.machines.crash_machine_memory.TheConstants.{ENOTRECOVERABLE}
use Rattle.uring_ffi_values.specs.declared.core_words.answer_words.AnswerWords.{AnswerWords}
use Rattle.uring_crash_machine.specs.Logs.{Log}

-- results that differ are not one
pub apart : {A : Type 0} (a b : ℤ) → int_eq a b ≡ false → a ≡ b → A
apart a b differ is = absurd (both_ways (int_eq a b) differ ((Decides-int_eq a b).1 is))

-- what is something isn't nothing
pub not_none : {T A : Type 0} (place : Option T) (v : T) → place ≡ Some v → place ≡ None → A
not_none place v full none = absurd (both_ways false refl (subst (λ o. is_some o ≡ true) none (subst (λ o. is_some o ≡ true) (sym full) refl)))

pub not_empty : {T : Type 0} (place : Option T) (v : T) (result : ℤ) → place ≡ Some v → int_eq result (neg_ℤ EBADF) ≡ false
    → (result ≡ neg_ℤ EBADF) ↔ (place ≡ None)
not_empty place v result full differ = (apart result _ differ, not_none place v full)

pub at_some : {T : Type 0} (P : T → Type 0) (place : Option T) (v : T) → place ≡ Some v → P v → IsSomeAnd place P
at_some P place v full is = subst (λ o. IsSomeAnd o P) (sym full) is

pub of_some : {T : Type 0} (P : T → Type 0) (place : Option T) (v : T) → place ≡ Some v → IsSomeAnd place P → P v
of_some P place v full is = subst (λ o. IsSomeAnd o P) full is

pub both_some : {T : Type 0} (R : T → T → Type 0) (place after : Option T) (v new : T) → place ≡ Some v → after ≡ Some new → R v new
    → IsSomeAnd place (λ old. IsSomeAnd after (R old))
both_some R place after v new full put made = at_some (λ old. IsSomeAnd after (R old)) place v full (at_some (R v) after new put made)

pub is_some_as : {T : Type 0} (given : Option T) (v : T) → given ≡ Some v → IsSome given
is_some_as given v is = subst IsSome (sym is) refl

pub some_not_none : {T A : Type 0} (P : T → Type 0) (place : Option T) → IsSomeAnd place P → place ≡ None → A
some_not_none P place made none = grind arith

-- a machine that is lost, and one that isn't
pub not_lost : {A : Type 0} (place : Option CrashMachine) (is_lost : Bool) → IsSomeAnd place (λ m. is_lost ≡ m.is_lost) → is_lost ≡ false
    → IsSomeAnd place (λ m. m.is_lost ≡ true) → A
not_lost place is_lost told other so = grind arith

pub known_ready : (place : Option CrashMachine) (m : CrashMachine) (is_lost : Bool) → place ≡ Some m → IsSomeAnd place (λ m. is_lost ≡ m.is_lost)
    → is_lost ≡ false → m.is_lost ≡ false
known_ready place m is_lost full told other = sym (of_some (λ machine. is_lost ≡ machine.is_lost) place m full told) ∙ other

pub known_lost : (place : Option CrashMachine) (is_lost : Bool) → IsSomeAnd place (λ m. is_lost ≡ m.is_lost) → is_lost ≡ true
    → IsSomeAnd place (λ m. m.is_lost ≡ true)
known_lost place is_lost told so = grind arith

-- which refusals a step of a machine that goes on isn't told as
pub step_goes : (place : Option CrashMachine) (given : Option Step) (m : CrashMachine) (s : Step) (is_lost : Bool) (result : ℤ)
    → place ≡ Some m → given ≡ Some s → IsSomeAnd place (λ m. is_lost ≡ m.is_lost) → is_lost ≡ false
    → int_eq result (neg_ℤ EBADF) ≡ false → int_eq result (neg_ℤ EINVAL) ≡ false → int_eq result (neg_ℤ ENOTRECOVERABLE) ≡ false
    → ((result ≡ neg_ℤ EBADF) ↔ (place ≡ None))
    × ((result ≡ neg_ℤ EINVAL) ↔ (IsSome place × (given ≡ None)))
    × ((result ≡ neg_ℤ ENOTRECOVERABLE) ↔ (IsSome given × IsSomeAnd place (λ machine. machine.is_lost ≡ true)))
step_goes place given m s is_lost result full is told other a b c = grind arith

-- the words of an answer tell the step that the machine has made
pub step_told : (place after : Option CrashMachine) (given : Option Step) (s : Step) (m new : CrashMachine) (a : Answer) (words : AnswerWords)
    → place ≡ Some m → after ≡ Some new → given ≡ Some s → words ≡ words_of a → SteppedOn s a m new
    → IsSomeAnd given (λ t. TellsStepOn t place after words)
step_told place after given s m new a words full put is told made = grind arith

-- ---- a file is asked for

-- what is said of the machine that was taken out
pub lost_as : (m seen : CrashMachine) (is_lost told : Bool) → seen ≡ m → is_lost ≡ seen.is_lost → is_lost ≡ told → m.is_lost ≡ told
lost_as m seen is_lost told same is so = sym (ap (λ (v : CrashMachine). v.is_lost) same) ∙ sym is ∙ so

pub log_as : (m seen : CrashMachine) (fd : ℤ) (log : Option (Bor Log)) (has told : Bool) → SFits w32 fd → seen ≡ m
    → option_copied log ≡ log_at seen.logs (to_z w32 (of_z w32 fd)) → has ≡ is_some log → has ≡ told → is_some (log_at m.logs fd) ≡ told
log_as m seen fd log has told fits same is some so = grind arith

-- what of a place and a file is told by a result
abbrev Tells : Option CrashMachine → (fd result : ℤ) → Type 0
Tells place fd result =
    ((result ≡ neg_ℤ EBADF) ↔ (place ≡ None))
    × ((result ≡ neg_ℤ ENOTRECOVERABLE) ↔ IsSomeAnd place (λ machine. machine.is_lost ≡ true))
    × ((result ≡ neg_ℤ ENOENT) ↔ IsSomeAnd place (λ machine. (machine.is_lost ≡ false) × (log_at machine.logs fd ≡ None)))
    × (result ≡ pos 0 → IsSomeAnd place (λ machine. (machine.is_lost ≡ false) × IsSome (log_at machine.logs fd)))

pub tells_lost : (place : Option CrashMachine) (m : CrashMachine) (fd : ℤ) → place ≡ Some m → m.is_lost ≡ true → Tells place fd (neg_ℤ ENOTRECOVERABLE)
tells_lost place m fd full lost = grind arith

pub tells_no_file : (place : Option CrashMachine) (m : CrashMachine) (fd : ℤ) → place ≡ Some m → m.is_lost ≡ false → is_some (log_at m.logs fd) ≡ false → Tells place fd (neg_ℤ ENOENT)
tells_no_file place m fd full ready none = grind arith

pub tells_there : (place : Option CrashMachine) (m : CrashMachine) (fd : ℤ) → place ≡ Some m → m.is_lost ≡ false → is_some (log_at m.logs fd) ≡ true → Tells place fd (pos 0)
tells_there place m fd full ready there = grind arith

-- a file isn't refused otherwise
pub other_refusal : {A : Type 0} (result told : ℤ) → int_eq told (pos 0) ≡ false → int_eq told (neg_ℤ EBADF) ≡ false
    → int_eq told (neg_ℤ ENOTRECOVERABLE) ≡ false → int_eq told (neg_ℤ ENOENT) ≡ false
    → ((result ≡ pos 0 → ⊥) → (result ≡ neg_ℤ EBADF → ⊥) → (result ≡ neg_ℤ ENOTRECOVERABLE → ⊥) → (result ≡ neg_ℤ ENOENT → ⊥) → ⊥)
    → result ≡ told → A
other_refusal result told a b c d only is = grind arith

-- words that ask for a machine, with lengths that files may have, aren't refused
pub starts : (w : SetupWords) (s : Setup) (unit : ℕ) (lens : List ℕ) (result : ℤ) → IsAskedFor w s × (0 < unit) × (length lens ≤ s.files) → AreShort lens
    → int_eq result (neg_ℤ EINVAL) ≡ false → int_eq result (neg_ℤ EFBIG) ≡ false
    → ((result ≡ neg_ℤ EINVAL) ↔ IsNoStart w unit (length lens))
    × ((result ≡ neg_ℤ EFBIG) ↔ ((IsNoStart w unit (length lens) → ⊥) × (AreShort lens → ⊥)))
starts w s unit lens result asked short a b = grind arith

-- and the machine that comes of them begins so
pub begins : (w : SetupWords) (s : Setup) (unit : ℕ) (contents given : List (List ℕ)) (m : CrashMachine) → IsAskedFor w s → m.core.setup ≡ s → m.unit ≡ unit
    → m.is_lost ≡ false → m.is_folded ≡ false → given ≡ contents → FitsRun m (begun_on (first_files s.files given)) [] → BeginsOn w unit contents m
begins w s unit contents given m asked setup units ready whole is fits = grind arith

-- what is asked for by its own size is granted
pub fits_itself : (n : ℕ) → n ≤ n
fits_itself n = omega arith

-- who grants what a set-up needs grants an element
pub room_for_one : (w : SetupWords) (s : Setup) (n : ℕ) → IsAskedFor w s → SufficesFor w n → 1 ≤ n
room_for_one w s n asked enough = omega (arith, asked.0.limits.some_file, (enough s asked).2)
