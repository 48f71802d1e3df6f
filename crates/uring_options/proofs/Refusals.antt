-- When numbers are refused, and what else a command line can end with.
use Rattle.std.proofs.Common.{◌≡◌, ◌*◌, ◌≤◌, ◌^◌, ◌↔◌, ℕ, zero, suc, List, [], Option, Some, None, Result, Ok, Err, refl, inl, inr, arith}
use Rattle.uring_options.proofs.Common.{AnswersNamed, AreInRange, AskFor, AskForTooSmall, HasKind, IfErr, IfOk, IsBadCq, IsErrAnd, IsErrOf, IsFaultOf, IsMemory, IsSetupOver, IsTooSmall, IsWithin, Numbers, Setup, Text, Writes, subcommand_of, unwrap_or, uring}
use Rattle.std.proofs.lemmas.Bool.{cases_lt}
use Rattle.std.specs.Int.{IsNextPowerOfTwo}
use Rattle.std.proofs.Math.Nat.{pow-suc}
use Rattle.clap.specs.Faults.{fault_of}
use Rattle.clap.specs.declared.error.Error.{Error}
use Rattle.uring_entry.proofs.Powers.{rounded_once}
use Rattle.uring_options.specs.declared.answers.Options.{Options}
use Rattle.uring_options.specs.declared.answers.Options.TheVariants.{Check, CheckPage, CheckJson, Outcomes}
use Rattle.uring_options.specs.declared.answers.OptionsFault.{OptionsFault}
use Rattle.uring_options.specs.declared.answers.OptionsFault.TheVariants.{Small, Words}

-- ---- sizes

-- a size up to a power of two can be rounded
rounding : (k n : ℕ) → 1 ≤ n → n ≤ 2 ^ k → (p : ℕ) × IsNextPowerOfTwo n p
rounding zero n some within = (1, ((0, refl), omega arith, omega arith))
rounding (suc k) n some within = elim (cases_lt (2 ^ k) n) [
  | inl above ↦ let next : 2 ^ suc k ≡ 2 ^ k * 2 = pow-suc 2 k in (2 ^ suc k, ((suc k, refl), within, omega arith))
  | inr below ↦ rounding k n some below
]

-- numbers in their ranges are refused for a small completion ring alone
pub too_small : (n : Numbers) → AreInRange n
    → ((p : ℕ) → IsNextPowerOfTwo (unwrap_or n.sq 4) p → IsBadCq p n.cq) → IsTooSmall n
too_small n ranges bad =
    let sq : (1 ≤ unwrap_or n.sq 4) × (unwrap_or n.sq 4 ≤ 2 ^ 12) = grind (arith, (n.sq), ranges.sq) in
    let p = rounding 12 (unwrap_or n.sq 4) sq.0 sq.1 in
    given p.0 p.1 n.cq refl ranges.cq (bad p.0 p.1)
  where
    given : (p : ℕ) → IsNextPowerOfTwo (unwrap_or n.sq 4) p → (cq : Option ℕ) → n.cq ≡ cq → IsWithin 1 8192 cq → IsBadCq p cq → IsTooSmall n
    given p rounded None is within none = absurd none
    given p rounded (Some cq) is within bad = grind (arith, (rounding 13 cq within.0 within.1))

-- ---- one outcome excludes the others

not_over : (words : List Text) (n : Numbers) (s : Setup) → Writes words n → IsSetupOver n s
    → AskForTooSmall words → ⊥
not_over words n s writes set_up (m, small_writes, small) =
    let sq : n.sq ≡ m.sq = grind (arith, writes.numbers.sq, small_writes.numbers.sq) in
    let given : n.cq ≡ Some small.cq = grind (arith, writes.numbers.cq, small_writes.numbers.cq, small.given) in
    let same_sq = rounded_once (unwrap_or m.sq 4) s.sq small.sq_size (rw sq at set_up.sq_rounded) small.sq_rounded (rw sq at set_up.sq_asked) in
    let same_cq = rounded_once small.cq s.cq small.cq_size (rw given at set_up.cq_rounded) small.cq_rounded (rw given at set_up.cq_asked) in
    omega (arith, set_up.limits.cq_holds_sq, small.smaller)

not_both : (words : List Text) (o : Options) → AskFor words o → AskForTooSmall words → ⊥
not_both words (Outcomes _ _ _ _ _ _ _ _ _) (n, writes, over) small = not_over words n _ writes over.1 small
not_both words (Check _ _ _ _) (n, writes, over) small = not_over words n _ writes over.1.0.0 small
not_both words (CheckPage _ _ _) (n, writes, over) small = not_over words n _ writes over.1.0.0 small
not_both words (CheckJson _ _ _) (n, writes, over) small = not_over words n _ writes over.1.0.0 small
not_both words _ (n, writes, over) small = not_over words n _ writes over.1.0 small

-- what a refusal shows
abbrev pub IsRefusal : List Text → OptionsFault → Type 0
IsRefusal words Small = AskForTooSmall words
IsRefusal words (Words e) = HasKind (fault_of uring words) e

-- ---- what words lead to

-- what is asked for, or the refusal
abbrev pub Outcome : List Text → Result Options OptionsFault → Type 0
Outcome words r = IfOk r (AskFor words) × IfErr r (IsRefusal words)

-- words without a fault, as their rows have an outcome
pub words_answered : (words : List Text) (r : Result Options OptionsFault) → fault_of uring words ≡ []
    → AnswersNamed (subcommand_of uring words) r → Outcome words r
words_answered words r fine h = grind arith

-- words that clap refuses
pub words_refused : (words : List Text) (r : Result Options OptionsFault) (e : Error)
    → IsErrAnd r (λ f. f ≡ Words e) → HasKind (fault_of uring words) e → Outcome words r
words_refused words r e is kind = grind arith

pub refusal_is_fault : (words : List Text) (r : Result Options OptionsFault) → Outcome words r
    → IfErr r (IsFaultOf words)
refusal_is_fault words r outcome = grind (arith, outcome.1)

pub small_exactly : (words : List Text) (r : Result Options OptionsFault) → Outcome words r
    → IsErrOf r Small ↔ (AskForTooSmall words × ¬ IsErrAnd r IsMemory)
small_exactly words (Ok o) outcome = grind (arith, not_both words o)
small_exactly words (Err f) outcome = (λ e. grind arith, λ h. grind (arith, h.0.1.no_fault, outcome.1))
