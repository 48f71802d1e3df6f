-- What is told of a volume that a place holds, and of a file of its machine.
use Rattle.std.proofs.Common.{◌≡◌, ◌↔◌, ℤ, SFits, false, neg_ℤ, of_z, true, to_z, w32, refl, sym, subst, ◌∙◌}
use Rattle.uring_ffi_values.proofs.Common.{CrashMachine, EBADF, ENOENT, IsSome, IsSomeAnd, None, Option, Some, TellsNoPlace, both_ways, log_at, to_z-of_z}
use Rattle.uring_ffi_values.specs.declared.machines.crash_machine_memory.TheConstants.{ENOTRECOVERABLE}
use Rattle.uring_crash_machine.specs.Logs.{Log}
use Rattle.uring_volume.specs.Volume.{Volume}

-- what a place held was taken out of it
pub place_told : {T : Type 0} (P : T → Type 0) (place : Option T) (boxed v : T)
    → place ≡ Some boxed → v ≡ boxed → P v → IsSomeAnd place P
place_told P place boxed v taken is told = subst (λ o. IsSomeAnd o P) (sym taken) (subst P is told)

-- the descriptor was passed on to the call that found the file
pub file_told : (P : Volume → Type 0) (place before : Option CrashMachine) (m boxed : CrashMachine) (fd : ℤ) (log : Log) (v : Volume)
    → SFits w32 fd → before ≡ place → before ≡ Some boxed → m ≡ boxed
    → Some log ≡ log_at m.logs (to_z w32 (of_z w32 fd)) → v ≡ log.volume → P v
    → IsSomeAnd place (λ machine. IsSomeAnd (log_at machine.logs fd) (λ found. P found.volume))
file_told P place before m boxed fd log v fits kept taken is found file told =
    place_told (λ machine. IsSomeAnd (log_at machine.logs fd) (λ found. P found.volume)) place boxed m (sym kept ∙ taken) is
    (subst (λ (n : ℤ). IsSomeAnd (log_at m.logs n) (λ found. P found.volume)) (to_z-of_z w32 fd fits)
    (subst (λ o. IsSomeAnd o (λ found. P found.volume)) found (subst P file told)))

-- a file that is there is not refused
pub file_there : (place : Option CrashMachine) (fd told : ℤ) → SFits w32 fd → SFits w32 told → TellsNoPlace told
    → IsSomeAnd place (λ m. (m.is_lost ≡ false) × IsSome (log_at m.logs (to_z w32 (of_z w32 fd))))
    → let result = to_z w32 (of_z w32 told) in
    ((result ≡ neg_ℤ EBADF) ↔ (place ≡ None))
    × ((result ≡ neg_ℤ ENOTRECOVERABLE) ↔ IsSomeAnd place (λ m. m.is_lost ≡ true))
    × ((result ≡ neg_ℤ ENOENT) ↔ IsSomeAnd place (λ m. (m.is_lost ≡ false) × (log_at m.logs fd ≡ None)))
file_there None fd told fits fits' others there = absurd there
file_there (Some m) fd told fits fits' others there =
    let same = to_z-of_z w32 told fits' in (
      (λ e. absurd (others.0 (sym same ∙ e)), λ none. absurd (both_ways false refl (subst IsSome none refl))),
      (λ e. absurd (others.1 (sym same ∙ e)), λ lost. absurd (both_ways m.is_lost there.0 lost)),
      (λ e. absurd (others.2 (sym same ∙ e)), λ none. absurd (both_ways false refl (subst IsSome none.1 (subst (λ (n : ℤ). IsSome (log_at m.logs n)) (to_z-of_z w32 fd fits) there.1)))),
    )
