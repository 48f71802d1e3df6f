-- What is so by the manual pages' rules and by Linux's.
-- Stable: other crates may import all of it.
use Rattle.std.proofs.Common.{◌≡◌, ℕ, ◌<◌, Bool, true, false, length, ap, sym, subst, arith}
use Rattle.uring_core.proofs.Common.{LinuxRequests, Setup, both_ways, by_manual, ends_doomed, entry_of, false_from_ne_true, is_doomed_own_fault, is_faulty, may_start}
use Rattle.uring_linux.proofs.Standings.{healthy}

-- what starts has no fault
pub starts_right : (linux : Bool) (l : LinuxRequests) (n : ℕ) → n < length l.requests.accepted
    → ends_doomed linux l.requests n ≡ false → may_start linux l n ≡ true
    → is_faulty (entry_of l.requests n) ≡ false
starts_right true l n within spared free = healthy l.requests n within (grind arith)
starts_right false l n within spared free =
    false_from_ne_true _ (λ faulty. both_ways _ spared (is_doomed_own_fault l.requests n within faulty))

-- A set-up of the manual pages' rules.

pub is_by_manual : (g : Setup) → g.linux ≡ false → g ≡ by_manual g
is_by_manual g is = ap (λ linux. record g { linux = linux }) is

-- what is so of each set-up once its rules are the manual pages' is so of those of which they are
pub of_manual : (P : Setup → Type 0) → ((g : Setup) → P (by_manual g)) → (g : Setup)
    → g.linux ≡ false → P g
of_manual P holds g is = subst P (sym (is_by_manual g is)) (holds g)
