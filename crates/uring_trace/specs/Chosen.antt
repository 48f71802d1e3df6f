-- Whom a cancel of all chooses, as a text. The words are our own rule.
use Rattle.std.specs.Prelude.{ℕ, Bool, true, false, List, [], ◌∷◌, ◌++◌, Option, Some, None, codes, if◌then◌else◌}
use Rattle.std.specs.Fmt.{decimal}
use Rattle.uring_entry.specs.Layout.{addr_of}
use Rattle.uring_entry.specs.Preparation.{is_cancel_all}
use Rattle.uring_entry.specs.Requests.{Requests, entry_of, targets_of}
use Rattle.uring_linux.specs.LinuxRequests.{LinuxRequests}
use Rattle.uring_rules.specs.Rules.{why_of}
use Rattle.uring_entry.specs.declared.why.Why.{Why}
use Rattle.uring_entry.specs.declared.why.Why.TheVariants.{Waits, MayStart}
use Rattle.uring_core.specs.declared.step.Step.{Step}
use Rattle.uring_core.specs.declared.step.Step.TheVariants as step

-- whether a request that stands so is outstanding, and neither runs nor is doomed: a cancel of all may doom it
abbrev pub is_open : Why → Bool
is_open (Waits m since) = true
is_open MayStart = true
is_open _ = false

-- numbers, each after a space
abbrev pub spaced : List ℕ → List ℕ
spaced [] = []
spaced (m ∷ more) = codes " " ++ decimal m ++ spaced more

-- who was chosen
abbrev pub chose_text : List ℕ → List ℕ
chose_text [] = codes "found none"
chose_text (m ∷ more) = codes "chose" ++ spaced (m ∷ more)

-- the same as far as they are written: nobody yet is no text
abbrev pub said : List ℕ → List ℕ
said [] = []
said (m ∷ more) = codes "chose" ++ spaced (m ∷ more)

-- whom the cancel of all n dooms if it is carried out now: by Linux's rules nobody
abbrev pub chosen_of : (is_linux : Bool) → Requests → ℕ → List ℕ
chosen_of is_linux r n = if is_linux then [] else targets_of r n

-- what is told of n that stands so: whom it would doom if it were carried out now, if it is a cancel of all that may start
abbrev pub chosen_for : (is_linux : Bool) → Requests → ℕ → Why → Option (List ℕ)
chosen_for is_linux r n MayStart =
    if is_cancel_all (entry_of r n) then Some (chose_text (chosen_of is_linux r n)) else None
chosen_for is_linux r n _ = None

-- the user data of those whom n that stands so looks for, if it is a cancel of all that may start
abbrev pub sought_by : Requests → ℕ → Why → Option ℕ
sought_by r n MayStart =
    if is_cancel_all (entry_of r n) then Some (addr_of (entry_of r n)) else None
sought_by r n _ = None

-- what is told of the request that a step issues
abbrev pub chosen_told : (is_linux : Bool) → LinuxRequests → Step → Option (List ℕ)
chosen_told is_linux l (step.Issue n) = chosen_for is_linux l.requests n (why_of is_linux l n)
chosen_told is_linux l _ = None

-- the same after an answer
abbrev pub after_text : Option (List ℕ) → List ℕ
after_text (Some told) = codes "  # " ++ told
after_text None = []
