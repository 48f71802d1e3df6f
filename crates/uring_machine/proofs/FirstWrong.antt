-- The first wrong answer of a list, and what is told of a list where an answer was refused.
use Rattle.std.proofs.Common.{◌≡◌, ℕ, ◌+◌, ◌*◌, ◌<◌, ◌≤◌, List, ◌∷◌, length, take, get_or, Option, Some, arith}
use Rattle.uring_machine.proofs.Common.{CalledFor, CalledForApart, Event, IfOk, IsFirstWrongAnswer, IsFirstWrongApart, IsLawful, IsLawfulApart, IsOk, IsRefused, MatchOption, Ok, OnOk, Refusal, Result, Setup, history_of, history_of_snoc, take_more, world}
use Rattle.std.specs.declared.alloc.AllocError.{AllocError}
use Rattle.std.proofs.lemmas.List.{length-reverse, length-take-le}
use Rattle.std.proofs.lemmas.Option.{slice_get_read}
use Rattle.uring_core.specs.declared.wanted.Wanted.{Wanted}
use Rattle.uring_core.specs.declared.wanted.Refusal.TheVariants.{Wrong, NoMemory}

pub stops : (refusal : Refusal) (place : ℕ) (r : Result (Option (ℕ × Wanted)) AllocError) (P : Type 0) (Q : ℕ × Wanted → Type 0)
    → ((w : Wanted) → refusal ≡ Wrong w → r ≡ Ok (Some (place, w)))
    → (refusal ≡ NoMemory → OnOk r ⊥) → ((w : Wanted) → refusal ≡ Wrong w → Q (place, w))
    → IfOk r (λ found. MatchOption found P Q)
stops refusal place r P Q told none q = grind arith

-- the events before this one are so few
pub few_before : (g k : Setup) (events : List Event) (place n : ℕ) → k ≡ g → place < length events
    → 3 * (length events + g.sq) ≤ n → 3 * (length (history_of (take place events)) + k.sq) ≤ n
few_before g k events place n same within few = grind (arith, length-reverse, length-take-le)

-- unless memory was refused, there is an answer
pub goes_on : (refusal : Refusal) (place : ℕ) (r : Result (Option (ℕ × Wanted)) AllocError)
    → ((w : Wanted) → refusal ≡ Wrong w → r ≡ Ok (Some (place, w))) → (refusal ≡ NoMemory → ⊥)
    → IsOk r
goes_on refusal place r told some = grind arith

-- one event more
pub history_next : (events : List Event) (place : ℕ) (e : Event) → place < length events
    → e ≡ get_or events place e
    → history_of (take (place + 1) events) ≡ e ∷ history_of (take place events)
history_next events place e within at = grind (arith, (take_more events place e within), (history_of_snoc (take place events) e))

pub first_wrong_at : (g k : Setup) (events : List Event) (place : ℕ) (e : Event) (refusal : Refusal) (w : Wanted)
    → k ≡ g → place < length events → e ≡ get_or events place e
    → IsLawful k (history_of (take place events))
    → IsRefused (CalledFor k (world k (history_of (take place events))) e.0) e.1 refusal
    → refusal ≡ Wrong w → IsFirstWrongAnswer g events place w
first_wrong_at g k events place e refusal w same within at lawful refused is = grind (arith, slice_get_read)

pub first_wrong_apart_at : (g k : Setup) (events : List Event) (place : ℕ) (e : Event) (refusal : Refusal) (w : Wanted)
    → k ≡ g → place < length events → e ≡ get_or events place e
    → IsLawfulApart k (history_of (take place events))
    → IsRefused (CalledForApart k (world k (history_of (take place events))) e.0) e.1 refusal
    → refusal ≡ Wrong w → IsFirstWrongApart g events place w
first_wrong_apart_at g k events place e refusal w same within at lawful refused is = grind (arith, slice_get_read)
