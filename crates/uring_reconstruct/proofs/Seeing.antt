-- Events one after the other.
use Rattle.std.proofs.Common.{◌≡◌, ℕ, suc, ◌+◌, ◌-◌, ◌<◌, ◌≤◌, Bool, List, [], ◌∷◌, ◌++◌, length, take, drop, get_or, if◌then◌else◌, refl, sym, ap, subst, ◌∙◌, arith, append_assoc, append-nil, Option}
use Rattle.uring_reconstruct.proofs.Common.{CalledForApart, Cqe, Event, History, IsLawfulApart, Setup, completions_in, filter_map-append, history_of, history_of_snoc, onto, take-append-drop, take_more, world}
use Rattle.std.specs.List.{cons_option}
use Rattle.std.specs.Option.{option_to_list}
use Rattle.std.proofs.Math.Seq.{drop-cons}
use Rattle.uring_core.specs.Events.{reaped_by}
use Rattle.uring_reconstruct.proofs.Going.{lawful_onto, onto_is}

pub at_most_one : (b : Bool) → (if b then 0 else 1) ≤ 1
at_most_one b = grind arith

-- one event more
pub taken_next : (events : List Event) (k : ℕ) (e : Event) → k < length events → e ≡ get_or events k e
    → history_of (take (k + 1) events) ≡ e ∷ history_of (take k events)
taken_next events k e low is = grind (arith, (take_more events k e low), (history_of_snoc (take k events) e))

onto_append : (earlier later : List Event) (h : History)
    → onto h (earlier ++ later) ≡ onto (onto h earlier) later
onto_append [] later h = refl
onto_append (e ∷ earlier) later h = onto_append earlier later (e ∷ h)

history_onto : (events : List Event) → onto [] events ≡ history_of events
history_onto events = onto_is events [] ∙ append-nil (history_of events)

-- what goes wrong somewhere isn't lawful
pub wrong_at : (g : Setup) (events : List Event) (k : ℕ) (e : Event) → k < length events
    → e ≡ get_or events k e
    → (CalledForApart g (world g (history_of (take k events))) e.0 e.1 → ⊥)
    → IsLawfulApart g (history_of events) → ⊥
wrong_at g events k e low is wrong lawful =
    let rest : drop k events ≡ e ∷ drop (suc k) events = drop-cons events k e low ∙ ap (λ y. y ∷ drop (suc k) events) (sym is) in
    let split : events ≡ take k events ++ (e ∷ drop (suc k) events) = sym (take-append-drop k events) ∙ ap (λ ys. take k events ++ ys) rest in
    let turned : history_of events ≡ onto (history_of (take k events)) (e ∷ drop (suc k) events) =
    sym (history_onto events) ∙ ap (onto []) split ∙ onto_append (take k events) (e ∷ drop (suc k) events) [] ∙ ap (λ h. onto h (e ∷ drop (suc k) events)) (history_onto (take k events)) in
    wrong (lawful_onto g (drop (suc k) events) (e ∷ history_of (take k events)) (subst (IsLawfulApart g) turned lawful)).0

-- the same for a set-up that is another's
pub wrong_from : (g o : Setup) (events : List Event) (k : ℕ) (e : Event) → k < length events
    → e ≡ get_or events k e → o ≡ g
    → (CalledForApart o (world o (history_of (take k events))) e.0 e.1 → ⊥)
    → IsLawfulApart g (history_of events) → ⊥
wrong_from g o events k e low is same wrong = grind (arith, wrong_at)

-- numbers from the greatest down: what is so of those before, and of the next one
pub descend : (P : ℕ → Type 0) (count place n : ℕ) → count ≤ n + (place + 1)
    → (count ≤ n + place → P n) → P (count - 1 - place) → P n
descend P count place n high before here = grind arith

-- one event more, with the completion that it reaps
added_none : (o : Option Cqe) → cons_option o [] ≡ option_to_list o
added_none o = grind arith

pub completions_next : (seen : List Event) (k : ℕ) (e : Event) (old mid new : List Cqe) → k < length seen
    → e ≡ get_or seen k e → mid ≡ old ++ completions_in (take k seen)
    → new ≡ mid ++ option_to_list (reaped_by e) → new ≡ old ++ completions_in (take (k + 1) seen)
completions_next seen k e old mid new low is before more =
    let taken : take (k + 1) seen ≡ take k seen ++ e ∷ [] = take_more seen k e low ∙ ap (λ y. take k seen ++ y ∷ []) (sym is) in
    let all : completions_in (take (k + 1) seen) ≡ completions_in (take k seen) ++ option_to_list (reaped_by e) =
    ap completions_in taken ∙ filter_map-append reaped_by (take k seen) (e ∷ []) ∙ ap (λ xs. completions_in (take k seen) ++ xs) (added_none (reaped_by e)) in
    more ∙ ap (λ xs. xs ++ option_to_list (reaped_by e)) before ∙ append_assoc old (completions_in (take k seen)) (option_to_list (reaped_by e)) ∙ ap (λ xs. old ++ xs) (sym all)
