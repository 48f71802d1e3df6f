-- The marks of a history grow by one with each event.
use Rattle.std.proofs.Common.{◌≡◌, ◌<◌, ◌+◌, ℕ, suc, List, [], ◌∷◌, ◌++◌, length, take, drop, get_or, refl, sym, ap, subst, ◌∙◌, append-nil}
use Rattle.uring_effect_points.proofs.Common.{CalledForApart, Event, History, IsLawfulApart, Mark, Setup, drop-cons, history_of, history_of_append, history_of_cons, lawful_before, mark_by, marks_after, take-append-drop, take_more, world}

marks_snoc : (g : Setup) (events : List Event) (before : History) (e : Event)
    → marks_after g before (events ++ e ∷ []) ≡ marks_after g before events ++ mark_by (world g (e ∷ history_of events ++ before)).requests e ∷ []
marks_snoc g [] before e = refl
marks_snoc g (x ∷ events) before e =
    ap (λ (ms : List Mark). mark_by (world g (x ∷ before)).requests x ∷ ms) (marks_snoc g events (x ∷ before) e ∙ ap (λ (h : History). marks_after g (x ∷ before) events ++ mark_by (world g (e ∷ h)).requests e ∷ []) (sym (history_of_cons x events before)))

pub marks_more : (g : Setup) (events : List Event) (e : Event)
    → marks_after g [] (events ++ e ∷ []) ≡ marks_after g [] events ++ mark_by (world g (e ∷ history_of events)).requests e ∷ []
marks_more g events e =
    marks_snoc g events [] e ∙ ap (λ (h : History). marks_after g [] events ++ mark_by (world g (e ∷ h)).requests e ∷ []) (append-nil (history_of events))

-- one event more
pub taken_next : (events : List Event) (k : ℕ) (e : Event) → k < length events → e ≡ get_or events k e
    → take (k + 1) events ≡ take k events ++ e ∷ []
taken_next events k e low is =
    take_more events k e low ∙ ap (λ (y : Event). take k events ++ y ∷ []) (sym is)

-- what goes wrong somewhere isn't lawful
pub wrong_from : (g o : Setup) (events : List Event) (k : ℕ) (e : Event) → k < length events
    → e ≡ get_or events k e → o ≡ g
    → (CalledForApart o (world o (history_of (take k events))) e.0 e.1 → ⊥)
    → IsLawfulApart g (history_of events) → ⊥
wrong_from g o events k e low is same wrong lawful =
    let rest : drop k events ≡ e ∷ drop (suc k) events = drop-cons events k e low ∙ ap (λ (y : Event). y ∷ drop (suc k) events) (sym is) in
    let split : events ≡ take k events ++ (e ∷ drop (suc k) events) = sym (take-append-drop k events) ∙ ap (λ (ys : List Event). take k events ++ ys) rest in
    let turned : history_of events ≡ history_of (drop (suc k) events) ++ e ∷ history_of (take k events) =
    sym (append-nil (history_of events)) ∙ ap (λ (ys : List Event). history_of ys ++ []) split
    ∙ history_of_append (take k events) (e ∷ drop (suc k) events) []
    ∙ history_of_cons e (drop (suc k) events) (history_of (take k events) ++ [])
    ∙ ap (λ (h : History). history_of (drop (suc k) events) ++ e ∷ h) (append-nil (history_of (take k events))) in
    let here : IsLawfulApart g (e ∷ history_of (take k events)) = lawful_before g (history_of (drop (suc k) events)) (e ∷ history_of (take k events)) (subst (IsLawfulApart g) turned lawful) in
    wrong (subst (λ (s : Setup). CalledForApart s (world s (history_of (take k events))) e.0 e.1) (sym same) here.0)
