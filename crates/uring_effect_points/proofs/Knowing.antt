-- What is known of a history grows by one with each event.
use Rattle.std.proofs.Common.{◌≡◌, ◌<◌, ℕ, suc, List, [], ◌∷◌, ◌++◌, length, take, drop, get_or, Option, refl, sym, ap, ap₂, subst, ◌∙◌, append-nil, append_assoc}
use Rattle.uring_effect_points.proofs.Common.{CalledForApart, Event, History, IsLawfulApart, IssueMeets, IssuesMeet, Mark, Setup, bytes_at, bytes_reaped, bytes_told, drop-cons, history_of, history_of_cons, known_by, known_mark, known_marks, take-append-drop, world}
use Rattle.uring_effect_points.proofs.Marking.{wrong_from}

-- by the counts of two cores
pub known_is : (told : List (List ℕ)) (before after n m : ℕ) (known : Option (List ℕ)) → known ≡ bytes_at told before after
    → before ≡ n → after ≡ m → known ≡ bytes_at told n m
known_is told before after n m known is first last = is ∙ ap₂ (bytes_at told) first last

pub told_more : (events : List Event) (e : Event) → bytes_told (events ++ e ∷ []) ≡ bytes_told events ++ bytes_reaped e
told_more [] e = append-nil (bytes_reaped e)
told_more (x ∷ events) e =
    ap (λ (xs : List (List ℕ)). bytes_reaped x ++ xs) (told_more events e) ∙ sym (append_assoc (bytes_reaped x) (bytes_told events) (bytes_reaped e))

-- the mark of an event after these
abbrev one_more : Setup → List (List ℕ) → Event → History → Mark
one_more g told e h = known_mark (known_by g told h e) (world g (e ∷ h)).requests e

known_snoc : (g : Setup) (told : List (List ℕ)) (events : List Event) (before : History) (e : Event)
    → known_marks g told before (events ++ e ∷ []) ≡ known_marks g told before events ++ one_more g told e (history_of events ++ before) ∷ []
known_snoc g told [] before e = refl
known_snoc g told (x ∷ events) before e =
    ap (λ (ms : List Mark). one_more g told x before ∷ ms) (known_snoc g told events (x ∷ before) e ∙ ap (λ (h : History). known_marks g told (x ∷ before) events ++ one_more g told e h ∷ []) (sym (history_of_cons x events before)))

pub known_more : (g : Setup) (told : List (List ℕ)) (events : List Event) (e : Event)
    → known_marks g told [] (events ++ e ∷ []) ≡ known_marks g told [] events ++ known_mark (known_by g told (history_of events) e) (world g (e ∷ history_of events)).requests e ∷ []
known_more g told events e =
    known_snoc g told events [] e ∙ ap (λ (h : History). known_marks g told [] events ++ one_more g told e h ∷ []) (append-nil (history_of events))

issues_snoc : (g : Setup) (told : List (List ℕ)) (events : List Event) (before : History) (e : Event) → IssuesMeet g told before events
    → IssueMeets (known_by g told (history_of events ++ before) e) e → IssuesMeet g told before (events ++ e ∷ [])
issues_snoc g told [] before e all meets = (meets, tt)
issues_snoc g told (x ∷ events) before e all meets =
    (all.0, issues_snoc g told events (x ∷ before) e all.1 (subst (λ (h : History). IssueMeets (known_by g told h e) e) (history_of_cons x events before) meets))

pub issues_more : (g : Setup) (told : List (List ℕ)) (events : List Event) (e : Event) → IssuesMeet g told [] events
    → IssueMeets (known_by g told (history_of events) e) e → IssuesMeet g told [] (events ++ e ∷ [])
issues_more g told events e all meets =
    issues_snoc g told events [] e all (subst (λ (h : History). IssueMeets (known_by g told h e) e) (sym (append-nil (history_of events))) meets)

issues_at : (g : Setup) (told : List (List ℕ)) (events later : List Event) (before : History) (e : Event)
    → IssuesMeet g told before (events ++ e ∷ later) → IssueMeets (known_by g told (history_of events ++ before) e) e
issues_at g told [] later before e all = all.0
issues_at g told (x ∷ events) later before e all =
    subst (λ (h : History). IssueMeets (known_by g told h e) e) (sym (history_of_cons x events before)) (issues_at g told events later (x ∷ before) e all.1)

issue_at : (g : Setup) (told : List (List ℕ)) (events : List Event) (k : ℕ) (e : Event) → k < length events → e ≡ get_or events k e
    → IssuesMeet g told [] events → IssueMeets (known_by g told (history_of (take k events)) e) e
issue_at g told events k e low is all =
    let rest : drop k events ≡ e ∷ drop (suc k) events = drop-cons events k e low ∙ ap (λ (y : Event). y ∷ drop (suc k) events) (sym is) in
    let split : events ≡ take k events ++ (e ∷ drop (suc k) events) = sym (take-append-drop k events) ∙ ap (λ (ys : List Event). take k events ++ ys) rest in
    subst (λ (h : History). IssueMeets (known_by g told h e) e) (append-nil (history_of (take k events))) (issues_at g told (take k events) (drop (suc k) events) [] e (subst (IssuesMeet g told []) split all))

-- what goes wrong somewhere isn't lawful, or an issue there hasn't the bytes that are known
pub wrong_known : (g o : Setup) (told : List (List ℕ)) (events : List Event) (k : ℕ) (e : Event) → k < length events → e ≡ get_or events k e → o ≡ g
    → (CalledForApart o (world o (history_of (take k events))) e.0 e.1 → IssueMeets (known_by o told (history_of (take k events)) e) e → ⊥)
    → IsLawfulApart g (history_of events) → IssuesMeet g told [] events → ⊥
wrong_known g o told events k e low is same wrong lawful all =
    wrong_from g o events k e low is same (λ called. wrong called (subst (λ (s : Setup). IssueMeets (known_by s told (history_of (take k events)) e) e) (sym same) (issue_at g told events k e low is all))) lawful
