-- What a search comes to that knows a part of the bytes.
use Rattle.std.proofs.Common.{◌≡◌, ℕ, List, [], map, sym, subst}
use Rattle.uring_effect_points.proofs.Common.{AreSameButBytes, Event, Fate, History, IsFated, IsFoundBare, IsLawfulApart, IssuesMeet, Setup, blank, bytes_told, found_by, history_of, known_marks}
use Rattle.uring_effect_points.specs.declared.search.Fate.TheVariants as fate
use Rattle.uring_effect_points.proofs.Filling.{filled_lawful}
use Rattle.uring_effect_points.proofs.Loosening.{told_goes, told_lawful}

decided_told : (g : Setup) (events : List Event) (come_to : Fate) → IsLawfulApart g (history_of (map blank events))
    → IssuesMeet g (bytes_told events) [] (map blank events)
    → IsFated g.files (known_marks g (bytes_told events) [] (map blank events)) come_to
    → IsFoundBare g (history_of events) (found_by come_to)
decided_told g events fate.Explained lawful meet goes = filled_lawful g events lawful meet goes
decided_told g events fate.Over lawful meet none = λ h same early. none (told_goes g events h same early)
decided_told g events fate.Open lawful meet left = tt

pub decided_blank : (g : Setup) (events blanks : List Event) (told : List (List ℕ)) (come_to : Fate) → map blank events ≡ blanks
    → bytes_told events ≡ told → IsLawfulApart g (history_of blanks) → IssuesMeet g told [] blanks
    → IsFated g.files (known_marks g told [] blanks) come_to → IsFoundBare g (history_of events) (found_by come_to)
decided_blank g events blanks told come_to blank_is told_is lawful meet fated =
    decided_told g events come_to (subst (λ (es : List Event). IsLawfulApart g (history_of es)) (sym blank_is) lawful)
    (subst (λ (xs : List (List ℕ)). IssuesMeet g xs [] (map blank events)) (sym told_is) (subst (IssuesMeet g told []) (sym blank_is) meet))
    (subst (λ (xs : List (List ℕ)). IsFated g.files (known_marks g xs [] (map blank events)) come_to) (sym told_is) (subst (λ (es : List Event). IsFated g.files (known_marks g told [] es) come_to) (sym blank_is) fated))

pub refused_blank : (g o : Setup) (events blanks : List Event) (told : List (List ℕ)) → o ≡ g → map blank events ≡ blanks
    → bytes_told events ≡ told
    → (IsLawfulApart o (history_of blanks) → IssuesMeet o told [] blanks → ⊥)
    → (h : History) → AreSameButBytes h (history_of events) → IsLawfulApart g h → ⊥
refused_blank g o events blanks told own blank_is told_is wrong h same lawful =
    let both = told_lawful g events h same lawful in
    wrong (subst (λ (s : Setup). IsLawfulApart s (history_of blanks)) (sym own) (subst (λ (es : List Event). IsLawfulApart g (history_of es)) blank_is both.0))
    (subst (λ (s : Setup). IssuesMeet s told [] blanks) (sym own) (subst (IssuesMeet g told []) blank_is (subst (λ (xs : List (List ℕ)). IssuesMeet g xs [] (map blank events)) told_is both.1)))
