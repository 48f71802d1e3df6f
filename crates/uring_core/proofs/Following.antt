-- Histories from events written oldest first: what `history_of` makes of a list with one event more, and of two lists.
-- From std's lemmas on `reverse`. `follow_next` is one round of `run` of `uring_machine`.
-- Stable: other crates may import `history_of_snoc`, `history_of_cons`, `history_of_append` and `zip_next`.
use Rattle.std.proofs.Common.{◌≡◌, ℕ, ◌+◌, ◌<◌, List, [], ◌∷◌, ◌++◌, length, take, get_or, refl, ap, ◌∙◌, arith, append_assoc}
use Rattle.uring_core.proofs.Common.{Answer, Event, History, IsNoFinish, Step, history_of, length-take-le, reverse-append, take_more, zip}
use Rattle.uring_core.specs.declared.step.Step.TheVariants as step

-- what happened last stands first
pub history_of_snoc : (events : List Event) (e : Event)
    → history_of (events ++ e ∷ []) ≡ e ∷ history_of events
history_of_snoc events e = reverse-append events (e ∷ [])

-- what happened first stands right after what was before
pub history_of_cons : (e : Event) (events : List Event) (before : History)
    → history_of (e ∷ events) ++ before ≡ history_of events ++ e ∷ before
history_of_cons e events before = ap (λ h. h ++ before) (reverse-append (e ∷ []) events) ∙ append_assoc (history_of events) (e ∷ []) before

-- what happened later stands before what happened earlier
pub history_of_append : (earlier later : List Event) (before : History)
    → history_of (earlier ++ later) ++ before ≡ history_of later ++ (history_of earlier ++ before)
history_of_append earlier later before = ap (λ h. h ++ before) (reverse-append earlier later) ∙ append_assoc (history_of later) (history_of earlier) before

-- the last step stands beside the last answer
zip_snoc : (steps : List Step) (answers : List Answer) (s : Step) (a : Answer)
    → length steps ≡ length answers
    → zip (steps ++ s ∷ []) (answers ++ a ∷ []) ≡ zip steps answers ++ (s, a) ∷ []
zip_snoc [] [] s a e = refl
zip_snoc (first ∷ steps) (answer ∷ answers) s a e = grind (arith, (zip_snoc steps answers s a (omega (arith, e))))
zip_snoc _ _ s a e = absurd (omega (arith, e))

-- one step more, with its answer
pub zip_next : (steps : List Step) (i : ℕ) (answers pushed : List Answer) (s : Step) (a : Answer)
    → i < length steps → s ≡ get_or steps i s → length answers ≡ i → pushed ≡ answers ++ a ∷ []
    → zip (take (i + 1) steps) pushed ≡ zip (take i steps) answers ++ (s, a) ∷ []
zip_next steps i answers pushed s a lt at many more = grind (arith, (take_more steps i s lt), zip_snoc, length-take-le)

pub follow_next : (h : History) (steps : List Step) (i : ℕ) (answers pushed : List Answer) (s : Step) (a : Answer)
    → i < length steps → s ≡ get_or steps i s → length answers ≡ i → pushed ≡ answers ++ a ∷ []
    → history_of (zip (take (i + 1) steps) pushed) ++ h
    ≡ (s, a) ∷ (history_of (zip (take i steps) answers) ++ h)
follow_next h steps i answers pushed s a lt at many more =
    grind (arith, (zip_next steps i answers pushed s a lt at many more), (history_of_snoc (zip (take i steps) answers) (s, a)))

-- what isn't a Finish is no finish
pub no_finish : (s : Step) → ((n : ℕ) → s ≡ step.Finish n → ⊥) → IsNoFinish s
no_finish s other = grind arith
