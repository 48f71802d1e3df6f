-- The lines of a history that shows the first ones of the steps that were seen.
use Rattle.std.proofs.Common.{◌≡◌, ◌++◌, ℕ, ◌+◌, ◌<◌, ◌≤◌, Bool, false, List, [], ◌∷◌, length, take, drop, get_or, if◌then◌else◌, refl, sym, ap, subst, ◌∙◌, arith, append_assoc, append-nil, Some}
use Rattle.uring_observed_text.proofs.Common.{AreLinesOf, ArePaired, Begins, Event, History, IsLineOf, Setup, Shows, Step, Tells, history_of, is_hidden, length-append, reverse-append, seen_in, setup_text, slice_get, take-append-drop}
use Rattle.uring_core.specs.declared.step.Step.TheVariants as step
use Rattle.uring_text.specs.Lines.{ended, joined}
use Rattle.uring_reconstruct.proofs.Seeing.{taken_next}
use Rattle.uring_reconstruct.proofs.Begun.{begins_itself, begins_on}

-- ---- pairs

pub paired_more : (lines : List (List ℕ)) (events : List Event) (line : List ℕ) (e : Event)
    → ArePaired lines events → Shows line e → ArePaired (lines ++ line ∷ []) (events ++ e ∷ [])
paired_more [] [] line e paired shows = (shows, tt)
paired_more (l ∷ lines) (x ∷ events) line e paired shows = (paired.0, paired_more lines events line e paired.1 shows)
paired_more [] (x ∷ events) line e paired shows = absurd paired
paired_more (l ∷ lines) [] line e paired shows = absurd paired

-- the line of an event
pub record LineThere (lines : List (List ℕ)) (k : ℕ) (e : Event) : Type 0 where
  pub line : List ℕ
  pub there : slice_get lines k ≡ Some line
  pub shows : Shows line e

-- an event that comes after so many of them
pub paired_at : (lines : List (List ℕ)) (first rest : List Event) (e : Event)
    → ArePaired lines (first ++ e ∷ rest) → LineThere lines (length first) e
paired_at (l ∷ lines) [] rest e paired = record { line = l; there = refl; shows = paired.0 }
paired_at (l ∷ lines) (x ∷ first) rest e paired = grind (arith, (paired_at lines first rest e paired.1))
paired_at [] [] rest e paired = absurd paired
paired_at [] (x ∷ first) rest e paired = absurd paired

-- ---- what a history shows

seen_more : (h : History) (e : Event) → Begins (seen_in h) (seen_in (e ∷ h))
seen_more h e = grind (arith, begins_itself)

seen_before : (newer h : History) → Begins (seen_in h) (seen_in (newer ++ h))
seen_before [] h = begins_itself (seen_in h)
seen_before (e ∷ newer) h =
    begins_on (seen_in h) (seen_in (newer ++ h)) (seen_in (e ∷ (newer ++ h))) (seen_before newer h) (seen_more (newer ++ h) e)

part_begins : (events : List Event) (i : ℕ) → Begins (seen_in (history_of (take i events))) (seen_in (history_of events))
part_begins events i =
    subst (λ (k : History). Begins (seen_in (history_of (take i events))) (seen_in k))
    (sym (reverse-append (take i events) (drop i events)) ∙ ap history_of (take-append-drop i events))
    (seen_before (history_of (drop i events)) (history_of (take i events)))

-- the line of an event that is seen
pub line_there : (lines : List (List ℕ)) (events seen : List Event) (i : ℕ) (e : Event)
    → ArePaired lines seen → Begins (seen_in (history_of events)) seen
    → i < length events → e ≡ get_or events i e → is_hidden e.0 ≡ false
    → LineThere lines (length (seen_in (history_of (take i events)))) e
line_there lines events seen i e paired begins low is shown =
    grind (arith, (taken_next events i e low is), (part_begins events (i + 1)), begins_on, append_assoc, paired_at)

-- how many were seen
pub count_more : (events : List Event) (i : ℕ) (e : Event) → i < length events → e ≡ get_or events i e
    → length (seen_in (history_of (take (i + 1) events)))
    ≡ length (seen_in (history_of (take i events))) + (if is_hidden e.0 then 0 else 1)
count_more events i e low is = grind (arith, taken_next, length-append)

-- ---- the text

-- what was written of a history
pub record IsWritten (old new : List ℕ) (h : History) : Type 0 where
  pub out : List (List ℕ)
  pub lines : AreLinesOf out h
  pub text : new ≡ old ++ joined out

pub nothing_written : (old : List ℕ) (events : List Event) → IsWritten old old (history_of (take 0 events))
nothing_written old events = record { out = []; lines = tt; text = sym (append-nil old) }

pub one_written : (old mid new : List ℕ) (events : List Event) (i : ℕ) (e : Event) (line : List ℕ)
    → i < length events → e ≡ get_or events i e → IsLineOf line e → new ≡ mid ++ ended line
    → IsWritten old mid (history_of (take i events)) → IsWritten old new (history_of (take (i + 1) events))
one_written old mid new events i e line low is of more w = record {
  out = line ∷ w.out;
  lines = subst (AreLinesOf (line ∷ w.out)) (sym (taken_next events i e low is)) (of, w.lines);
  text = more ∙ ap (λ (t : List ℕ). t ++ ended line) w.text ∙ append_assoc old (joined w.out) (ended line);
}

-- ---- the line of one event

-- what the line of an event makes of a text
abbrev pub HasLineOf : List ℕ → List ℕ → Event → Type 0
HasLineOf old new e = (line : List ℕ) × IsLineOf line e × (new ≡ old ++ ended line)

pub shown_more : (lines : List (List ℕ)) (k : ℕ) (old new : List ℕ) (e : Event) → is_hidden e.0 ≡ false
    → (line : List ℕ) × (slice_get lines k ≡ Some line) × Shows line e
    → ((line : List ℕ) → slice_get lines k ≡ Some line → new ≡ old ++ ended line) → HasLineOf old new e
shown_more lines k old new e seen there more = grind arith

-- a step that is none of these can be seen
pub unhidden : (s : Step) → ((n : ℕ) → s ≡ step.Issue n → ⊥) → ((n : ℕ) → s ≡ step.Finish n → ⊥)
    → (s ≡ step.Flush → ⊥) → is_hidden s ≡ false
unhidden s issue finish flush = grind arith

-- it takes one line of what was seen, or none
pub one_at_most : (hidden : Bool) (n : ℕ) → n ≡ (if hidden then 0 else 1) → n ≤ 1
one_at_most hidden n e = grind arith

-- ---- all of it

pub text_told : (g : Setup) (h : History) (a b c : List ℕ) → a ≡ [] → b ≡ a ++ setup_text g
    → (out : List (List ℕ)) × AreLinesOf out h × (c ≡ b ++ joined out) → Tells g h c []
text_told g h a b c a_is b_is w = grind (arith, append-nil)
