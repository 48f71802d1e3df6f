-- What a session keeps, byte by byte and line by line.
use Rattle.std.proofs.Common.{◌≡◌, ◌≢◌, ℕ, Bool, List, [], ◌∷◌, ◌++◌, Option, Some, None, refl, sym, ap, subst, ◌∙◌, append_assoc, arith}
use Rattle.uring_trace.proofs.Common.{Answers, AppendsAnswer, Event, Exchange, Fits, History, Holds, IsBad, IsGranted, IsStep, IsUnrefused, KeptLine, Machine, Manner, Step, answer_text, append-nil, codes, ended, events_of, history_of, joined, kept_of, lines_of, step_text, with_event, world}
use Rattle.std.specs.Option.{option_to_list}
use Rattle.uring_entry.specs.Setup.{Setup}
use Rattle.uring_core.proofs.Following.{history_of_snoc}
use Rattle.uring_machine.specs.Settling.{AreUnrefused}
use Rattle.uring_machine.proofs.Settling.{unrefused_append}
use Rattle.uring_core.specs.declared.answer.Answer.{Answer}
use Rattle.uring_trace.specs.Text.{text_of}
use Rattle.uring_trace.specs.Traces.{IsWhole, IsBeginning, IsEnded}
use Rattle.uring_text.proofs.Splits.{split_more, split_end, split_whole, last_some}

-- one byte more of a line
pub took_byte : (manner : Manner) (m : Machine) (is_echo : Bool) (kept kept' : KeptLine) (before text : List ℕ) (b : ℕ)
    → b ≢ 10 → ((line : List ℕ) → kept ≡ kept_of line → kept' ≡ kept_of (line ++ b ∷ []))
    → Holds manner m is_echo kept before text → Holds manner m is_echo kept' (before ++ b ∷ []) text
took_byte manner m is_echo kept kept' before text b ne more h =
    grind (arith, (split_more before (lines_of h.exchanges) h.line b ne h.splits))

-- a step was made, and its answer appended after what stands before it
pub told_step : (granted : Type 0) (old new : Machine) (is_echo : Bool) (line before middle told after : List ℕ) (s : Step) (a : Answer)
    → IsStep line s → middle ≡ before ++ step_text is_echo line → told ≡ text_of a
    → after ≡ middle ++ told
    → new.core.setup ≡ old.core.setup → ((h : History) → Fits old h → Fits new ((s, a) ∷ h))
    → (granted → (h : History) → Fits old h → IsUnrefused old.core.setup (world old.core.setup h) s a)
    → AppendsAnswer granted old new is_echo line before after
told_step granted old new is_echo line before middle told after s a read m t e same fits unrefused =
    let event : Option Event = Some (s, a) in
    let appended : after ≡ before ++ answer_text is_echo line event = rw (e, m, t, append_assoc) in
    record { event = event; read = read; appended = appended; same = same; fits = fits; unrefused = λ sure h f. (unrefused sure h f, tt) }

-- a line that is no step was told
pub told_bad : (granted : Type 0) (m : Machine) (is_echo : Bool) (line before after : List ℕ)
    → IsBad line → after ≡ before ++ codes "bad line" → AppendsAnswer granted m m is_echo line before after
told_bad granted m is_echo line before after bad e =
    record { event = None; read = bad; appended = e; same = refl; fits = λ h f. f; unrefused = λ sure h f. tt }

-- the history of one exchange more
pub one_more : (event : Option Event) (events : List Event)
    → with_event event (history_of events) ≡ history_of (events ++ option_to_list event)
one_more event events = grind (arith, append-nil, history_of_snoc)

-- one answer more that refuses no memory
pub unrefused_more : (g : Setup) (event : Option Event) (events : List Event) → AreUnrefused g [] events
    → AreUnrefused g (history_of events) (option_to_list event)
    → AreUnrefused g [] (events ++ option_to_list event)
unrefused_more g event events earlier last = unrefused_append g [] events (option_to_list event) earlier (subst (λ (h : History). AreUnrefused g h (option_to_list event)) (sym (append-nil (history_of events))) last)

-- one exchange more
answered : (granted : Type 0) (manner : Manner) (m m' : Machine) (is_echo : Bool) (xs : List Exchange) (line text before after : List ℕ)
    → IsGranted manner granted → Answers manner xs (text ++ before) → m.core.setup ≡ manner.setup → is_echo ≡ manner.is_echo
    → Fits m (history_of (events_of xs)) → (a : AppendsAnswer granted m m' is_echo line before after)
    → Answers manner (record { line = line; event = a.event } ∷ xs) (text ++ (after ++ 10 ∷ []))
answered granted manner m m' is_echo xs line text before after sure h same echoes fits a = record {
  unrefused = λ yes. unrefused_more manner.setup a.event (events_of xs) (h.unrefused yes) (subst (λ (g : Setup). AreUnrefused g (history_of (events_of xs)) (option_to_list a.event)) same (a.unrefused (sure yes) (history_of (events_of xs)) fits));
  lawful = rw (a.same ∙ same, one_more a.event (events_of xs)) at (a.fits (history_of (events_of xs)) fits).lawful;
  each = (a.read, h.each);
  all = ap (λ (t : List ℕ). text ++ (t ++ 10 ∷ [])) (a.appended ∙ ap (λ (e : Bool). before ++ answer_text e line a.event) echoes) ∙ simp append_assoc (refl) ∙ ap (λ (t : List ℕ). t ++ ended (answer_text manner.is_echo line a.event)) h.all;
}

-- the answer to a line that has its end
pub ended_line : (granted : Type 0) (manner : Manner) (m m' : Machine) (is_echo : Bool) (kept : KeptLine) (bytes text before after : List ℕ)
    → ((line : List ℕ) → kept ≡ kept_of line → AppendsAnswer granted m m' is_echo line before after)
    → IsGranted manner granted → Holds manner m is_echo kept bytes (text ++ before)
    → Holds manner m' is_echo (kept_of []) (bytes ++ 10 ∷ []) (text ++ (after ++ 10 ∷ []))
ended_line granted manner m m' is_echo kept bytes text before after answer sure h =
    let a = answer h.line h.keeps in
    let all = answered granted manner m m' is_echo h.exchanges h.line text before after sure h.answers h.same h.echoes h.fits a in
    let fits = rw (one_more a.event (events_of h.exchanges)) at (a.fits (history_of (events_of h.exchanges)) h.fits) in
    grind (arith, all, (split_end bytes (lines_of h.exchanges) h.line h.splits), fits)

-- the answer to a last line that has begun
pub ended_last : (granted : Type 0) (manner : Manner) (m m' : Machine) (is_echo : Bool) (kept : KeptLine) (bytes text before after : List ℕ)
    → ((line : List ℕ) → kept ≡ kept_of line → line ≡ [] → ⊥)
    → ((line : List ℕ) → kept ≡ kept_of line → AppendsAnswer granted m m' is_echo line before after)
    → IsGranted manner granted → Holds manner m is_echo kept bytes (text ++ before)
    → IsWhole manner bytes (text ++ (after ++ 10 ∷ []))
ended_last granted manner m m' is_echo kept bytes text before after some answer sure h =
    let a = answer h.line h.keeps in
    (record { line = h.line; event = a.event } ∷ h.exchanges, lines_of h.exchanges, h.line, answered granted manner m m' is_echo h.exchanges h.line text before after sure h.answers h.same h.echoes h.fits a, h.splits, sym (last_some (lines_of h.exchanges) h.line (some h.line h.keeps)))

-- what a session holds, for the outcomes that end a trace early
pub held_ended : (manner : Manner) (m : Machine) (is_echo : Bool) (kept : KeptLine) (bytes text : List ℕ)
    → Holds manner m is_echo kept bytes text → IsEnded manner bytes text
held_ended manner m is_echo kept bytes text h = (h.exchanges, h.line, h.answers, h.splits)

pub held_beginning : (manner : Manner) (m : Machine) (is_echo : Bool) (kept : KeptLine) (bytes text more : List ℕ)
    → Holds manner m is_echo kept bytes text → IsBeginning manner (bytes ++ more) text
held_beginning manner m is_echo kept bytes text more h =
    let lines = lines_of h.exchanges in
    (joined lines, h.line ++ more, h.exchanges, h.answers, split_whole lines h.splits.each, ap (λ (l : List ℕ). l ++ more) h.splits.whole ∙ append_assoc (joined lines) h.line more)
