-- What lines show, one after the other: they are all that a lawful history shows of which they are the lines.
use Rattle.std.proofs.Common.{◌≡◌, ◌++◌, ℕ, ◌+◌, ◌<◌, ◌≤◌, Bool, true, false, List, [], ◌∷◌, length, take, drop, get_or, map, if◌then◌else◌, refl, sym, ap, subst, ◌∙◌, inl, inr, Some}
use mathlib.Core.List.{head-eq_of_cons-eq, tail-eq_of_cons-eq}
use Rattle.uring_observed_text.proofs.Common.{Answer, ArePaired, AreShown, CalledForApart, Core, Event, FitsApart, HasNoAnswer, History, IsBadLine, IsBare, IsHiddenLine, IsLawfulApart, IsOnly, IsPassed, IsRecord, IsSight, MayShow, Reads, Setup, Shows, ShowsNever, Sight, Step, get_or_from_slice_get, history_of, is_hidden, length-map, option_map, record_once, reverse, reverse-append, seen_in, slice_get, slice_get-get_or, slice_get-map, slice_get_within, submitted, take-append-drop, take_all, take_more, text_of, visible, world}
use Rattle.uring_observed_text.specs.declared.sight.Sight.TheVariants as sight
use Rattle.uring_observed_text.proofs.HistoryLines.{paired_more}

-- the last event that is seen, and the history before it
pub record LastSeen (g : Setup) (e : Event) (past : History) : Type 0 where
  pub h : History
  pub lawful : IsLawfulApart g h
  pub shows : visible h ≡ past
  pub called : CalledForApart g (world g h) e.0 e.1

last_seen : (g : Setup) (h : History) (e : Event) (past : History) → IsLawfulApart g h
    → visible h ≡ e ∷ past → LastSeen g e past
last_seen g [] e past lawful shows = absurd cc
last_seen g (x ∷ h) e past lawful shows = go (is_hidden x.0) (last_seen g h e past lawful.1) shows where
  go : (b : Bool) → (visible h ≡ e ∷ past → LastSeen g e past) → (if b then visible h else x ∷ visible h) ≡ e ∷ past
      → LastSeen g e past
  go true before is = before is
  go false before is =
      subst (λ (y : Event). LastSeen g y past) (head-eq_of_cons-eq is)
      (record { h = h; lawful = lawful.1; shows = tail-eq_of_cons-eq is; called = lawful.0 })

-- ---- one line more

pub reads_passed : (g : Setup) (lines : List (List ℕ)) (seen : History) (line : List ℕ) → IsPassed line
    → Reads g lines seen → Reads g (line ∷ lines) seen
reads_passed g lines seen line passed r = record {
  shown = inl (passed, r.shown);
  only = λ h lawful shown. elim shown [
    | inl before ↦ r.only h lawful before.1
    | inr event ↦ absurd (passed.0 event.0.0 (text_of event.0.1) event.3.text)
  ];
}

-- an event of the line after these is the one that was read
event_is : (g : Setup) (seen : History) (line : List ℕ) (s : Step) (a : Answer) (e : Event) (past : History)
    → Shows line (s, a) → IsOnly g seen s (text_of a) a → Shows line e → past ≡ seen → LastSeen g e past
    → e ≡ (s, a)
event_is g seen line s a e past shows only also same last =
    let once = record_once line e.0 s (text_of e.1) (text_of a) also.text shows.text in
    go e.0 e.1 once.0 once.1 also.bare last.called
  where
    go : (t : Step) (b : Answer) → t ≡ s → text_of b ≡ text_of a → IsBare t b → CalledForApart g (world g last.h) t b → ◌≡◌ {A = Event} (t, b) (s, a)
    go t b is text bare called =
        let may : MayShow g seen s b = record { h = last.h; lawful = last.lawful; shows = last.shows ∙ same; called = subst (λ (u : Step). CalledForApart g (world g last.h) u b) is called } in
        let answers : b ≡ a = only b may text (subst (λ (u : Step). IsBare u b) is bare) in
        λ i. (is i, answers i)

pub reads_shown : (g : Setup) (lines : List (List ℕ)) (seen : History) (line : List ℕ) (s : Step) (a : Answer)
    → Shows line (s, a) → IsOnly g seen s (text_of a) a → Reads g lines seen
    → Reads g (line ∷ lines) ((s, a) ∷ seen)
reads_shown g lines seen line s a shows only r = record {
  shown = inr ((s, a), seen, refl, shows, r.shown);
  only = λ h lawful shown. elim shown [
    | inl before ↦ absurd (before.0.0 s (text_of a) shows.text)
    | inr event ↦
        let last : LastSeen g event.0 event.1 = last_seen g h event.0 event.1 lawful event.2 in
        let same : event.1 ≡ seen = sym last.shows ∙ r.only last.h last.lawful (subst (AreShown lines) (sym last.shows) event.4) in
        let is : event.0 ≡ (s, a) = event_is g seen line s a event.0 event.1 shows only event.3 same last in
        event.2 ∙ ap (λ (x : Event). x ∷ event.1) is ∙ ap (λ (k : History). (s, a) ∷ k) same
  ];
}

pub reads_wrong : (g : Setup) (lines : List (List ℕ)) (seen : History) (line : List ℕ) (s : Step) (text : List ℕ)
    → IsRecord line s text → HasNoAnswer g seen s text → Reads g lines seen
    → ShowsNever g (line ∷ lines)
reads_wrong g lines seen line s text is none r = λ h lawful shown. elim shown [
  | inl before ↦ before.0.0 s text is
  | inr event ↦
      let last : LastSeen g event.0 event.1 = last_seen g h event.0 event.1 lawful event.2 in
      let same : event.1 ≡ seen = sym last.shows ∙ r.only last.h last.lawful (subst (AreShown lines) (sym last.shows) event.4) in
      let once = record_once line event.0.0 s (text_of event.0.1) text event.3.text is in
      let may : MayShow g seen s event.0.1 = record { h = last.h; lawful = last.lawful; shows = last.shows ∙ same; called = subst (λ (u : Step). CalledForApart g (world g last.h) u event.0.1) once.0 last.called } in
      none event.0.1 may once.1 (subst (λ (u : Step). IsBare u event.0.1) once.0 event.3.bare)
]

-- lines after those that nothing shows
pub never_later : (g : Setup) (later lines : List (List ℕ)) → ShowsNever g lines
    → ShowsNever g (later ++ lines)
never_later g [] lines never = never
never_later g (line ∷ later) lines never = λ h lawful shown. elim shown [
  | inl before ↦ never_later g later lines never h lawful before.1
  | inr event ↦
      let last : LastSeen g event.0 event.1 = last_seen g h event.0 event.1 lawful event.2 in
      never_later g later lines never last.h last.lawful (subst (AreShown (later ++ lines)) (sym last.shows) event.4)
]

-- ---- lists

-- the lines so far with one more, the newest first
pub one_more : (lines : List (List ℕ)) (i : ℕ) (line : List ℕ) → slice_get lines i ≡ Some line
    → reverse (take (i + 1) lines) ≡ line ∷ reverse (take i lines)
one_more lines i line is =
    ap reverse (take_more lines i line (slice_get_within lines i line is) ∙ ap (λ (x : List ℕ). take i lines ++ x ∷ []) (get_or_from_slice_get lines i line line is)) ∙ reverse-append (take i lines) (line ∷ [])

-- all lines, the newest first, after the first ones
pub split_lines : (lines : List (List ℕ)) (i : ℕ)
    → reverse lines ≡ reverse (drop i lines) ++ reverse (take i lines)
split_lines lines i = ap reverse (sym (take-append-drop i lines)) ∙ reverse-append (take i lines) (drop i lines)

-- what is seen, as lists
pub visible_is : (h : History) → history_of (seen_in h) ≡ visible h
visible_is [] = refl
visible_is (e ∷ h) = go (is_hidden e.0) (visible_is h) where
  go : (b : Bool) → history_of (seen_in h) ≡ visible h
      → history_of (if b then seen_in h else seen_in h ++ e ∷ []) ≡ (if b then visible h else e ∷ visible h)
  go true before = before
  go false before = reverse-append (seen_in h) (e ∷ []) ∙ ap (λ (k : History). e ∷ k) before

-- the line of a place
pub line_at : {X : Type 0} (v : X → List ℕ) (xs : List X) (i : ℕ) (d : X) → i < length xs
    → slice_get (map v xs) i ≡ Some (v (get_or xs i d))
line_at v xs i d low = slice_get-map v xs i ∙ ap (option_map v) (slice_get-get_or xs i d low)

-- ---- the first lines

-- the first lines are read: they show these events, which the core follows, and each of these lines shows one
pub record AreRead (g : Setup) (first : List (List ℕ)) (core : Core) (events : List Event) (shown : List (List ℕ)) : Type 0 where
  pub setup : core.setup ≡ g
  pub reads : Reads g (reverse first) (history_of events)
  pub fits : FitsApart core (submitted (history_of events))
  pub paired : ArePaired shown events

-- what was made of a line after any events that the core follows
abbrev pub IsSeen : Core → Core → List ℕ → Sight → Type 0
IsSeen old new line x = (events : History) → FitsApart old (submitted events) → IsSight new events line x

pub none_read : (core : Core) (events : List Event) (shown : List (List ℕ)) → FitsApart core []
    → events ≡ [] → shown ≡ [] → AreRead core.setup [] core events shown
none_read core events shown fits no_event no_line =
    subst (λ (es : List Event). AreRead core.setup [] core es shown) (sym no_event)
    (subst (λ (ls : List (List ℕ)). AreRead core.setup [] core [] ls) (sym no_line)
    (record { setup = refl; reads = record { shown = refl; only = λ h lawful are. are }; fits = fits; paired = tt }))

pub passed_read : (g : Setup) (lines : List (List ℕ)) (i : ℕ) (line : List ℕ) (old new : Core) (events : List Event) (shown : List (List ℕ))
    → slice_get lines i ≡ Some line → new.setup ≡ old.setup → IsSeen old new line sight.Passed
    → AreRead g (take i lines) old events shown → AreRead g (take (i + 1) lines) new events shown
passed_read g lines i line old new events shown there same so r =
    let made = so (history_of events) r.fits in
    record {
      setup = same ∙ r.setup;
      reads = subst (λ (ls : List (List ℕ)). Reads g ls (history_of events)) (sym (one_more lines i line there)) (reads_passed g (reverse (take i lines)) (history_of events) line made.0 r.reads);
      fits = made.1;
      paired = r.paired;
    }

pub shown_read : (g : Setup) (lines : List (List ℕ)) (i : ℕ) (line : List ℕ) (s : Step) (a : Answer) (old new : Core) (events events' : List Event) (shown shown' : List (List ℕ))
    → slice_get lines i ≡ Some line → new.setup ≡ old.setup
    → IsSeen old new line (sight.Shown s a) → events' ≡ events ++ (s, a) ∷ [] → shown' ≡ shown ++ line ∷ []
    → AreRead g (take i lines) old events shown → AreRead g (take (i + 1) lines) new events' shown'
shown_read g lines i line s a old new events events' shown shown' there same so more_events more_lines r =
    subst (λ (es : List Event). AreRead g (take (i + 1) lines) new es shown') (sym more_events)
    (subst (λ (ls : List (List ℕ)). AreRead g (take (i + 1) lines) new (events ++ (s, a) ∷ []) ls) (sym more_lines)
    (let made = so (history_of events) r.fits in
    let later : history_of (events ++ (s, a) ∷ []) ≡ (s, a) ∷ history_of events = reverse-append events ((s, a) ∷ []) in
    let only : IsOnly g (history_of events) s (text_of a) a = subst (λ (k : Setup). IsOnly k (history_of events) s (text_of a) a) (same ∙ r.setup) made.1 in
    let reads : Reads g (line ∷ reverse (take i lines)) ((s, a) ∷ history_of events) = reads_shown g (reverse (take i lines)) (history_of events) line s a made.0 only r.reads in
    record {
      setup = same ∙ r.setup;
      reads = subst (λ (h : History). Reads g (reverse (take (i + 1) lines)) h) (sym later) (subst (λ (ls : List (List ℕ)). Reads g ls ((s, a) ∷ history_of events)) (sym (one_more lines i line there)) reads);
      fits = subst (λ (h : History). FitsApart new (submitted h)) (sym later) made.2;
      paired = paired_more shown events line (s, a) r.paired made.0;
    }))

pub wrong_read : (g : Setup) (lines : List (List ℕ)) (i : ℕ) (line : List ℕ) (old new : Core) (events : List Event) (shown : List (List ℕ))
    → slice_get lines i ≡ Some line → new.setup ≡ old.setup → IsSeen old new line sight.Wrong
    → AreRead g (take i lines) old events shown → ShowsNever g (reverse lines)
wrong_read g lines i line old new events shown there same so r =
    let made = so (history_of events) r.fits in
    let none : HasNoAnswer g (history_of events) made.0 made.1 = subst (λ (k : Setup). HasNoAnswer k (history_of events) made.0 made.1) (same ∙ r.setup) made.3 in
    let here : ShowsNever g (line ∷ reverse (take i lines)) = reads_wrong g (reverse (take i lines)) (history_of events) line made.0 made.1 made.2 none r.reads in
    subst (ShowsNever g) (sym (split_lines lines (i + 1)))
    (never_later g (reverse (drop (i + 1) lines)) (reverse (take (i + 1) lines)) (subst (ShowsNever g) (sym (one_more lines i line there)) here))

pub hidden_read : (g : Setup) (lines : List (List ℕ)) (i : ℕ) (line : List ℕ) (old new : Core) (events : List Event) (shown : List (List ℕ))
    → slice_get lines i ≡ Some line → IsSeen old new line sight.Hidden
    → AreRead g (take i lines) old events shown → IsHiddenLine lines i
hidden_read g lines i line old new events shown there so r = (line, there, so (history_of events) r.fits)

pub bad_read : (g : Setup) (lines : List (List ℕ)) (i : ℕ) (line : List ℕ) (old new : Core) (events : List Event) (shown : List (List ℕ))
    → slice_get lines i ≡ Some line → IsSeen old new line sight.Bad
    → AreRead g (take i lines) old events shown → IsBadLine lines i
bad_read g lines i line old new events shown there so r =
    let made = so (history_of events) r.fits in (line, there, made.0, made.1)

pub all_read : {X : Type 0} (g : Setup) (v : X → List ℕ) (xs : List X) (i : ℕ) (core : Core) (events : List Event) (shown : List (List ℕ))
    → length xs ≤ i → AreRead g (take i (map v xs)) core events shown
    → Reads g (reverse (map v xs)) (history_of events)
all_read g v xs i core events shown all r =
    let whole : take i (map v xs) ≡ map v xs = take_all i (map v xs) (subst (λ (n : ℕ). n ≤ i) (sym (length-map xs v)) all) in
    subst (λ (ls : List (List ℕ)). Reads g (reverse ls) (history_of events)) whole r.reads
