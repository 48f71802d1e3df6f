-- A history that is lawful by early effects gives moves to a search that knows a part of its bytes.
use Rattle.std.proofs.Common.{◌≡◌, ℕ, ◌==◌, Bool, true, false, List, [], ◌∷◌, ◌++◌, map, Option, Some, None, if◌then◌else◌, refl, sym, ap, ap₂, subst, ◌∙◌}
use Rattle.uring_effect_points.proofs.Common.{AreSameButBytes, End, EndsBy, Event, FitsEnd, Goes, History, IsLawfulApart, IsLawfulEarly, IsWalk, IssueMeets, IssuesMeet, Mark, MarkStanding, MayTake, Meets, MeetsBytes, Move, Op, Outcome, Pass, Passes, Requests, Running, Setup, Take, at_first, awaits, bare, blank, bytes_reaped, bytes_told, end_in, end_told_by, history_of, known_by, known_mark, known_marks, map-append, mark_by, marks_after, operation_running, passed, reverse, reverse-append, reverse-reverse, start_mark, taken_by, took, world}
use Rattle.uring_core.specs.declared.step.Step.TheVariants as step
use Rattle.uring_core.specs.declared.answer.Answer.TheVariants as answer
use Rattle.uring_effect_points.proofs.Agreeing.{Agree, EndMeets, met_after, posted_bytes, told_agree}
use Rattle.uring_effect_points.proofs.BlankWorlds.{lawful_blank}
use Rattle.uring_effect_points.proofs.Filling.{history_onto, known_blank, known_marks_same, passed_so}
use Rattle.uring_effect_points.proofs.Timelines.{goes_by, lawful_below, onto, start_ends}

-- ---- what is known of the ends of a history is what they give

abbrev AllMeet : Setup → List (List ℕ) → History → List Event → Type 0
AllMeet g known h [] = Unit {0}
AllMeet g known h (e ∷ later) =
    EndMeets (known_by g known h e) (end_told_by e) × AllMeet g known (e ∷ h) later

all_meet : (g : Setup) (known : List (List ℕ)) (later : List Event) (h : History) → IsLawfulApart g (onto h later)
    → Agree known (posted_bytes g (onto h later)) → AllMeet g known h later × Agree known (posted_bytes g h)
all_meet g known [] h lawful agree = (tt, agree)
all_meet g known ((s, a) ∷ later) h lawful agree =
    let rest = all_meet g known later ((s, a) ∷ h) lawful agree in
    let here = met_after g known s a h (lawful_below g later ((s, a) ∷ h) lawful) rest.1 in
    ((here.0, rest.0), here.1)

told_meet : (g : Setup) (events : List Event) → IsLawfulApart g (onto [] events) → AllMeet g (bytes_told events) [] events
told_meet g events lawful = (all_meet g (bytes_told events) events [] lawful (told_agree g events lawful)).0

issue_meets : (known : Option (List ℕ)) (e : Event) → EndMeets known (end_told_by e) → IssueMeets known (blank e)
issue_meets known (step.Issue n, answer.Ended res bytes) meets = meets
issue_meets known (step.Finish n, answer.Ended res bytes) meets = tt
issue_meets known (step.Reap, answer.Reaped c) meets = tt
issue_meets known (_, a) meets = tt

issues_meet : (g : Setup) (known : List (List ℕ)) (h : History) (later : List Event) → AllMeet g known h later
    → IssuesMeet g known (map blank h) (map blank later)
issues_meet g known h [] meet = tt
issues_meet g known h (e ∷ later) meet =
    (issue_meets (known_by g known (map blank h) (blank e)) e (subst (λ (k : Option (List ℕ)). EndMeets k (end_told_by e)) (sym (known_blank g known h e)) meet.0), issues_meet g known (e ∷ h) later meet.1)

-- ---- moves with all bytes are moves with fewer

end_loose : (taken : Option Outcome) (known : Option (List ℕ)) (e : End) (bytes : List ℕ) → e.bytes ≡ Some bytes
    → MeetsBytes known bytes → EndsBy taken e → EndsBy taken (record { res = e.res; bytes = known })
end_loose None known e bytes is meets ends = ends
end_loose (Some o) known e bytes is meets ends =
    (ends.0, subst (MeetsBytes known) (subst (λ (k : Option (List ℕ)). MeetsBytes k o.bytes) is ends.1) meets)

pass_loose : (running : List Running) (known : Option (List ℕ)) (r : Requests) (e : Event) → EndMeets known (end_told_by e)
    → Passes running (mark_by r e) → Passes running (known_mark known r e)
pass_loose running known r (step.Finish n, answer.Ended res bytes) meets passes =
    end_loose (taken_by running n) known (record { res = res; bytes = Some bytes }) bytes refl meets passes
pass_loose running known r (_, a) meets passes = passes

-- a mark that is no end
awaits_start : (running : List Running) (n : ℕ) (o : Option Op) (marks : List Mark) → awaits running (start_mark n o ∷ marks) ≡ false
awaits_start running n None marks = refl
awaits_start running n (Some op) marks = refl

awaits_so : (running : List Running) (known : Option (List ℕ)) (r : Requests) (e : Event) (marks more : List Mark)
    → awaits running (mark_by r e ∷ marks) ≡ awaits running (known_mark known r e ∷ more)
awaits_so running known r (step.Finish n, answer.Ended res bytes) marks more = refl
awaits_so running known r (step.Issue n, answer.Run) marks more =
    awaits_start running n (operation_running r n) marks ∙ sym (awaits_start running n (operation_running r n) more)
awaits_so running known r (_, a) marks more = refl

meets_loose : (known : Option (List ℕ)) (bytes : List ℕ) (e : End) (o : Outcome) → e.bytes ≡ Some bytes → MeetsBytes known bytes
    → Meets e o → Meets (record { res = e.res; bytes = known }) o
meets_loose known bytes e o is meets met = end_loose (Some o) known e bytes is meets met

fits_by : (b : Bool) (known : Option (List ℕ)) (bytes : List ℕ) (e : End) (o : Outcome) (x y : Option End) → e.bytes ≡ Some bytes
    → MeetsBytes known bytes → (FitsEnd x o → FitsEnd y o) → FitsEnd (if b then Some e else x) o
    → FitsEnd (if b then Some (record { res = e.res; bytes = known }) else y) o
fits_by true known bytes e o x y is meets later fits = meets_loose known bytes e o is meets fits
fits_by false known bytes e o x y is meets later fits = later fits

fits_more : (known : Option (List ℕ)) (r : Requests) (e : Event) (k : ℕ) (o : Outcome) (marks more : List Mark) → EndMeets known (end_told_by e)
    → (FitsEnd (end_in marks k) o → FitsEnd (end_in more k) o)
    → FitsEnd (end_in (mark_by r e ∷ marks) k) o → FitsEnd (end_in (known_mark known r e ∷ more) k) o
fits_more known r (step.Finish n, answer.Ended res bytes) k o marks more meets later fits =
    fits_by (n == k) known bytes (record { res = res; bytes = Some bytes }) o (end_in marks k) (end_in more k) refl meets later fits
fits_more known r (step.Issue n, answer.Run) k o marks more meets later fits =
    subst (λ (x : Option End). FitsEnd x o) (sym (start_ends n k (operation_running r n) more)) (later (subst (λ (x : Option End). FitsEnd x o) (start_ends n k (operation_running r n) marks) fits))
fits_more known r (_, a) k o marks more meets later fits = later fits

fits_loose : (g : Setup) (known : List (List ℕ)) (h : History) (later : List Event) (k : ℕ) (o : Outcome) → AllMeet g known h later
    → FitsEnd (end_in (marks_after g h later) k) o → FitsEnd (end_in (known_marks g known h later) k) o
fits_loose g known h [] k o meet fits = fits
fits_loose g known h (e ∷ later) k o meet fits =
    fits_more (known_by g known h e) (world g (e ∷ h)).requests e k o (marks_after g (e ∷ h) later) (known_marks g known (e ∷ h) later) meet.0 (fits_loose g known (e ∷ h) later k o meet.1) fits

awaits_loose : (g : Setup) (known : List (List ℕ)) (h : History) (later : List Event) (running : List Running)
    → awaits running (marks_after g h later) ≡ awaits running (known_marks g known h later)
awaits_loose g known h [] running = refl
awaits_loose g known h (e ∷ later) running =
    awaits_so running (known_by g known h e) (world g (e ∷ h)).requests e (marks_after g (e ∷ h) later) (known_marks g known (e ∷ h) later)

take_loose : (g : Setup) (known : List (List ℕ)) (h : History) (later : List Event) (st : MarkStanding) (n : ℕ) (o : Outcome) → AllMeet g known h later
    → MayTake st (marks_after g h later) n o → MayTake st (known_marks g known h later) n o
take_loose g known h later st n o meet may = record {
  op = may.op;
  runs = may.runs;
  asks = may.asks;
  gives = may.gives;
  ends = fits_loose g known h later n o meet may.ends;
  waits = sym (awaits_loose g known h later st.running) ∙ may.waits;
}

loosen : (g : Setup) (known : List (List ℕ)) (moves : List Move) (later : List Event) (h : History) (st : MarkStanding) → AllMeet g known h later
    → IsWalk st (marks_after g h later) moves → IsWalk st (known_marks g known h later) moves
loosen g known [] [] h st meet walk = walk
loosen g known [] (e ∷ later) h st meet walk =
    absurd (let f : marks_after g h (e ∷ later) ≡ [] = walk in cc)
loosen g known (Pass ∷ moves) [] h st meet walk = absurd walk
loosen g known (Pass ∷ moves) (e ∷ later) h st meet walk =
    let r : Requests = (world g (e ∷ h)).requests in
    let k : Option (List ℕ) = known_by g known h e in
    (pass_loose st.running k r e meet.0 walk.0, subst (λ (st2 : MarkStanding). IsWalk st2 (known_marks g known (e ∷ h) later) moves) (sym (passed_so st k r e)) (loosen g known moves later (e ∷ h) (passed st (mark_by r e)) meet.1 walk.1))
loosen g known (Take n o ∷ moves) [] h st meet walk =
    absurd (let f : false ≡ true = walk.0.waits in cc)
loosen g known (Take n o ∷ moves) (e ∷ later) h st meet walk =
    (take_loose g known h (e ∷ later) st n o meet walk.0, loosen g known moves (e ∷ later) h (took st n o) meet walk.1)

-- ---- the same events but for bytes

blank_bare : (e : Event) → blank (bare e) ≡ blank e
blank_bare (step.Finish n, answer.Ended res bytes) = refl
blank_bare (_, a) = refl

pub blanks_bare : (es : List Event) → map blank (map bare es) ≡ map blank es
blanks_bare [] = refl
blanks_bare (e ∷ es) = ap₂ (λ (x : Event) (xs : List Event). x ∷ xs) (blank_bare e) (blanks_bare es)

reaped_bare : (e : Event) → bytes_reaped (bare e) ≡ bytes_reaped e
reaped_bare (step.Finish n, answer.Ended res bytes) = refl
reaped_bare (_, a) = refl

told_bare : (es : List Event) → bytes_told (map bare es) ≡ bytes_told es
told_bare [] = refl
told_bare (e ∷ es) = ap₂ (λ (x y : List (List ℕ)). x ++ y) (reaped_bare e) (told_bare es)

map_turned : (f : Event → Event) (es : List Event) → map f (history_of es) ≡ history_of (map f es)
map_turned f [] = refl
map_turned f (e ∷ es) =
    ap (map f) (reverse-append (e ∷ []) es) ∙ map-append f (history_of es) (e ∷ [])
    ∙ ap (λ (xs : List Event). xs ++ f e ∷ []) (map_turned f es) ∙ sym (reverse-append (f e ∷ []) (map f es))

-- events of a history that has these but for bytes, the oldest first
record IsTold (events own : List Event) (h : History) : Type 0 where
  turned : h ≡ history_of own
  same_blank : map blank own ≡ map blank events
  same_told : bytes_told own ≡ bytes_told events

own_told : (events : List Event) (h : History) → AreSameButBytes h (history_of events) → IsTold events (reverse h) h
own_told events h same = record {
  turned = sym (reverse-reverse h);
  same_blank = sym (blanks_bare (reverse h)) ∙ ap (map blank) bares ∙ blanks_bare events;
  same_told = sym (told_bare (reverse h)) ∙ ap bytes_told bares ∙ told_bare events;
} where
  bares : map bare (reverse h) ≡ map bare events
  bares =
      map_turned bare h ∙ ap reverse (same ∙ map_turned bare events) ∙ reverse-reverse (map bare events)

-- what isn't followed without its bytes has no lawful history
pub told_lawful : (g : Setup) (events : List Event) (h : History) → AreSameButBytes h (history_of events) → IsLawfulApart g h
    → IsLawfulApart g (history_of (map blank events)) × IssuesMeet g (bytes_told events) [] (map blank events)
told_lawful g events h same lawful =
    let own : IsTold events (reverse h) h = own_told events h same in
    let apart : IsLawfulApart g (onto [] (reverse h)) = subst (IsLawfulApart g) (own.turned ∙ sym (history_onto (reverse h))) lawful in
    (subst (IsLawfulApart g) (ap (map blank) own.turned ∙ map_turned blank (reverse h) ∙ ap history_of own.same_blank) (lawful_blank g h lawful), subst (λ (xs : List (List ℕ)). IssuesMeet g xs [] (map blank events)) own.same_told (subst (IssuesMeet g (bytes_told (reverse h)) []) own.same_blank (issues_meet g (bytes_told (reverse h)) [] (reverse h) (told_meet g (reverse h) apart))))

-- a search finds moves if there is a lawful one
pub told_goes : (g : Setup) (events : List Event) (h : History) → AreSameButBytes h (history_of events) → IsLawfulEarly g h
    → Goes (at_first g.files) (known_marks g (bytes_told events) [] (map blank events))
told_goes g events h same early =
    let own : IsTold events (reverse h) h = own_told events h same in
    let turned : IsLawfulEarly g (history_of (reverse h)) = subst (IsLawfulEarly g) own.turned early in
    let apart : IsLawfulApart g (onto [] (reverse h)) = subst (IsLawfulApart g) (sym (history_onto (reverse h))) turned.lawful in
    let goes : Goes (at_first g.files) (marks_after g [] (reverse h)) = goes_by g (reverse h) turned in
    let loose : IsWalk (at_first g.files) (known_marks g (bytes_told (reverse h)) [] (reverse h)) goes.moves = loosen g (bytes_told (reverse h)) goes.moves (reverse h) [] (at_first g.files) (told_meet g (reverse h) apart) goes.walk in
    subst (λ (xs : List (List ℕ)). Goes (at_first g.files) (known_marks g xs [] (map blank events))) own.same_told
    (subst (λ (es : List Event). Goes (at_first g.files) (known_marks g (bytes_told (reverse h)) [] es)) own.same_blank
    (record { moves = goes.moves; walk = subst (λ (ms : List Mark). IsWalk (at_first g.files) ms goes.moves) (sym (known_marks_same g (bytes_told (reverse h)) [] (reverse h))) loose }))
