-- The outcomes of a trace.
use Rattle.std.proofs.Common.{◌≡◌, ℕ, List, [], ◌++◌, Option, Result, Ok, Err, refl, append_assoc, inr, arith}
use Rattle.uring_trace.proofs.Common.{Appends, Consumes, Has, IsAtEnd, Keeps, Manner, TookIn, TraceFault, append-nil}
use Rattle.std.proofs.KnownBytes.{Consumes-nil, Appends-nil, Appends-trans, Consumes-trans, Consumes-kept}
use Rattle.uring_text.specs.declared.trace_fault.TraceFault.TheVariants as fault
use Rattle.uring_trace.specs.declared.session.Session.{Session}
use Rattle.uring_text.specs.Writing.{WritesText}
use Rattle.uring_trace.specs.Traces.{Traces, Writes, ReadsAll, IsWhole, IsBeginning}
use Rattle.uring_trace.proofs.Sessions.{held_beginning, held_ended}

abbrev Answer : Type 0
Answer = Result (Unit {0}) TraceFault

abbrev Known : Type 0
Known = Option (List ℕ)

-- Something is so of what was read and written so far: the reader had a left and has r, the writer held d and holds w.
abbrev pub SoBy : Known → Known → Known → Known → (List ℕ → List ℕ → Type 0) → Type 0
SoBy a r d w P = (bytes : List ℕ) × (text : List ℕ) × Consumes a r bytes × Appends d w text
    × P bytes text

abbrev pub So : Manner → Known → Known → Known → Known → Session → Type 0
So manner a r d w s = SoBy a r d w (Has manner s)

-- What a call wrote for the bytes that it was given, on a session that had taken in others.
abbrev pub Wrote : Known → Known → List ℕ → (List ℕ → Type 0) → Type 0
Wrote w w' told P = (written : List ℕ) × Appends w w' written × P (told ++ written)

-- What a write of a text wrote.
abbrev pub WroteText : Known → Known → Answer → List ℕ → Type 0
WroteText w w' answer new =
    (written : List ℕ) × Appends w w' written × WritesText answer new written

-- ---- the answers to some bytes

-- memory was refused
pub none_answered : (manner : Manner) (answer : Answer) (w : Known) (s s' : Session) (before told more : List ℕ)
    → answer ≡ Err fault.Memory → Has manner s before told
    → Wrote w w told (TookIn manner answer s' (before ++ more))
none_answered manner answer w s s' before told more e h =
    ([], Appends-nil w, rw (e, append-nil told) (held_beginning manner s.machine s.is_echo s.line before told more h))

took_in : (manner : Manner) (answer : Answer) (s : Session) (bytes told new written : List ℕ)
    → Has manner s bytes (told ++ new) → WritesText answer new written
    → TookIn manner answer s bytes (told ++ written)
took_in manner answer s bytes told new written h e = grind (arith, append_assoc, append-nil, held_beginning)

-- the answers were written, or a part of them
pub answers_written : (manner : Manner) (answer : Answer) (w w' : Known) (s s' : Session) (before told more none new : List ℕ)
    → none ≡ []
    → ((before told : List ℕ) → Has manner s before (told ++ none) → Has manner s' (before ++ more) (told ++ new))
    → WroteText w w' answer new → Has manner s before told
    → Wrote w w' told (TookIn manner answer s' (before ++ more))
answers_written manner answer w w' s s' before told more none new nothing feed wrote h =
    (wrote.0, wrote.1, took_in manner answer s' (before ++ more) told new wrote.0 (feed before told (rw (nothing, append-nil told) h)) wrote.2)

-- ---- the answer to the last line

-- memory was refused
pub last_not_answered : (manner : Manner) (answer : Answer) (w : Known) (s : Session) (before told : List ℕ)
    → answer ≡ Err fault.Memory → Has manner s before told
    → Wrote w w told (Writes manner answer before)
last_not_answered manner answer w s before told e h =
    let held = rw (append-nil before) at (held_beginning manner s.machine s.is_echo s.line before told [] h) in
    ([], Appends-nil w, rw (e, append-nil told) held)

written_whole : (manner : Manner) (answer : Answer) (bytes told new written : List ℕ)
    → IsWhole manner bytes (told ++ new) → WritesText answer new written
    → Writes manner answer bytes (told ++ written)
written_whole manner (Ok done) bytes told new written h e = rw e h
written_whole manner (Err e) bytes told new written h w =
    rw w.0 (w.1, w.2, inr (rw (w.3, ← append_assoc told written w.1) at h))

-- the answer was written, or a part of it
pub last_written : (manner : Manner) (answer : Answer) (w w' : Known) (s : Session) (before told none new : List ℕ)
    → none ≡ []
    → ((before told : List ℕ) → Has manner s before (told ++ none) → IsWhole manner before (told ++ new))
    → WroteText w w' answer new → Has manner s before told
    → Wrote w w' told (Writes manner answer before)
last_written manner answer w w' s before told none new nothing finish wrote h = (wrote.0, wrote.1, written_whole manner answer before told new wrote.0 (finish before told (rw (nothing, append-nil told) h)) wrote.2)

-- ---- a whole trace

-- bytes that were read, with what was written for them
pub so_by : (a r r' d w w' : Known) (P Q : List ℕ → List ℕ → Type 0) (more : List ℕ) → Consumes r r' more
    → ((before told : List ℕ) → P before told → Wrote w w' told (Q (before ++ more)))
    → SoBy a r d w P → SoBy a r' d w' Q
so_by a r r' d w w' P Q more read answer so =
    let wrote = answer so.0 so.1 so.4 in
    (so.0 ++ more, so.1 ++ wrote.0, Consumes-trans a r r' so.0 more so.2 read, Appends-trans d w w' so.1 wrote.0 so.3 wrote.1, wrote.2)

traced : (manner : Manner) (answer : Answer) (a r d w : Known) → ReadsAll answer r
    → SoBy a r d w (Writes manner answer) → Traces manner answer a r d w
traced manner answer a r d w whole so = grind arith

-- memory was refused at the start
pub none_read : (manner : Manner) (answer : Answer) (a d : Known) → answer ≡ Err fault.Memory
    → Traces manner answer a a d d
none_read manner answer a d e =
    let none : IsBeginning manner [] [] = ([], [], [], record { each = tt; lawful = tt; unrefused = λ sure. tt; all = refl }, record { whole = refl; each = tt; unbroken = tt }, refl) in
    rw e (traced manner (Err fault.Memory) a a d d tt ([], [], Consumes-nil a, Appends-nil d, none))

-- a read that was interrupted
pub tried_again : (manner : Manner) (a r r' d w : Known) (s : Session) → Keeps r r'
    → So manner a r d w s → So manner a r' d w s
tried_again manner a r r' d w s h so = (so.0, so.1, Consumes-kept a r r' so.0 so.2 h, so.3, so.4)

-- bytes that were read, with answers that a fault cut short
pub not_answered : (manner : Manner) (answer : Answer) (e : TraceFault) (a r r' d w w' : Known) (s : Session) (more : List ℕ)
    → answer ≡ Err e → Consumes r r' more
    → ((before told : List ℕ) → Has manner s before told → Wrote w w' told (Writes manner (Err e) (before ++ more)))
    → So manner a r d w s → Traces manner answer a r' d w'
not_answered manner answer e a r r' d w w' s more is read answered so =
    let all = so_by a r r' d w w' (Has manner s) (Writes manner (Err e)) more read answered so in
    rw is (traced manner (Err e) a r' d w' tt all)

-- the end of the input, with the last answer
pub all_read : (manner : Manner) (answer : Answer) (a r r' d w w' : Known) (s : Session)
    → Consumes r r' [] → IsAtEnd r'
    → ((before told : List ℕ) → Has manner s before told → Wrote w w' told (Writes manner answer before))
    → So manner a r d w s → Traces manner answer a r' d w'
all_read manner answer a r r' d w w' s read end answered so =
    let all = so_by a r r' d w w' (Has manner s) (Writes manner answer) [] read (λ before told h. rw (append-nil before) (answered before told h)) so in
    traced manner answer a r' d w' (grind arith) all

-- no further read
pub read_failed : (manner : Manner) (answer : Answer) (a r d w : Known) (s : Session)
    → answer ≡ Err fault.Read → So manner a r d w s → Traces manner answer a r d w
read_failed manner answer a r d w s is so =
    let held = held_ended manner s.machine s.is_echo s.line so.0 so.1 so.4 in
    rw is (traced manner (Err fault.Read) a r d w tt (so.0, so.1, so.2, so.3, held))
