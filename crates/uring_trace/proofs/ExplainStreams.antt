-- What explain reads and writes.
use Rattle.std.proofs.Common.{◌≡◌, ℕ, Bool, List, [], ◌++◌, Option, Result, Ok, Err, refl, sym, ◌∙◌, append_assoc, arith, inr}
use Rattle.uring_trace.proofs.Common.{Appends, Consumes, ExplainsBeginning, ExplainsWholeBy, HasToldBy, IsAtEnd, IsExplained, Keeps, ReadsWhole, Telling, TookBoth, TraceFault, WritesBoth, WritesPair, WritesTexts, WroteBoth, append-nil}
use Rattle.std.proofs.KnownBytes.{Consumes-nil, Appends-nil, Appends-trans, Consumes-trans}
use Rattle.uring_text.specs.declared.trace_fault.TraceFault.TheVariants as fault
use Rattle.uring_trace.specs.declared.explainer.Explainer.{Explainer}
use Rattle.uring_text.specs.Writing.{WritesText}
use Rattle.uring_trace.proofs.ExplainLines.{explain_beginning}

abbrev Done : Type 0
Done = Result (Unit {0}) TraceFault

abbrev Answer : Type 0
Answer = Result Bool TraceFault

abbrev Known : Type 0
Known = Option (List ℕ)

-- ---- two texts

-- the first was written in part
pub pair_cut : (w w' e : Known) (result : Done) (f : TraceFault) (text notes : List ℕ)
    → result ≡ Err f → (written : List ℕ) × Appends w w' written × WritesText (Err f) text written
    → WritesPair w w' e e result text notes
pair_cut w w' e result f text notes is x = grind (arith, Appends-nil)

-- the first was written whole
pub pair_whole : (w w' e e' : Known) (result : Done) (text notes : List ℕ)
    → (written : List ℕ) × Appends w w' written × (written ≡ text)
    → (noted : List ℕ) × Appends e e' noted × WritesText result notes noted
    → WritesPair w w' e e' result text notes
pair_whole w w' e e' (Ok done) text notes x y = (x.0, y.0, x.1, y.1, (x.2, y.2))
pair_whole w w' e e' (Err f) text notes x y =
    let t = y.2 in let some = t.2 in (x.0, y.0, x.1, y.1, (t.0, [], t.1, omega arith, sym x.2 ∙ sym (append-nil x.0), t.3))

-- ---- what is told and noted of some bytes

pub nothing_yet : (telling : Telling) (s : Explainer) (bytes told noted none none' : List ℕ) → none ≡ []
    → none' ≡ [] → HasToldBy telling s bytes told noted
    → HasToldBy telling s bytes (told ++ none) (noted ++ none')
nothing_yet telling s bytes told noted none none' a b h = grind (arith, append-nil)

-- the same bytes, with nothing after them
beginning_here : (telling : Telling) (s : Explainer) (bytes told noted : List ℕ)
    → HasToldBy telling s bytes told noted → ExplainsBeginning telling bytes told noted
beginning_here telling s bytes told noted h = grind (arith, append-nil)

-- memory was refused
pub none_told : (telling : Telling) (result : Done) (w e : Known) (s s' : Explainer) (before told noted more : List ℕ)
    → result ≡ Err fault.Memory → HasToldBy telling s before told noted
    → WroteBoth w w e e told noted (TookBoth telling result s' (before ++ more))
none_told telling result w e s s' before told noted more is h =
    let so = explain_beginning telling s.machine s.line s.number s.has_bad before told noted more h in
    ([], [], Appends-nil w, Appends-nil e, rw (is, append-nil told, append-nil noted) so)

took : (telling : Telling) (result : Done) (s : Explainer) (bytes told noted new new' written written' : List ℕ)
    → HasToldBy telling s bytes (told ++ new) (noted ++ new')
    → WritesTexts result new new' written written'
    → TookBoth telling result s bytes (told ++ written) (noted ++ written')
took telling (Ok done) s bytes told noted new new' written written' h w = grind arith
took telling (Err f) s bytes told noted new new' written written' h w =
    grind (arith, append_assoc, (beginning_here telling s bytes (told ++ new) (noted ++ new') h))

pub bytes_told : (telling : Telling) (result : Done) (w w' e e' : Known) (s s' : Explainer) (before told noted more none none' new new' : List ℕ)
    → none ≡ [] → none' ≡ []
    → ((before told noted : List ℕ) → HasToldBy telling s before (told ++ none) (noted ++ none') → HasToldBy telling s' (before ++ more) (told ++ new) (noted ++ new'))
    → WritesPair w w' e e' result new new' → HasToldBy telling s before told noted
    → WroteBoth w w' e e' told noted (TookBoth telling result s' (before ++ more))
bytes_told telling result w w' e e' s s' before told noted more none none' new new' a b feed p h =
    (p.0, p.1, p.2, p.3, took telling result s' (before ++ more) told noted new new' p.0 p.1 (feed before told noted (rw (a, b, append-nil told, append-nil noted) h)) p.4)

-- ---- the last line

pub last_none : (telling : Telling) (answer : Answer) (w e : Known) (s : Explainer) (before told noted : List ℕ)
    → answer ≡ Err fault.Memory → HasToldBy telling s before told noted
    → WroteBoth w w e e told noted (WritesBoth telling answer before)
last_none telling answer w e s before told noted is h =
    let so = beginning_here telling s before told noted h in
    ([], [], Appends-nil w, Appends-nil e, rw (is, append-nil told, append-nil noted) so)

pub last_cut : (telling : Telling) (answer : Answer) (f : TraceFault) (w w' e e' : Known) (s : Explainer) (bad : Bool) (before told noted none none' new new' : List ℕ)
    → answer ≡ Err f → none ≡ [] → none' ≡ []
    → ((before told noted : List ℕ) → HasToldBy telling s before (told ++ none) (noted ++ none') → ExplainsWholeBy telling bad before (told ++ new) (noted ++ new'))
    → WritesPair w w' e e' (Err f) new new' → HasToldBy telling s before told noted
    → WroteBoth w w' e e' told noted (WritesBoth telling answer before)
last_cut telling answer f w w' e e' s bad before told noted none none' new new' is a b finish p h =
    let t = p.4 in
    let whole = finish before told noted (rw (a, b, append-nil told, append-nil noted) h) in
    let both = rw (t.4, t.5, ← append_assoc told p.0 t.1, ← append_assoc noted p.1 t.2) at whole in
    (p.0, p.1, p.2, p.3, rw (is, t.0) (t.1, t.2, t.3, inr (bad, both)))

pub last_told : (telling : Telling) (w w' e e' : Known) (s : Explainer) (bad found : Bool) (before told noted none none' new new' : List ℕ)
    → found ≡ bad → none ≡ [] → none' ≡ []
    → ((before told noted : List ℕ) → HasToldBy telling s before (told ++ none) (noted ++ none') → ExplainsWholeBy telling bad before (told ++ new) (noted ++ new'))
    → (written : List ℕ) × (written' : List ℕ) × Appends w w' written × Appends e e' written'
    × ((written ≡ new) × (written' ≡ new'))
    → HasToldBy telling s before told noted
    → WroteBoth w w' e e' told noted (WritesBoth telling (Ok found) before)
last_told telling w w' e e' s bad found before told noted none none' new new' is a b finish p h =
    let whole = finish before told noted (rw (a, b, append-nil told, append-nil noted) h) in
    (p.0, p.1, p.2, p.3, rw (is, p.4.0, p.4.1) whole)

-- ---- the whole run

-- Something is so of what was read and written so far: the reader had a left and has r, the writers held d and x and hold w and e.
abbrev pub FarBy : Known → Known → Known → Known → Known → Known → (List ℕ → List ℕ → List ℕ → Type 0) → Type 0
FarBy a r d w x e P = (bytes : List ℕ) × (text : List ℕ) × (notes : List ℕ) × Consumes a r bytes
    × Appends d w text × Appends x e notes × P bytes text notes

abbrev pub Far : Telling → Known → Known → Known → Known → Known → Known → Explainer → Type 0
Far telling a r d w x e s = FarBy a r d w x e (HasToldBy telling s)

-- bytes that were read, with what was written for them
pub far_by : (a r r' d w w' x e e' : Known) (P Q : List ℕ → List ℕ → List ℕ → Type 0) (more : List ℕ) → Consumes r r' more
    → ((before told noted : List ℕ) → P before told noted → WroteBoth w w' e e' told noted (Q (before ++ more)))
    → FarBy a r d w x e P → FarBy a r' d w' x e' Q
far_by a r r' d w w' x e e' P Q more read tells so =
    let wrote = tells so.0 so.1 so.2 so.6 in
    (so.0 ++ more, so.1 ++ wrote.0, so.2 ++ wrote.1, Consumes-trans a r r' so.0 more so.3 read, Appends-trans d w w' so.1 wrote.0 so.4 wrote.2, Appends-trans x e e' so.2 wrote.1 so.5 wrote.3, wrote.4)

explained : (telling : Telling) (answer : Answer) (a r d w x e : Known) → ReadsWhole answer r
    → FarBy a r d w x e (WritesBoth telling answer) → IsExplained telling answer a r d w x e
explained telling answer a r d w x e whole so = grind arith

pub none_read : (telling : Telling) (answer : Answer) (a d x : Known) → answer ≡ Err fault.Memory
    → IsExplained telling answer a a d d x x
none_read telling answer a d x is =
    let none : ExplainsBeginning telling [] [] [] = ([], [], [], record { each = tt; lawful = tt; unrefused = λ yes. tt; told = refl; noted = refl }, record { whole = refl; each = tt; unbroken = tt }, refl) in
    rw is (explained telling (Err fault.Memory) a a d d x x tt ([], [], [], Consumes-nil a, Appends-nil d, Appends-nil x, none))

-- a read that was interrupted
pub far_again : (telling : Telling) (a r r' d w x e : Known) (s : Explainer) → Keeps r r'
    → Far telling a r d w x e s → Far telling a r' d w x e s
far_again telling a r r' d w x e s h so = grind arith

-- bytes that were read, and a fault
pub far_cut : (telling : Telling) (answer : Answer) (f : TraceFault) (a r r' d w w' x e e' : Known) (s : Explainer) (more : List ℕ)
    → answer ≡ Err f → Consumes r r' more
    → ((before told noted : List ℕ) → HasToldBy telling s before told noted → WroteBoth w w' e e' told noted (WritesBoth telling (Err f) (before ++ more)))
    → Far telling a r d w x e s → IsExplained telling answer a r' d w' x e'
far_cut telling answer f a r r' d w w' x e e' s more is read tells so =
    let far = far_by a r r' d w w' x e e' (HasToldBy telling s) (WritesBoth telling (Err f)) more read tells so in
    rw is (explained telling (Err f) a r' d w' x e' tt far)

-- the end of the input
pub far_end : (telling : Telling) (answer : Answer) (a r r' d w w' x e e' : Known) (s : Explainer)
    → Consumes r r' [] → IsAtEnd r'
    → ((before told noted : List ℕ) → HasToldBy telling s before told noted → WroteBoth w w' e e' told noted (WritesBoth telling answer before))
    → Far telling a r d w x e s → IsExplained telling answer a r' d w' x e'
far_end telling answer a r r' d w w' x e e' s read end tells so =
    explained telling answer a r' d w' x e' (grind arith)
    (far_by a r r' d w w' x e e' (HasToldBy telling s) (WritesBoth telling answer) [] read (λ before told noted h. rw (append-nil before) (tells before told noted h)) so)

-- no further read
pub far_failed : (telling : Telling) (answer : Answer) (a r d w x e : Known) (s : Explainer)
    → answer ≡ Err fault.Read → Far telling a r d w x e s → IsExplained telling answer a r d w x e
far_failed telling answer a r d w x e s is so = grind arith
