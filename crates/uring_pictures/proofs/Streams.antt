-- What is read while nothing is answered.
use Rattle.std.proofs.Common.{◌≡◌, ℕ, List, [], ◌++◌, Option, Result, Ok, Err, arith}
use Rattle.uring_pictures.proofs.Common.{Appends, Consumes, EndsLine, Explainer, HasEnded, HasTold, OnOk, Setup, TakesIn}
use Rattle.uring_text.specs.declared.trace_fault.TraceFault.{TraceFault}
use Rattle.uring_text.specs.Writing.{WritesText}
use Rattle.uring_trace.specs.Explanations.{telling_on}
use Rattle.uring_trace.proofs.ExplainStreams.{nothing_yet}

abbrev pub Done : Type 0
Done = Result (Unit {0}) TraceFault

abbrev pub Known : Type 0
Known = Option (List ℕ)

-- bytes that were taken in, and their notes written
pub took_in : (result : Done) (s s' : Explainer) (more none none' new new' : List ℕ) (e e' : Known)
    → none ≡ [] → none' ≡ []
    → ((setup : Setup) (before told noted : List ℕ) → HasTold setup s before (told ++ none) (noted ++ none') → HasTold setup s' (before ++ more) (told ++ new) (noted ++ new'))
    → (written : List ℕ) × Appends e e' written × WritesText result new' written
    → OnOk result (TakesIn s s' more e e')
took_in (Ok done) s s' more none none' new new' e e' a b feed w = λ setup before told noted h.
    (new, new', rw w.2 at w.1, feed setup before told noted (nothing_yet (telling_on setup) s before told noted none none' a b h))
took_in (Err f) s s' more none none' new new' e e' a b feed w = tt

-- the end of the input, and its notes written
pub ended_in : (s s' : Explainer) (none none' new new' : List ℕ) (e e' : Known) → none ≡ [] → none' ≡ []
    → ((setup : Setup) (before told noted : List ℕ) → HasTold setup s before (told ++ none) (noted ++ none') → HasEnded setup s' before (told ++ new) (noted ++ new'))
    → (written : List ℕ) × Appends e e' written × WritesText (Ok tt) new' written → EndsLine s s' e e'
ended_in s s' none none' new new' e e' a b finish w = λ setup before told noted h.
    (new, new', rw w.2 at w.1, finish setup before told noted (nothing_yet (telling_on setup) s before told noted none none' a b h))

-- What was read so far: the reader had a left and has r, and what is noted was held after x and makes e.
abbrev pub Far : Setup → Known → Known → Known → Known → Explainer → Type 0
Far setup a r x e s = (bytes : List ℕ) × (text : List ℕ) × (notes : List ℕ) × Consumes a r bytes
    × Appends x e notes × HasTold setup s bytes text notes

-- And the same holds of the watcher.
abbrev pub FarWith : (List ℕ → Type 0) → Setup → Known → Known → Known → Known → Explainer → Type 0
FarWith P setup a r x e s = (so : Far setup a r x e s) × P so.0

-- what holds whatever was written
pub on_done : (result : Done) (P : Type 0) → P → OnOk result P
on_done result P p = grind arith
