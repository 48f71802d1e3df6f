-- What is drawn of all that was read.
use Rattle.std.proofs.Common.{◌≡◌, ℕ, Bool, List, [], ◌++◌, Option, Ok, subst, arith, rules}
use Rattle.uring_pictures.proofs.Common.{Accepted, Appends, Explainer, HasFollowed, History, Keeps, ReadsAll, Setup, graph_of, history_of, is_linux_at, linux_at, world}
use Rattle.uring_core.specs.CalledFor.{IsLawful}
use Rattle.uring_core.specs.World.{requests_of}
use Rattle.uring_text.specs.Writing.{WritesText}
use Rattle.uring_trace.specs.Exchanges.{events_of}
use Rattle.uring_trace.specs.Explanations.{ExplainsWhole}
use Rattle.uring_pictures.specs.Drawings.{Reads, Draws}
use Rattle.uring_pictures.specs.declared.moment.Moment.{Moment}
use Rattle.uring_pictures.proofs.Streams.{Known}

-- what was read is drawn
pub draws : (at : Option ℕ) (setup : Setup) (bad : Bool) (m : Moment) (drawn : Accepted) (a a' w w' x x' : Known)
    → (r : Reads setup bad a a' x x') × HasFollowed at setup m r.bytes → drawn ≡ m.accepted
    → ((h : History) → Keeps drawn h → Appends w w' (graph_of (is_linux_at drawn) (linux_at drawn h)))
    → Draws at setup bad a a' w w' x x'
draws at setup bad m drawn a a' w w' x x' (r, f) same writes =
    let h : History = history_of (events_of f.exchanges) in
    let lawful : IsLawful setup h = rw f.same at f.keeps.fits.lawful in
    let set_up : drawn.machine.core.setup ≡ setup = rw same f.same in
    let written = subst (λ (g : Setup). Appends w w' (graph_of g.linux (requests_of (world g h)))) set_up (writes h (rw same f.keeps)) in
    search (rules, r, f, lawful, written)

-- a text that was written
pub written_graph : (drawn : Accepted) (text none : List ℕ) (w w' : Known) → none ≡ []
    → ((h : History) → Keeps drawn h → text ≡ none ++ graph_of (is_linux_at drawn) (linux_at drawn h))
    → (written : List ℕ) × Appends w w' written × WritesText (Ok tt) text written
    → (h : History) → Keeps drawn h → Appends w w' (graph_of (is_linux_at drawn) (linux_at drawn h))
written_graph drawn text none w w' start tells x = λ h keeps.
    rw (x.2, tells h keeps, start) at x.1

-- what was read, without a picture
pub reads : (P : List ℕ → Type 0) (setup : Setup) (bad : Bool) (s : Explainer) (a a' x x' : Known)
    → (r : ReadsAll setup bad s a a' x x') × P r.bytes → (r : Reads setup bad a a' x x') × P r.bytes
reads P setup bad s a a' x x' (r, p) =
    let lines : ExplainsWhole setup bad r.bytes r.told r.notes = rw r.is_bad r.ended.0 in
    (grind (arith, lines, r.consumed, r.at_end, r.noted), p)
