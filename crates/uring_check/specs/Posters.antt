-- Whose completions were posted. io_uring(7), DESCRIPTION: each request's end posts one, unless it is to be skipped; the order is that of the ends.
use Rattle.std.specs.Prelude.{ℕ, Bool, List, [], ◌∷◌, ◌++◌, length, Option, Some, None, slice_get, if◌then◌else◌}
use Rattle.uring_entry.specs.Requests.{Requests, Ending}
use Rattle.uring_entry.specs.Setup.{Setup}
use Rattle.uring_rules.specs.Rules.{posts}
use Rattle.uring_core.specs.Events.{end_told_by}
use Rattle.uring_core.specs.Histories.{History, world}

-- the request of an end that posts a completion, by these rules
abbrev pub poster_of : (is_linux : Bool) → Requests → Option Ending → List ℕ
poster_of is_linux r None = []
poster_of is_linux r (Some e) = if posts is_linux r e.number e.res then e.number ∷ [] else []

-- the requests whose ends posted completions, in order: so the completion at a place is that of the request there
abbrev pub posters : Setup → History → List ℕ
posters g [] = []
posters g (event ∷ before) =
    posters g before ++ poster_of g.linux (world g before).requests (end_told_by event)

-- the request whose completion is the next to be reaped, if one is posted
abbrev pub next_poster : Setup → History → Option ℕ
next_poster g h = slice_get (posters g h) (length (world g h).completions.reaped)
