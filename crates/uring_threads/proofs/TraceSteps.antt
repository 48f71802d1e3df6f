-- What a step makes of the trace's world, and how what is appended adds up.
use Rattle.std.proofs.Common.{◌≡◌, ◌+◌, List, [], ◌∷◌, ◌++◌, length, count_by, cond, refl, ap, ap₂, ◌∙◌, arith, append_assoc, append-nil}
use Rattle.uring_threads.proofs.Common.{Answer, Appends, Event, Grows, IsUnmoved, Kept, Setup, Step, happens, history, history_of, history_of_snoc, is_refused, length-map, length_push, map-append, nil_from_length, now, reverse-append, step_of, sum_by-append, world}

-- the world after one event more
pub grown : (a b : Kept) (s : Step) (x : Answer) → Grows a b (s, x)
    → now b ≡ happens a.setup (now a) s x
grown a b s x g = ap₂ (λ (k : Setup) es. world k (history_of es)) g.setup g.trace ∙ ap (world a.setup) (history_of_snoc a.trace (s, x))

pub grown_history : (a b : Kept) (e : Event) → Grows a b e → history b ≡ e ∷ history a
grown_history a b e grows = ap history_of grows.trace ∙ history_of_snoc a.trace e

-- the trace is one event longer
pub grown_length : (a b : Kept) (e : Event) → Grows a b e → length b.trace ≡ length a.trace + 1
grown_length a b e g = ap length g.trace ∙ length_push a.trace e

-- the history where events were appended
pub longer_history : (a b : Kept) (events : List Event) → b.trace ≡ a.trace ++ events
    → history b ≡ history_of events ++ history a
longer_history a b events same = ap history_of same ∙ reverse-append a.trace events

-- where nothing happened the world stays
pub unmoved_now : (a b : Kept) → IsUnmoved a b → now b ≡ now a
unmoved_now a b u = grind arith

-- nothing happened
pub still : (a : Kept) → IsUnmoved a a
still a = record { trace = refl; room = omega arith; setup = refl }

-- What is appended.

-- one event
pub appends_one : (a b : Kept) (s : Step) (x : Answer) → Grows a b (s, x)
    → count_by is_refused ((s, x) ∷ []) ≡ 0 → Appends a b (s ∷ [])
appends_one a b s x g served = grind arith

-- no event
pub appends_none : (a b : Kept) → IsUnmoved a b → Appends a b []
appends_none a b u = grind (arith, append-nil)

-- one row after the other
pub appends_then : {a b c : Kept} {xs ys : List Step} → Appends a b xs → Appends b c ys
    → Appends a c (xs ++ ys)
appends_then {a} p q = record {
  events = p.events ++ q.events;
  trace = rw (q.trace, p.trace) (append_assoc a.trace p.events q.events);
  row = rw (map-append, p.row, q.row);
  served = omega (arith, p.served, q.served, sum_by-append (λ e. cond (is_refused e) 1 0) p.events q.events);
  room = omega (arith, p.room, q.room);
  setup = q.setup ∙ p.setup;
}

-- without any the trace stays
pub appends_idle : {a b : Kept} → Appends a b [] → b.trace ≡ a.trace
appends_idle p = rw (p.trace, nil_from_length p.events (omega (arith, length-map p.events step_of, ap length p.row)), append-nil)
