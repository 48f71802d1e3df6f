use Rattle.std.proofs.Common.{◌≡◌, false, true, sym, subst}
use Rattle.uring_outcomes.proofs.Common.{IsOver, both_ways, entries_of}
use Rattle.uring_outcomes.proofs.Covering.{next_are, none_listed, none_next, none_noted, visited}
use Rattle.uring_outcomes.proofs.stage.CallMovesMoves.visit.Goals as goal

pub is_over-requires : goal.is_over-requires
is_over-requires g c = let at = c.requires.stands.1 in record { moment = at.led.last; at = at.led.at }

pub note-requires-clause-stands : goal.note-requires-clause-stands
note-requires-clause-stands g c =
    let at = c.requires.stands.1 in (entries_of c.args.self.now.calls.now, record { moment = at.led.last; at = at.led.at })

pub note-requires-clause-indexed : goal.note-requires-clause-indexed
note-requires-clause-indexed g c = c.requires.noted.1.indexed

pub next_moves-requires : goal.next_moves-requires
next_moves-requires g c = let at = c.requires.stands.1 in record { moment = at.led.last; at = at.led.at }

pub returns-then-is_over-clause-noted : goal.returns-then-is_over-clause-noted
returns-then-is_over-clause-noted g c = λ path seen stands noted.
    let w = c.args.self.now in
    let over = (c.is_over.ensures stands.led.last stands.led.at).0 c.if-is_over.true in
    visited w.setup.now (entries_of w.calls.now) path seen stands.led.last c.args.found.now c.note.new.found stands.led.leads (c.in_ok-note.ensures.noted (entries_of w.calls.now) stands.led.last stands.led.at over) c.in_ok-note.ensures.indexed noted

pub returns-then-is_over-clause-next : goal.returns-then-is_over-clause-next
returns-then-is_over-clause-next g c = λ path stands.
    let w = c.args.self.now in
    let over = (c.is_over.ensures stands.led.last stands.led.at).0 c.if-is_over.true in
    none_next w.setup.now (entries_of w.calls.now) w.names.now path c.args.next.now.items stands.led.last stands.led.leads over c.requires.none

pub returns-then-is_over-clause-stays : goal.returns-then-is_over-clause-stays
returns-then-is_over-clause-stays g c = λ path x stands there.
    absurd (none_listed c.args.next.now.items x c.requires.none there)

pub returns-then-is_over-clause-sought : goal.returns-then-is_over-clause-sought
returns-then-is_over-clause-sought g c = λ path stands. (λ no. let f : false ≡ true = no in cc, λ none. absurd none)

pub returns-clause-noted : goal.returns-clause-noted
returns-clause-noted g c = λ path seen stands noted.
    let w = c.args.self.now in
    let more : IsOver stands.led.last → ⊥ = λ over. both_ways c.is_over.result c.if-is_over.false ((c.is_over.ensures stands.led.last stands.led.at).1 over) in
    visited w.setup.now (entries_of w.calls.now) path seen stands.led.last c.args.found.now c.args.found.now stands.led.leads (none_noted stands.led.last c.args.found.now.list.items more) noted.indexed noted

pub returns-clause-next : goal.returns-clause-next
returns-clause-next g c = λ path stands.
    let w = c.args.self.now in
    next_are w.setup.now (entries_of w.calls.now) w.names.now path c.in_ok-next.field-0.items stands.led.last stands.led.leads (c.in_ok-next.ensures.next stands.led.last stands.led.at)

pub returns-clause-stays : goal.returns-clause-stays
returns-clause-stays g c = λ path x stands there. stands

pub returns-clause-sought : goal.returns-clause-sought
returns-clause-sought g c = λ path stands. (λ no. let f : false ≡ true = no in cc, λ none. absurd none)
