use Rattle.std.proofs.Common.{◌≡◌, ℕ, ◌%◌, ◌<◌, sym, ap, ◌∙◌}
use Rattle.uring_rings.proofs.Common.{Sq, Sqe, get_or_from_slice_get}
use Rattle.uring_rings.proofs.Elements.{read_cell}
use Rattle.uring_rings.proofs.SubmissionCalls.{takes_place, take_gives, take_drops, take_gives_shows, take_drops_shows}
use Rattle.uring_rings.specs.declared.answers.TakeAnswer.TheVariants.{Dropped, Entry, NoCall, NoMore}
use Rattle.uring_rings.proofs.sq.Sq.take.Goals as goal

dropped : (Dropped ≡ NoCall → ⊥) × (Dropped ≡ NoMore → ⊥)
dropped = (λ e. absurd cc, λ e. absurd cc)

given : (entry : Sqe) → (Entry entry ≡ NoCall → ⊥) × (Entry entry ≡ NoMore → ⊥)
given entry = (λ e. absurd cc, λ e. absurd cc)

pub returns-then-word-self : goal.returns-then-word-self
returns-then-word-self c =
    let size = ap (λ (q : Sq). q.size) c.self.view_is in
    let cell = c.cell-cell.ensures.value ∙ ap (λ (w : ℕ). w % c.args.self.now.size) c.after.ensures in
    let read = read_cell c.self.inside.array.items c.cell-cell.result _ c.args.self.now.size c.self.inside.size c.index-word.result.now c.index-word.ensures cell c.cell-cell.ensures.within (sym size) c.self.invariant.cells in
    record {
      answer = rw (← c.self.view_is) (λ g l s. take_drops g l c.in-Some.call c.index-word.result.now (takes_place g _ l c.in-Some.call c.index-word.result.now s c.in-Some.is c.if-call.false read) (rw (← s.size) c.if-word-self.true));
      shows = rw (← c.self.view_is) (λ g l s. take_drops_shows g _ l c.in-Some.call c.index-word.result.now s (takes_place g _ l c.in-Some.call c.index-word.result.now s c.in-Some.is c.if-call.false read) (rw (← s.size) c.if-word-self.true));
      no_call = λ e. absurd (dropped.0 e);
      no_more = λ e. absurd (dropped.1 e);
    }

pub returns : goal.returns
returns c =
    let size = ap (λ (q : Sq). q.size) c.self.view_is in
    let cell = c.cell-cell.ensures.value ∙ ap (λ (w : ℕ). w % c.args.self.now.size) c.after.ensures in
    let read = read_cell c.self.inside.array.items c.cell-cell.result _ c.args.self.now.size c.self.inside.size c.index-word.result.now c.index-word.ensures cell c.cell-cell.ensures.within (sym size) c.self.invariant.cells in
    record {
      answer = rw (← c.self.view_is) (λ g l s.
          let valid : c.index-word.result.now < g.sq = rw (← s.size) c.if-word-self.false in
          let entry = c.index.ensures ∙ get_or_from_slice_get c.self.inside.table.items c.index-word.result.now (l.content c.index-word.result.now) c.index.result.now (s.slots c.index-word.result.now valid) in
          take_gives g l c.in-Some.call c.index-word.result.now c.index.result.now (takes_place g _ l c.in-Some.call c.index-word.result.now s c.in-Some.is c.if-call.false read) valid entry);
      shows = rw (← c.self.view_is) (λ g l s. take_gives_shows g _ l c.in-Some.call c.index-word.result.now s (takes_place g _ l c.in-Some.call c.index-word.result.now s c.in-Some.is c.if-call.false read) (rw (← s.size) c.if-word-self.false));
      no_call = λ e. absurd ((given c.index.result.now).0 e);
      no_more = λ e. absurd ((given c.index.result.now).1 e);
    }
