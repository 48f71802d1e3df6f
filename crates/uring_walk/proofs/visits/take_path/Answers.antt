use Rattle.uring_walk.proofs.Visiting.{not_both}
use Rattle.uring_walk.proofs.visits.take_path.Goals as goal

pub go_on-requires : goal.go_on-requires
go_on-requires g c =
    let at = c.requires.at.1 in
    record {
      path = at.path;
      at = λ x there. c.in_ok-found.ensures.stays at.path x at.at there;
      each = (c.in_ok-found.ensures.next at.path at.at).right;
    }

pub returns-clause-takes : goal.returns-clause-takes
returns-clause-takes g c = λ paths seen at noted.
    let next = c.in_ok-found.ensures.next at.path at.at in
    let sought = c.in_ok-found.ensures.sought at.path at.at in (
      record {
        moves = c.visit.new.next.items;
        next = next;
        waits = c.in_ok-here.ensures.goes at.path at.before (λ x there. (c.in_ok-found.ensures.stays at.path x at.at there, next.right x there)) at.kept;
        is_sought = sought.0;
        unsought = λ off so. not_both c.in_ok-found.found (sought.1 so) off;
      },
      c.in_ok-found.ensures.noted at.path seen at.at noted,
    )
