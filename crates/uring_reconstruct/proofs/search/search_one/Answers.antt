use Rattle.std.proofs.Common.{List, [], ◌∷◌, ◌++◌, Vec, Global, sym, subst, ap, ◌∙◌}
use Rattle.uring_reconstruct.proofs.Common.{Event, IsSearch, map-append, paths_of}
use Rattle.uring_reconstruct.proofs.search.search_one.Goals as goal

pub follow-found-requires-clause-stands : goal.follow-found-requires-clause-stands
follow-found-requires-clause-stands g c =
    let rest = c.pop.new.self.items in
    subst (λ (ps : List (List Event)). IsSearch c.args.setup.now c.args.seen.now ps c.args.reach.now.events.items c.args.reach.now.place)
    (ap paths_of c.in-Some.ensures.items ∙ map-append (λ (p : Vec Event Global). p.items) rest (c.in-Some.path ∷ []) ∙ ap (λ (p : List Event). paths_of rest ++ p ∷ []) (sym c.as_slice.ensures.value)) c.requires.stands
