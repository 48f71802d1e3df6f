-- What the dispatcher shows after each event.
use Rattle.std.proofs.Common.{◌≡◌, ℕ, length, Bool, true, false, ◌||◌, ◌==◌, [], ◌∷◌, refl, sym, ◌∙◌, ap, arith, length-append}
use Rattle.uring_linux.proofs.Common.{Drains, KeptDrains, LinuxRequests, Request, Requests, Shows, ShowsRequests, Sqe, Tells, Window, accepted_drains, asks_to_skip, cut_drains, dispatch_of, end_of, entry_of, is_linked, new_request, no_drains, some_below, with_last_entry, with_request}
use Rattle.uring_linux.specs.LinuxRequests.{no_request, with_accepted, with_cut}
use Rattle.uring_entry.specs.Requests as manual
use Rattle.uring_linux.proofs.WindowCounts.{dispatch_shows}
use Rattle.uring_linux.proofs.WindowEvents.{roomed, skipped_accepted, tells_new, none_shows}

pub dispatch_new : (s : Window) (d : KeptDrains) → s ≡ record { first = 0; items = []; room = 0 }
    → d ≡ record { drains = no_drains; room = 0 }
    → ShowsRequests (dispatch_of s d false 0 true) no_request
dispatch_new s d es ed = rw (es, ed) (dispatch_shows (record { first = 0; items = []; room = 0 }) (record { drains = no_drains; room = 0 }) false 0 true no_request none_shows refl refl)

-- an entry is taken, as the definitions say
taken : (q : Request) (d e : Drains) (first second : Bool) (r : Requests) (n : ℕ) → Tells q r n → d ≡ e
    → first ≡ second → second ≡ (e.from == n) → with_request d first q ≡ with_last_entry r n e
taken q d e first second r n t same is at = grind arith

pub dispatch_accepted : (s t : Window) (d k : KeptDrains) (b c : Bool) (room left : ℕ) (between amid : Bool) (e : Sqe) (q : Request) (l : LinuxRequests) (first : Bool) (n : ℕ)
    → ShowsRequests (dispatch_of s d b room between) l → c ≡ (b || asks_to_skip e) → q ≡ new_request e c n
    → ((r : Requests) (x : Sqe) → Shows s r → Tells q (manual.with_accepted r x) (length r.accepted)
    → Shows t (manual.with_accepted r x)) → first ≡ (d.drains.from == end_of s)
    → ((r : Requests) → Shows t r → k.drains ≡ accepted_drains r (is_linked q.entry) (with_request d.drains first q))
    → ShowsRequests (dispatch_of t k c left amid) (with_accepted l e)
dispatch_accepted s t d k b c room left between amid e q l first place h ec eq g is f =
    let r = l.requests in
    let n = length r.accepted in
    let more = manual.with_accepted r e in
    let skip = ec ∙ skipped_accepted r e b h.held.skipped in
    let tells : Tells q more n = rw eq (tells_new r e c place (h.held.window.later n (omega arith)) skip) in
    let shows = g r e (roomed s.first s.items 0 s.room r h.held.window) tells in
    let at : (d.drains.from == end_of s) ≡ (l.drains.from == n) = rw (h.held.drains, h.held.window.count) refl in
    let same = taken q d.drains l.drains first (d.drains.from == end_of s) more n tells h.held.drains is at in
    dispatch_shows t k c left amid (with_accepted l e) shows
    (f more shows ∙ ap (λ (x : Request). accepted_drains more (is_linked x.entry) (with_request d.drains first q)) eq ∙ ap (accepted_drains more (is_linked e)) same)
    (skip ∙ ap (some_below (λ m. asks_to_skip (entry_of more m))) (sym (length-append r.accepted (e ∷ []))))

pub dispatch_cut : (s t : Window) (d k : KeptDrains) (b : Bool) (room left : ℕ) (between amid : Bool) (l : LinuxRequests)
    → ShowsRequests (dispatch_of s d b room between) l
    → ((r : Requests) → Shows s r → Shows t (manual.with_cut r))
    → ((r : Requests) → Shows t r → k.drains ≡ cut_drains r d.drains)
    → ShowsRequests (dispatch_of t k b left amid) (with_cut l)
dispatch_cut s t d k b room left between amid l h g f =
    let r = l.requests in
    let shows = g r (roomed s.first s.items 0 s.room r h.held.window) in
    dispatch_shows t k b left amid (with_cut l) shows (f (manual.with_cut r) shows ∙ ap (cut_drains (manual.with_cut r)) h.held.drains) h.held.skipped
