-- By Linux's rules a lawful history is one of submission calls, starts and ends, where nobody starts that is doomed: so that what is so whatever happened is so of its requests.
use Rattle.std.proofs.Common.{◌≡◌, true, false, List, [], ◌∷◌, refl, sym, ◌∙◌, ap, subst, arith}
use Rattle.uring_core.proofs.Common.{Answer, History, IsLawfulApart, LinuxRequests, Setup, Step, World, entries_from, happens, no_bytes, or_left, requests_of, world}
use Rattle.uring_linux.specs.LinuxRequests.{is_doomed}
use Rattle.uring_linux.specs.Happenings.{Happening, Call, Start, End, after, made_by, MayHappen, MayHaveHappened}
use Rattle.uring_rules.proofs.Calls.{whole_call}
use Rattle.uring_rules.proofs.IssueLemmas.{end_by_linux}
use Rattle.uring_core.proofs.Changes.{Change, refuses, takes, drops, closes, runs, dooms, cancels, finishes, change_of}

-- what starts isn't doomed
abbrev pub SparedBy : LinuxRequests → Happening → Type 0
SparedBy l (Call entries) = Unit {0}
SparedBy l (Start n) = is_doomed l.requests n ≡ false
SparedBy l (End n res bytes) = Unit {0}

abbrev pub StartsSpared : List Happening → Type 0
StartsSpared [] = Unit {0}
StartsSpared (h ∷ earlier) = SparedBy (made_by earlier) h × StartsSpared earlier

-- what has happened to make these requests, where nobody started that was doomed
pub record HasHappened (l : LinuxRequests) : Type 0 where
  pub happened : List Happening
  pub may : MayHaveHappened happened
  pub spared : StartsSpared happened
  pub made : made_by happened ≡ l

happens_more : (l later : LinuxRequests) (h : Happening) → HasHappened l → MayHappen l h → SparedBy l h
    → after l h ≡ later → HasHappened later
happens_more l later h so may spared is = record {
  happened = h ∷ so.happened;
  may = (subst (λ m. MayHappen m h) (sym so.made) may, so.may);
  spared = (subst (λ m. SparedBy m h) (sym so.made) spared, so.spared);
  made = ap (λ m. after m h) so.made ∙ is;
}

-- the same set-up, with Linux's rules
abbrev pub by_linux : Setup → Setup
by_linux g = record g { linux = true }

change_happens : (g : Setup) (w : World) (s : Step) (a : Answer) → Change (by_linux g) w s a
    → HasHappened (requests_of w) → HasHappened (requests_of (happens (by_linux g) w s a))
change_happens g w s a (refuses _ _ same silent) so = rw same so
change_happens g w s a (takes entry call place opened left at valid) so = rw opened so
change_happens g w s a (drops call place opened left at invalid) so = rw opened so
change_happens g w s a (closes accepted missed head call opened all told) so =
    rw opened (happens_more (requests_of w) _ (Call (entries_from w.submission call.count)) so tt tt
    (whole_call true (requests_of w) (entries_from w.submission call.count)))
change_happens g w s a (runs n outstanding idle spared ready no_cancel) so =
    happens_more (requests_of w) _ (Start n) so (grind arith) (grind arith) refl
change_happens g w s a (dooms n outstanding idle doomed) so = happens_more (requests_of w) _ (End n _ no_bytes) so (grind arith) tt refl
change_happens g w s a (cancels n outstanding idle spared ready cancel) so =
    happens_more (requests_of w) _ (End n _ no_bytes) so (grind arith) tt refl
change_happens g w s a (finishes n res bytes running) so =
    happens_more (requests_of w) _ (End n res bytes) so (or_left _ _ running) tt (end_by_linux (requests_of w) n res bytes)
change_happens g w s a _ so = so

pub history_happens : (g : Setup) (h : History) → IsLawfulApart (by_linux g) h
    → HasHappened (requests_of (world (by_linux g) h))
history_happens g [] lawful = record { happened = []; may = tt; spared = tt; made = refl }
history_happens g ((s, a) ∷ before) lawful =
    change_happens g (world (by_linux g) before) s a (change_of (by_linux g) (world (by_linux g) before) s a lawful.0) (history_happens g before lawful.1)
