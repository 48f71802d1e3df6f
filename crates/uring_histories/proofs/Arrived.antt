-- What was recorded of calls, and the outcome that it comes to.
use Rattle.std.proofs.Common.{◌≡◌, ◌+◌, ◌<◌, ℕ, false, List, [], ◌∷◌, ◌++◌, length, map, take, get_or, refl, sym, subst, ap, ◌∙◌}
use Rattle.uring_histories.proofs.Common.{Between, Cqe, Fits, GoesThrough, HasMade, History, IsAmid, IsEnded, IsHistoryOf, IsLawful, IsRecorded, Item, Over, Published, Setup, ShowsOnly, Step, all_published_as, call_steps, dropped, files_of, map-append, outstanding_in, published_in, string_bytes, take_more, world}
use Rattle.std.specs.declared.vec.Vec.{Vec}
use Rattle.std.specs.declared.alloc.Global.{Global}
use Rattle.uring_core.specs.declared.step.Step.TheVariants as step
use Rattle.uring_outcomes.specs.CallOutcomes.{CallsOutcome, ComesTo}
use Rattle.uring_outcomes.specs.Outcomes.{Ending}
use Rattle.uring_play_text.specs.Inputs.{lists_of}
use Rattle.uring_histories.specs.declared.recording.Recording.{Recording}
use Rattle.uring_histories.proofs.Submitted.{call_made, issue_between, finish_between, over_still}

-- before anything was made
pub at_start : (g : Setup) (t : Recording) → IsRecorded g t [] → IsAmid g t []
at_start g t recorded = record {
  history = [];
  recorded = recorded;
  between = record {
    stands = record { fresh = refl; call = refl; head = refl; waiting = refl };
    is_open = refl;
    published = refl;
    cut = refl;
    none_reaped = refl;
  };
}

pub amid_call : (g : Setup) (old new : Recording) (calls : List (List Published)) (call : List Published)
    → g.stops ≡ false → g.linux ≡ false → GoesThrough g.sq call → (amid : IsAmid g old calls)
    → HasMade g new amid.history (call_steps call) → IsAmid g new (calls ++ call ∷ [])
amid_call g old new calls call goes manual goes_in amid m =
    record {
      history = m.after;
      recorded = m.recorded;
      between = call_made g goes manual amid.history m.after calls call amid.between goes_in m.made;
    }

pub amid_issue : (g : Setup) (old new : Recording) (n : ℕ) (calls : List (List Published)) → (amid : IsAmid g old calls)
    → HasMade g new amid.history (step.Issue n ∷ []) → IsAmid g new calls
amid_issue g old new n calls amid m =
    record {
      history = m.after;
      recorded = m.recorded;
      between = subst (λ h. Between (world g h) calls) (sym m.made.3) (issue_between g (world g amid.history) n m.made.0 calls amid.between);
    }

pub amid_finish : (g : Setup) (old new : Recording) (n : ℕ) (calls : List (List Published)) → (amid : IsAmid g old calls)
    → HasMade g new amid.history (step.Finish n ∷ []) → IsAmid g new calls
amid_finish g old new n calls amid m =
    record {
      history = m.after;
      recorded = m.recorded;
      between = subst (λ h. Between (world g h) calls) (sym m.made.3) (finish_between g (world g amid.history) n m.made.0 calls amid.between);
    }

pub ended_still : (g : Setup) (old new : Recording) (s : Step) (calls : List (List Published)) (posted : List Cqe)
    → ShowsOnly s → (done : IsEnded g old calls posted) → HasMade g new done.history (s ∷ [])
    → IsEnded g new calls posted
ended_still g old new s calls posted shows done m =
    record {
      history = m.after;
      recorded = m.recorded;
      over = subst (λ h. Over (world g h) calls posted) (sym m.made.3) (over_still g (world g done.history) s m.made.0 calls posted shows done.over);
    }

-- nothing is outstanding, and this was posted
pub ended_now : (g : Setup) (t : Recording) (calls : List (List Published)) (posted : List Cqe) → IsAmid g t calls
    → ((h : History) → Fits t.machine h → (world t.machine.core.setup h).completions.reaped ≡ []
    → (outstanding_in (world t.machine.core.setup h).requests ≡ 0) × ((world t.machine.core.setup h).completions.posted ≡ posted))
    → IsEnded g t calls posted
ended_now g t calls posted amid come =
    let r = amid.recorded in
    let h : History = amid.history in
    let reaped : (world t.machine.core.setup h).completions.reaped ≡ [] = ap (λ k. (world k h).completions.reaped) r.setup ∙ amid.between.none_reaped in
    let c = come h r.fits reaped in
    record {
      history = h;
      recorded = r;
      over = record {
        published = amid.between.published;
        cut = amid.between.cut;
        none_outstanding = ap (λ k. outstanding_in (world k h).requests) (sym r.setup) ∙ c.0;
        posts = ap (λ k. (world k h).completions.posted) (sym r.setup) ∙ c.1;
      };
    }

-- the history comes to this outcome
pub history_shown : (g : Setup) (t : Recording) (calls : List (List Published)) (e : Ending)
    → IsEnded g t calls e.posted
    → ((h : History) → Fits t.machine h → files_of t.machine.core.setup (world t.machine.core.setup h) ≡ e.files)
    → IsHistoryOf g calls e (string_bytes t.text)
history_shown g t calls e done files =
    let r = done.recorded in
    let h : History = done.history in
    let o : CallsOutcome = record { posted = e.posted; files = e.files; dropped = dropped (world g h).submission } in
    let comes : ComesTo g calls h o = record {
      lawful = subst (λ k. IsLawful k h) r.setup r.fits.lawful;
      refuses_none = r.refuses_none;
      published = done.over.published;
      cut = done.over.cut;
      none_outstanding = done.over.none_outstanding;
      posted = done.over.posts;
      files = ap (λ k. files_of k (world k h)) (sym r.setup) ∙ files h r.fits;
      dropped_words = refl;
    } in
    record {
      exchanges = r.exchanges;
      each = r.each;
      is = r.text;
      outcome = o;
      comes = subst (λ k. ComesTo g calls k o) (sym r.events) comes;
      posted = refl;
      files = refl;
    }

-- one call more
pub calls_more : (calls : List (Vec Item Global)) (i : ℕ) (call : Vec Item Global) → i < length calls
    → call ≡ get_or calls i call
    → published_in (take i calls) ++ all_published_as call.items ∷ [] ≡ published_in (take (i + 1) calls)
calls_more calls i call low is =
    let cut : take (i + 1) calls ≡ take i calls ++ call ∷ [] = take_more calls i call low ∙ ap (λ y. take i calls ++ y ∷ []) (sym is) in
    sym (ap published_in cut ∙ map-append (λ (v : Vec Item Global). all_published_as v.items) (take i calls) (call ∷ []))

-- the same calls, as lists
pub same_calls : (calls : List (Vec Item Global)) → published_in calls ≡ map all_published_as (lists_of calls)
same_calls [] = refl
same_calls (call ∷ calls) = ap (λ l. all_published_as call.items ∷ l) (same_calls calls)
