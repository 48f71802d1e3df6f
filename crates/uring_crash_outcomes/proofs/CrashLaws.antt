-- The laws of `laws.rt`: from `told`, and from `moves_made` with all completions reaped after it.
use Rattle.std.proofs.Common.{◌≡◌, false, ℕ, ℤ, ◌≤◌, List, [], ◌∷◌, ◌++◌, length, take, drop, map, refl, sym, ap, ap₂, ◌∙◌, arith, append_assoc}
use Rattle.uring_crash_outcomes.proofs.Common.{AreLeft, CanShow, Crash, HasBegun, Log, Moment, Setup, after_moves, empty_log, log_along, log_of, map-append, starting, take-append-drop}
use Rattle.std.proofs.Math.Seq.{take-append_seam, drop-append_seam}
use Rattle.std.proofs.lemmas.Grind.{flat_map-append}
use Rattle.uring_entry.specs.Submission.{Submission, taken, Published, published_items}
use Rattle.uring_files.specs.Contents.{FileContents, empty_files}
use Rattle.uring_core.specs.World.{World, at_first}
use Rattle.uring_core.specs.CalledFor.{files_of}
use Rattle.uring_core.specs.Histories.{History, world, by_manual}
use Rattle.uring_core.proofs.ByRules.{of_manual}
use Rattle.uring_outcomes.specs.CallOutcomes.{items_in, entries_in}
use Rattle.uring_outcomes.specs.Recorded.{moves_in}
use Rattle.uring_outcomes.proofs.MovesMade.{moment_of, moves_made}
use Rattle.uring_outcomes.proofs.Reaping.{AllReaped, all_reaped}
use Rattle.uring_outcomes.proofs.OutcomeLaws.{same_cut, all_taken, first_between, some_size}
use Rattle.uring_crash_outcomes.specs.Laws.{HistoriesShowMoves, MovesShowHistories, IsSeen}
use Rattle.uring_crash_outcomes.proofs.LogMoves.{IsTold, told}

-- Calls are the first of others by their lengths and their items.

-- the calls that come after these
record Rest (some all : List (List Published)) : Type 0 where
  rest : List (List Published)
  split : some ++ rest ≡ all

first_length : {x y : ℕ} {xs ys : List ℕ} → x ∷ xs ≡ y ∷ ys → x ≡ y
first_length e = cc

other_lengths : {x y : ℕ} {xs ys : List ℕ} → x ∷ xs ≡ y ∷ ys → xs ≡ ys
other_lengths e = cc

first_of_cut : (some all : List (List Published)) (later : List ℕ) (more : List Published)
    → map length some ++ later ≡ map length all → items_in some ++ more ≡ items_in all → Rest some all
first_of_cut [] all later more lengths items = record { rest = all; split = refl }
first_of_cut (x ∷ xs) [] later more lengths items = absurd (omega (arith, ap length lengths))
first_of_cut (x ∷ xs) (y ∷ ys) later more lengths items =
    let n : length x ≡ length y = first_length lengths in
    let whole : x ++ (items_in xs ++ more) ≡ y ++ items_in ys = sym (append_assoc x (items_in xs) more) ∙ items in
    let here : x ≡ y = sym (take-append_seam x (items_in xs ++ more)) ∙ ap₂ take n whole ∙ take-append_seam y (items_in ys) in
    let after : items_in xs ++ more ≡ items_in ys = sym (drop-append_seam x (items_in xs ++ more)) ∙ ap₂ drop n whole ∙ drop-append_seam y (items_in ys) in
    let r = first_of_cut xs ys later more (other_lengths lengths) after in
    record { rest = r.rest; split = ap₂ (λ c cs. c ∷ cs) here r.split }

-- what is left by one log is left by one that is the same
left_same : (unit files : ℕ) (some others : ℤ → Log) (left : List (List ℕ))
    → ((fd : ℤ) → some fd ≡ others fd) → AreLeft unit files some left → AreLeft unit files others left
left_same unit files some others left same are = grind arith

histories_by_manual : (unit : ℕ) (g : Setup) → HistoriesShowMoves unit (by_manual g)
histories_by_manual unit g calls c shows =
    let h : History = shows.history in
    let b : HasBegun (by_manual g) calls h = shows.begun in
    let t : IsTold (by_manual g) h = told g h b.lawful b.refuses_none in
    let m = t.has.come in
    let w : World = world (by_manual g) h in
    let l : Submission = w.submission in
    let items : items_in m.calls ++ (drop (taken l) (published_items l) ++ b.unpublished) ≡ items_in calls = ap (λ xs. xs ++ (drop (taken l) (published_items l) ++ b.unpublished)) m.items ∙ sym (append_assoc (take (taken l) (published_items l)) (drop (taken l) (published_items l)) b.unpublished) ∙ ap (λ xs. xs ++ b.unpublished) (take-append-drop (taken l) (published_items l)) ∙ b.published in
    let r : Rest m.calls calls = first_of_cut m.calls calls b.later (drop (taken l) (published_items l) ++ b.unpublished) (ap (λ xs. xs ++ b.later) m.cut ∙ b.cut) items in
    let begins : map entries_in m.calls ++ map entries_in r.rest ≡ map entries_in calls = sym (map-append entries_in m.calls r.rest) ∙ ap (map entries_in) r.split in
    record {
      moves = moves_in h;
      last = moment_of w (files_of (by_manual g) w) (map entries_in r.rest);
      leads = ap (λ xs. after_moves (starting (by_manual g) xs) (moves_in h)) (sym begins) ∙ m.leads (map entries_in r.rest);
      posts = shows.posted;
      left = left_same unit g.files (λ fd. log_of unit (by_manual g) fd h) (λ fd. log_along (moves_in h) (starting (by_manual g) (map entries_in calls)) (empty_log unit fd)) c.left (λ fd. sym (t.logs unit fd (map entries_in r.rest)) ∙ ap (λ xs. log_along (moves_in h) (starting (by_manual g) xs) (empty_log unit fd)) begins) shows.left;
    }

pub histories_show_moves : (unit : ℕ) (g : Setup) → g.linux ≡ false → HistoriesShowMoves unit g
histories_show_moves unit g is = of_manual (HistoriesShowMoves unit) (histories_by_manual unit) g is

-- From moves to histories.

-- what a history shows that has made this world by these moves, in which these calls were taken and those are left
seen : (unit : ℕ) (g : Setup) (w : World) (files : List FileContents) (calls done rest : List (List Published)) (c : Crash) (can : CanShow unit (by_manual g) (map entries_in calls) c)
    → AllReaped (by_manual g) w files can.moves → published_items w.submission ≡ items_in done
    → w.submission.calls ≡ map length done → done ++ rest ≡ calls → w.completions.posted ≡ c.posted
    → IsSeen unit (by_manual g) calls c
seen unit g w files calls done rest c can v published cut split posted =
    let h : History = v.reaches.history in
    let makes : world (by_manual g) h ≡ v.there = v.reaches.makes in
    let l : (world (by_manual g) h).submission ≡ w.submission = ap (λ x. x.submission) makes ∙ v.submission in
    let t : IsTold (by_manual g) h = told g h v.reaches.lawful v.reaches.refuses_none in
    let m = t.has.come in
    let published_then : published_items (world (by_manual g) h).submission ≡ items_in done = ap published_items l ∙ published in
    let cut_then : (world (by_manual g) h).submission.calls ≡ map length done = ap (λ (x : Submission). x.calls) l ∙ cut in
    let taken_so : m.calls ≡ done = same_cut m.calls done (m.cut ∙ cut_then) (m.items ∙ all_taken (world (by_manual g) h).submission done published_then cut_then) in
    let begins : map entries_in m.calls ++ map entries_in rest ≡ map entries_in calls = ap (λ cs. map entries_in cs ++ map entries_in rest) taken_so ∙ sym (map-append entries_in done rest) ∙ ap (map entries_in) split in
    record {
      shows = record {
        history = h;
        begun = record {
          lawful = v.reaches.lawful;
          refuses_none = v.reaches.refuses_none;
          unpublished = items_in rest;
          published = ap (λ xs. xs ++ items_in rest) published_then ∙ sym (flat_map-append (λ (x : List Published). x) done rest) ∙ ap items_in split;
          later = map length rest;
          cut = ap (λ xs. xs ++ map length rest) cut_then ∙ sym (map-append length done rest) ∙ ap (map length) split;
        };
        posted = ap (λ x. x.completions.posted) makes ∙ (v.posted ∙ posted);
        left = left_same unit g.files (λ fd. log_along can.moves (starting (by_manual g) (map entries_in calls)) (empty_log unit fd)) (λ fd. log_of unit (by_manual g) fd h) c.left (λ fd. ap₂ (λ ms xs. log_along ms (starting (by_manual g) xs) (empty_log unit fd)) (sym v.reaches.are) (sym begins) ∙ t.logs unit fd (map entries_in rest)) can.left;
      };
      reaped = ap (λ x. x.completions.reaped) makes ∙ (v.reaped ∙ posted);
    }

moves_by_manual : (unit : ℕ) (g : Setup) → MovesShowHistories unit (by_manual g)
moves_by_manual unit g calls c whole can =
    let m = moves_made g whole.goes_on calls can.last can.moves at_first (empty_files g.files) [] calls [] refl (first_between (by_manual g)) whole.fit (omega (arith, whole.unspent)) can.leads in
    let b = m.between in
    let w : World = m.there in
    let some : 1 ≤ g.cq = omega (arith, whole.limits.cq_holds_sq, some_size g.sq whole.limits.sq_power) in
    let v : AllReaped (by_manual g) w m.files can.moves = all_reaped (by_manual g) w.completions.posted w m.files some b.reaches (b.none_stored ∙ ap length (sym b.none_reaped)) (ap (λ xs. xs ++ w.completions.posted) b.none_reaped) in
    seen unit g w m.files calls m.done m.rest c can v b.published b.cut m.split (ap (λ (x : Moment). x.posted) m.shows ∙ can.posts)

pub moves_show_histories : (unit : ℕ) (g : Setup) → MovesShowHistories unit g
moves_show_histories unit g calls c whole can = grind (arith, (moves_by_manual unit))
