-- The laws of `laws.rt`: from `history_comes`, and from `moves_made` with all completions reaped after it.
use Rattle.std.proofs.Common.{◌≡◌, false, ℕ, ◌%◌, ◌^◌, ◌≤◌, List, [], ◌∷◌, ◌++◌, length, take, drop, map, refl, sym, ap, ap₂, ◌∙◌, arith, append-nil}
use Rattle.uring_outcomes.proofs.Common.{CallsOutcome, ComesTo, FileContents, IsPowerOfTwo, Moment, Move, Published, Setup, Submission, World, after_moves, at_first, bad_in, by_manual, drop-append_seam, dropped, empty_files, entries_in, files_of, items_in, moves_in, outstanding_in, published_items, starting, take-append_seam, take-length, take-map, taken, world}
use Rattle.std.proofs.lemmas.Nat.{pow_pos}
use Rattle.uring_core.proofs.ByRules.{of_manual}
use Rattle.uring_outcomes.specs.MoveLaws.{HistoriesAreMoves, MovesAreHistories, IsPlayed}
use Rattle.uring_outcomes.proofs.ItemLists.{item, dropped_back, length_items}
use Rattle.uring_outcomes.proofs.MovesMade.{moment_of, Between, moves_made}
use Rattle.uring_outcomes.proofs.MovesLead.{history_comes}
use Rattle.uring_outcomes.proofs.Reaping.{AllReaped, all_reaped}

-- Calls are told by their lengths and their items.

pub same_cut : (xs ys : List (List Published)) → map length xs ≡ map length ys
    → items_in xs ≡ items_in ys → xs ≡ ys
same_cut [] [] lengths items = refl
same_cut [] (y ∷ ys) lengths items = absurd (omega (arith, ap length lengths))
same_cut (x ∷ xs) [] lengths items = absurd (omega (arith, ap length lengths))
same_cut (x ∷ xs) (y ∷ ys) lengths items =
    let n : length x ≡ length y = cc in
    let others : map length xs ≡ map length ys = cc in
    let here : x ≡ y = sym (take-append_seam x (items_in xs)) ∙ ap₂ take n items ∙ take-append_seam y (items_in ys) in
    let after : items_in xs ≡ items_in ys = sym (drop-append_seam x (items_in xs)) ∙ ap₂ drop n items ∙ drop-append_seam y (items_in ys) in
    ap₂ (λ c cs. c ∷ cs) here (same_cut xs ys others after)

-- if closed calls took all positions, what was published is what they took
pub all_taken : (l : Submission) (calls : List (List Published)) → published_items l ≡ items_in calls
    → l.calls ≡ map length calls → take (taken l) (published_items l) ≡ items_in calls
all_taken l calls published cut = grind (arith, (length_items calls), (take-length (published_items l)))

-- the words that they dropped are the bad ones among the items
dropped_so : (l : Submission) (calls : List (List Published)) → published_items l ≡ items_in calls
    → l.calls ≡ map length calls → dropped l ≡ bad_in (items_in calls) % 2 ^ 32
dropped_so l calls published cut = ap (λ n. n % 2 ^ 32) (sym (dropped_back (take (taken l) l.published)) ∙ ap bad_in (sym (take-map item (taken l) l.published) ∙ all_taken l calls published cut))

histories_by_manual : (g : Setup) → HistoriesAreMoves (by_manual g)
histories_by_manual g calls o outcome =
    let c : ComesTo (by_manual g) calls outcome.history o = outcome.comes in
    let w : World = world (by_manual g) outcome.history in
    let files : List FileContents = files_of (by_manual g) w in
    let m = (history_comes g outcome.history c.lawful c.refuses_none).come in
    let same : m.calls ≡ calls = same_cut m.calls calls (m.cut ∙ c.cut) (m.items ∙ all_taken w.submission calls c.published c.cut) in
    let begins : map entries_in m.calls ++ [] ≡ map entries_in calls = append-nil (map entries_in m.calls) ∙ ap (map entries_in) same in
    record {
      leads = record {
        moves = moves_in outcome.history;
        last = moment_of w files [];
        leads = ap (λ xs. after_moves (starting (by_manual g) xs) (moves_in outcome.history)) (sym begins) ∙ m.leads [];
        over = record { none_left = refl; none_outstanding = c.none_outstanding };
        posts = c.posted;
        leaves = c.files;
      };
      dropped_words = sym c.dropped_words ∙ dropped_so w.submission calls c.published c.cut;
    }

pub histories_are_moves : (g : Setup) → g.linux ≡ false → HistoriesAreMoves g
histories_are_moves = of_manual HistoriesAreMoves histories_by_manual

-- From moves to histories.

pub first_between : (g : Setup) → Between g at_first (empty_files g.files) [] []
first_between g = grind arith

pub some_size : (size : ℕ) → IsPowerOfTwo size → 1 ≤ size
some_size size (k, power) = let some = pow_pos k in omega arith

none_left : (calls : List (List Published)) → map entries_in calls ≡ [] → calls ≡ []
none_left [] e = refl
none_left (call ∷ later) e = absurd (omega (arith, ap length e))

-- what the history comes to that made this world, of these calls
comes_to : {moves : List Move} (g : Setup) (w : World) (files : List FileContents) (calls : List (List Published)) (o : CallsOutcome) (v : AllReaped g w files moves)
    → published_items w.submission ≡ items_in calls → w.submission.calls ≡ map length calls
    → outstanding_in w.requests ≡ 0 → w.completions.posted ≡ o.posted → files ≡ o.files
    → o.dropped ≡ bad_in (items_in calls) % 2 ^ 32
    → IsPlayed g calls o
comes_to g w files calls o v published cut none_outstanding posted leaves dropped_words =
    let makes : world g v.reaches.history ≡ v.there = v.reaches.makes in
    let l : (world g v.reaches.history).submission ≡ w.submission = ap (λ x. x.submission) makes ∙ v.submission in
    record {
      outcome = record {
        history = v.reaches.history;
        comes = grind (arith, dropped_so);
      };
      reaped = ap (λ x. x.completions.reaped) makes ∙ (v.reaped ∙ posted);
    }

moves_by_manual : (g : Setup) → MovesAreHistories (by_manual g)
moves_by_manual g calls o whole to =
    let lead = to.leads in
    let m = moves_made g whole.goes_on calls lead.last lead.moves at_first (empty_files g.files) [] calls [] refl (first_between (by_manual g)) whole.fit (omega (arith, whole.unspent)) lead.leads in
    let b = m.between in
    let w : World = m.there in
    let rest : m.rest ≡ [] = none_left m.rest (ap (λ (x : Moment). x.left) m.shows ∙ lead.over.none_left) in
    let done : m.done ≡ calls = sym (append-nil m.done) ∙ ap (λ xs. m.done ++ xs) (sym rest) ∙ m.split in
    let some : 1 ≤ g.cq = omega (arith, whole.limits.cq_holds_sq, some_size g.sq whole.limits.sq_power) in
    let v : AllReaped (by_manual g) w m.files lead.moves = all_reaped (by_manual g) w.completions.posted w m.files some b.reaches (b.none_stored ∙ ap length (sym b.none_reaped)) (ap (λ xs. xs ++ w.completions.posted) b.none_reaped) in
    comes_to (by_manual g) w m.files calls o v (b.published ∙ ap items_in done) (b.cut ∙ ap (map length) done)
    (ap (λ (x : Moment). outstanding_in x.requests) m.shows ∙ lead.over.none_outstanding)
    (ap (λ (x : Moment). x.posted) m.shows ∙ lead.posts)
    (ap (λ (x : Moment). x.files) m.shows ∙ lead.leaves)
    to.dropped_words

pub moves_are_histories : (g : Setup) → MovesAreHistories g
moves_are_histories g calls o whole to =
    of_manual MovesAreHistories moves_by_manual g whole.manual calls o whole to
