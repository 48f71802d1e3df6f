-- One worker more after fresh ones, in order.
use Rattle.std.proofs.Common.{◌≡◌, ℕ, zero, suc, ◌<◌, List, [], ◌∷◌, ◌++◌, length, get_or, ◌≤◌, sym, subst, ap, ◌∙◌, arith, ◌+◌}
use Rattle.std.proofs.Math.Seq.{get_or-append_seam}
use Rattle.std.proofs.lemmas.List.{get_or_append_left, length-append, length-replicate}
use Rattle.rtrb.specs.Ring.{sent, producer_capacity, received, consumer_capacity}
use Rattle.uring_files.specs.Contents.{FileContents, empty_file, empty_files}
use Rattle.uring_workers.specs.Opened.{AreOpened, IsFreshWorker}
use Rattle.uring_workers.specs.Pairings.{pairing_of}
use Rattle.uring_workers.specs.Worker.{Worker}
use Rattle.uring_workers.specs.declared.work_lanes.WorkLanes.{WorkLanes}

pub none_opened : (files : ℕ) → AreOpened files [] []
none_opened files = grind arith

-- empty files, by how many there are
pub all_empty : (files : List FileContents) (count : ℕ) → files ≡ empty_files count
    → files ≡ empty_files (length files)
all_empty files count e = e ∙ ap empty_files (sym (ap length e ∙ length-replicate count empty_file))

pub both : {X : Type 0} {a b c d : X} → a ≡ c → b ≡ d → a ∷ b ∷ [] ≡ c ∷ d ∷ []
both p q = cc

-- what is true of each place is so of one more
each_next : {X : Type 0} (P : ℕ → X → Type 0) (xs : List X) (x : X)
    → ((k : ℕ) (d : X) → k < length xs → P k (get_or xs k d)) → P (length xs) x
    → (k : ℕ) (d : X) → k < length (xs ++ x ∷ []) → P k (get_or (xs ++ x ∷ []) k d)
each_next P [] x all last zero d low = last
each_next P (y ∷ ys) x all last zero d low = all 0 d (omega arith)
each_next P (y ∷ ys) x all last (suc k) d low =
    each_next (λ n. P (suc n)) ys x (λ n e before. all (suc n) e (omega arith)) last k d (omega arith)
each_next P [] x all last (suc k) d low = absurd (omega (arith, low))

pub opened_next : {later mid : List WorkLanes} {more those : List Worker} (files : ℕ) (lanes : List WorkLanes) (workers : List Worker) (l : WorkLanes) (w : Worker)
    → later ≡ mid ++ l ∷ [] → mid ≡ lanes → more ≡ those ++ w ∷ [] → those ≡ workers
    → AreOpened files lanes workers → sent l.jobs ≡ [] → received l.results ≡ []
    → producer_capacity l.jobs ≡ 64 → consumer_capacity l.results ≡ 64
    → w.pairing ≡ pairing_of l.jobs l.results → IsFreshWorker files (length lanes) w
    → AreOpened files later more
opened_next files lanes workers l w with_lanes same_lanes with_worker same_workers o jobs results jobs_hold results_hold pairing fresh =
    let many : length workers ≡ length lanes = o.pairs.many in
    let longer : length (workers ++ w ∷ []) ≡ length (lanes ++ l ∷ []) = omega (arith, many, length-append workers (w ∷ []), length-append lanes (l ∷ [])) in
    rw (with_lanes, same_lanes, with_worker, same_workers) (record {
      pairs = record {
        many = longer;
        pairing = λ k d e low.
            each_next (λ j (x : WorkLanes). (get_or (workers ++ w ∷ []) j e).pairing ≡ pairing_of x.jobs x.results) lanes l
            (λ j x within. rw (get_or_append_left workers (w ∷ []) e j (omega (arith, within, many))) (o.pairs.pairing j x e within))
            (rw (← many, get_or-append_seam workers w [] e) pairing) k d low;
        short = each_next (λ k (x : WorkLanes). consumer_capacity x.results ≤ 64) lanes l o.pairs.short (omega (arith, results_hold));
        have = λ k e low.
            each_next (λ k (v : Worker). length v.files ≡ files) workers w (λ k e low. o.pairs.have k e (omega (arith, low, many)))
            (ap length fresh.empty ∙ length-replicate files empty_file) k e (omega (arith, low, longer));
      };
      none_carried = each_next (λ k (x : WorkLanes). (sent x.jobs ≡ []) × (received x.results ≡ [])) lanes l o.none_carried (jobs, results);
      hold = each_next (λ k (x : WorkLanes). producer_capacity x.jobs ≡ 64) lanes l o.hold jobs_hold;
      fresh = each_next (IsFreshWorker files) workers w o.fresh (subst (λ n. IsFreshWorker files n w) (sym many) fresh);
    })
