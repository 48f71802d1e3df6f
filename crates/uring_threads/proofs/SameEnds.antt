-- Lanes and workers by their numbers: whoever has the same numbers is the other end.
use Rattle.std.proofs.Common.{◌≡◌, ℕ, suc, ◌<◌, ◌≤◌, List, [], ◌∷◌, length, map, get_or, refl, sym, subst, ap, ap₂, ◌∙◌, arith}
use Rattle.uring_ports.specs.AppEnd.{AppEnd}
use Rattle.uring_threads.proofs.Common.{AreLanesOf, AreSameLanes, AreTogether, HaveCarried, HaveCarriedNone, HaveFiles, HaveLooked, HoldJobs, HoldResults, IsKernel, IsSameKernel, Kept, Kernel, Setup, WorkLanes, Worker, calls_after, get_or-map, get_or_default, length-map, length-set, nothing_put, numbers_of_lanes, sizes_of, slice_set}
use Rattle.uring_threads.proofs.CallLengths.{lengths_none}
use Rattle.uring_workers.specs.Pairings.{pairing_of}
use Rattle.uring_threads.specs.Opening.{kernel_at_first}
use Rattle.uring_threads.specs.declared.intake.Intake.TheVariants as intake
use Rattle.uring_workers.proofs.Working.{same_ring}
use Rattle.uring_threads.proofs.SameLanes.{set_cases}

-- two lists are told the same if their elements are, place by place
pub told_same : {X Y A : Type 0} (f : X → A) (g : Y → A) (xs : List X) (ys : List Y)
    → length xs ≡ length ys
    → ((k : ℕ) (d : X) (e : Y) → k < length xs → f (get_or xs k d) ≡ g (get_or ys k e))
    → map f xs ≡ map g ys
told_same f g [] [] many each = refl
told_same f g (x ∷ xs) (y ∷ ys) many each = ap₂ (λ a more. a ∷ more) (each 0 x y (omega arith)) (told_same f g xs ys (omega (arith, many)) (λ k d e low. each (suc k) d e (omega (arith, low))))
told_same f g _ _ many each = absurd (omega (arith, many))

-- and the other way round
pub same_told : {X Y A : Type 0} (f : X → A) (g : Y → A) (xs : List X) (ys : List Y) (k : ℕ) (d : X) (e : Y)
    → map f xs ≡ map g ys → k < length ys → f (get_or xs k d) ≡ g (get_or ys k e)
same_told f g xs ys k d e same low =
    let many : length xs ≡ length ys = sym (length-map xs f) ∙ ap length same ∙ length-map ys g in
    sym (get_or-map f xs k d (f d) (omega (arith, low, many))) ∙ ap (λ told. get_or told k (f d)) same ∙ get_or-map g ys k e (f d) low

-- the same lanes have the same numbers
pub same_numbers : (old new : List WorkLanes) → AreSameLanes old new
    → numbers_of_lanes new ≡ numbers_of_lanes old
same_numbers old new same =
    told_same (λ (l : WorkLanes). pairing_of l.jobs l.results) (λ (l : WorkLanes). pairing_of l.jobs l.results) new old same.many (λ k d e low.
    let within : k < length old = omega (arith, low, same.many) in
    let jobs = (same.jobs k e within).0 in
    let results = (same.results k e within).0 in
    let l : WorkLanes = get_or old k e in
    let m : WorkLanes = get_or new k e in
    rw (get_or_default new k d e low) (ap₂ (λ xs ys. xs ∷ ys ∷ []) (same_ring m.jobs.end l.jobs.end jobs.0 jobs.1 jobs.2) (same_ring m.results.end l.results.end results.0 results.1 results.2)))

-- the ends of a set-up, as they are opened
pub opened_together : (files : ℕ) (app : AppEnd) (kernel : Kernel) (workers : List Worker)
    → kernel.pairing ≡ app.pairing → kernel.sizes ≡ app.sizes → kernel.kept.setup.files ≡ files
    → AreLanesOf files kernel.lanes workers → AreTogether app kernel workers
opened_together files app kernel workers ports sizes same of = grind (arith, told_same)

-- the dispatcher's end, as it is opened
pub at_first : (g : Setup) (k : Kernel) → k.kept.trace ≡ [] → k.kept.setup ≡ g
    → k.intake ≡ intake.Ready → k.sizes ≡ sizes_of g → k.pulled ≡ nothing_put → k.reaped ≡ []
    → k ≡ kernel_at_first g k.pairing k
at_first g k trace setup ready sizes pulled reaped = grind arith

pub is_at_first : (g : Setup) (numbers : List ℕ) (k : Kernel) → 0 < length k.lanes
    → length k.lanes ≤ 8 → HoldJobs k.lanes → HoldResults k.lanes → HaveCarriedNone k.lanes
    → IsKernel (kernel_at_first g numbers k)
unfolding calls_after
is_at_first g numbers k some few hold short none = grind (arith, lengths_none g)

-- A worker that does something goes on to be of the same ends.

module _ (workers : List Worker) (k : ℕ) (d new : Worker) (low : k < length workers) where
  -- what of a worker stays where it does something
  stays_at : {A : Type 0} (f : Worker → A) → f new ≡ f (get_or workers k d) → (j : ℕ) (x y : Worker) → j < length (slice_set workers k new) → f (get_or (slice_set workers k new) j x) ≡ f (get_or workers j y)
  stays_at f here j x y within = set_cases (λ i w. f w ≡ f (get_or workers i y)) workers k new j x low (here ∙ ap f (get_or_default workers k d y low)) (λ other. ap f (get_or_default workers j x y (omega (arith, within, length-set workers k new))))

  pub worker_stays : (app : AppEnd) (kernel : Kernel) → new.pairing ≡ (get_or workers k d).pairing
      → length new.files ≡ length (get_or workers k d).files → AreTogether app kernel workers
      → AreTogether app kernel (slice_set workers k new)
  worker_stays app kernel pairing files t =
      record {
        ports = t.ports;
        sizes = t.sizes;
        lanes = told_same (λ (w : Worker). w.pairing) (λ (w : Worker). w.pairing) (slice_set workers k new) workers (length-set workers k new) (stays_at (λ w. w.pairing) pairing) ∙ t.lanes;
        files = λ j x within. stays_at (λ w. length w.files) files j x x within ∙ t.files j x (omega (arith, within, length-set workers k new));
      }

-- Asking for room changes nothing else.

pub together_same : (app : AppEnd) (kernel same : Kernel) (workers : List Worker)
    → IsSameKernel kernel same → AreTogether app kernel workers → AreTogether app same workers
together_same app kernel same workers s t = grind arith

pub lanes_to_settle : (app : AppEnd) (kernel same : Kernel) (workers : List Worker) (kept : Kept) (lanes : List WorkLanes)
    → AreTogether app kernel workers → IsSameKernel kernel same → IsKernel same → kept ≡ same.kept
    → lanes ≡ same.lanes → AreLanesOf kept.setup.files lanes workers
lanes_to_settle app kernel same workers kept lanes t s is keeps these =
    grind (arith, length-map, same_told, (together_same app kernel same workers s t))

pub carried_to_settle : (same : Kernel) (kept : Kept) (lanes : List WorkLanes) → IsKernel same
    → kept ≡ same.kept → lanes ≡ same.lanes → HaveCarried kept lanes
carried_to_settle same kept lanes is keeps these = subst (λ (k : Kept). HaveCarried k lanes) (sym keeps) (subst (HaveCarried same.kept) (sym these) is.ties.carried)

-- workers that looked have as many files as before
pub files_had : (files : ℕ) (lanes : List WorkLanes) (old new : List Worker) → 0 < length lanes
    → AreLanesOf files lanes old → HaveLooked old new → HaveFiles files new
files_had files lanes old new some of looked = grind arith
