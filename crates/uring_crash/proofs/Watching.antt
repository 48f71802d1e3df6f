-- A step more of a machine that is watched.
use Rattle.std.proofs.Common.{◌≡◌, ℕ, ℤ, List, [], ◌∷◌, Option, refl, ap, ◌∙◌, subst}
use Rattle.uring_crash.proofs.Common.{History, IsImage, Log, Setup, Watching, finished_as, issued_as, log_of, logged, world}
use Rattle.uring_entry.specs.Requests.{Requests, operation_running}
use Rattle.uring_entry.specs.declared.operation.Op.{Op}
use Rattle.uring_core.specs.declared.step.Step.{Step}
use Rattle.uring_core.specs.declared.step.Step.TheVariants as step
use Rattle.uring_core.specs.declared.answer.Answer.{Answer}
use Rattle.uring_machine.specs.Machine.{Machine, Fits}
use Rattle.uring_volume.specs.Events as volume
use Rattle.uring_volume.specs.Listing.{AreTheImages}
use Rattle.uring_volume.specs.Volume.{Volume}

-- the log that a step makes of another
step_on : (unit : ℕ) (g : Setup) (fd : ℤ) (m m' : Machine) (old new : Log) (s : Step) (a : Answer) (h : History)
    → m'.core.setup ≡ m.core.setup → ((k : History) → Fits m k → Fits m' ((s, a) ∷ k))
    → new.volume.unit ≡ old.volume.unit → new.volume.first ≡ old.volume.first
    → (w : Watching unit g fd m old h)
    → new ≡ log_of unit g fd ((s, a) ∷ h)
    → Watching unit g fd m' new ((s, a) ∷ h)
step_on unit g fd m m' old new s a h same fits units firsts w is = record {
  same = same ∙ w.same;
  fits = fits h w.fits;
  logs = is;
  units = units ∙ w.units;
  begins = firsts ∙ w.begins;
}

-- an Issue
pub issued_on : (unit : ℕ) (g : Setup) (fd : ℤ) (m m' : Machine) (old new : Log) (n : ℕ) (a : Answer) (op : Option Op) (h : History)
    → m'.core.setup ≡ m.core.setup
    → ((k : History) → Fits m k → Fits m' ((step.Issue n, a) ∷ k))
    → ((k : History) → Fits m' k → op ≡ operation_running (world m'.core.setup k).requests n)
    → new ≡ issued_as n op a old
    → new.volume.unit ≡ old.volume.unit → new.volume.first ≡ old.volume.first
    → Watching unit g fd m old h
    → Watching unit g fd m' new ((step.Issue n, a) ∷ h)
issued_on unit g fd m m' old new n a op h same fits asks logs units firsts w =
    let of : op ≡ operation_running (world g ((step.Issue n, a) ∷ h)).requests n =
    subst (λ (k : Setup). op ≡ operation_running (world k ((step.Issue n, a) ∷ h)).requests n) (same ∙ w.same) (asks ((step.Issue n, a) ∷ h) (fits h w.fits)) in
    step_on unit g fd m m' old new (step.Issue n) a h same fits units firsts w
    (logs ∙ ap (λ (o : Option Op). issued_as n o a old) of ∙ ap (λ (l : Log). issued_as n (operation_running (world g ((step.Issue n, a) ∷ h)).requests n) a l) w.logs)

-- a Finish
pub finished_on : (unit : ℕ) (g : Setup) (fd : ℤ) (m m' : Machine) (old new : Log) (n : ℕ) (a : Answer) (op : Option Op) (h : History)
    → m'.core.setup ≡ m.core.setup
    → ((k : History) → Fits m k → Fits m' ((step.Finish n, a) ∷ k))
    → ((k : History) → Fits m k → op ≡ operation_running (world m.core.setup k).requests n)
    → new ≡ finished_as n op a old
    → new.volume.unit ≡ old.volume.unit → new.volume.first ≡ old.volume.first
    → Watching unit g fd m old h
    → Watching unit g fd m' new ((step.Finish n, a) ∷ h)
finished_on unit g fd m m' old new n a op h same fits asks logs units firsts w =
    let of : op ≡ operation_running (world g h).requests n =
    subst (λ (k : Setup). op ≡ operation_running (world k h).requests n) w.same (asks h w.fits) in
    step_on unit g fd m m' old new (step.Finish n) a h same fits units firsts w
    (logs ∙ ap (λ (o : Option Op). finished_as n o a old) of ∙ ap (λ (l : Log). finished_as n (operation_running (world g h).requests n) a l) w.logs)

-- an image of the log's volume
pub image_of : (unit : ℕ) (g : Setup) (fd : ℤ) (m : Machine) (log : Log) (h : History) (now : List ℕ)
    → Watching unit g fd m log h → IsImage log.volume.unit log.volume.first log.volume.history now
    → IsImage unit [] (log_of unit g fd h).volume.history now
image_of unit g fd m log h now is image =
    subst (λ (e : volume.History). IsImage unit [] e now) (ap (λ (l : Log). l.volume.history) is.logs)
    (subst (λ (f : List ℕ). IsImage unit f log.volume.history now) is.begins
    (subst (λ (u : ℕ). IsImage u log.volume.first log.volume.history now) is.units image))

-- the images of the log's volume
the_images_of : (unit : ℕ) (g : Setup) (fd : ℤ) (m : Machine) (log : Log) (h : History) (all : List (List ℕ))
    → Watching unit g fd m log h → AreTheImages log.volume.unit log.volume.first log.volume.history all
    → AreTheImages unit [] (log_of unit g fd h).volume.history all
the_images_of unit g fd m log h all is images =
    subst (λ (e : volume.History). AreTheImages unit [] e all) (ap (λ (l : Log). l.volume.history) is.logs)
    (subst (λ (f : List ℕ). AreTheImages unit f log.volume.history all) is.begins
    (subst (λ (u : ℕ). AreTheImages u log.volume.first log.volume.history all) is.units images))

-- the same of a volume that is the log's
pub the_images_in : (unit : ℕ) (g : Setup) (fd : ℤ) (m : Machine) (log : Log) (h : History) (v : Volume) (all : List (List ℕ))
    → Watching unit g fd m log h → v ≡ log.volume → AreTheImages v.unit v.first v.history all
    → AreTheImages unit [] (log_of unit g fd h).volume.history all
the_images_in unit g fd m log h v all is same images =
    the_images_of unit g fd m log h all is (subst (λ (x : Volume). AreTheImages x.unit x.first x.history all) same images)

-- what has happened to the log's volume
pub told_of : (unit : ℕ) (g : Setup) (fd : ℤ) (m : Machine) (log : Log) (h : History) (happened : volume.History)
    → Watching unit g fd m log h → happened ≡ log.volume.history
    → happened ≡ (log_of unit g fd h).volume.history
told_of unit g fd m log h happened is told = told ∙ ap (λ (l : Log). l.volume.history) is.logs

-- any other step
logged_other : (r q : Requests) (s : Step) (a : Answer) (log : Log) → ((n : ℕ) → s ≡ step.Issue n → ⊥)
    → ((n : ℕ) → s ≡ step.Finish n → ⊥) → log ≡ logged r q s a log
logged_other r q (step.Issue n) a log no_issue no_finish = absurd (no_issue n refl)
logged_other r q (step.Finish n) a log no_issue no_finish = absurd (no_finish n refl)
logged_other r q _ a log no_issue no_finish = refl

pub other_on : (unit : ℕ) (g : Setup) (fd : ℤ) (m m' : Machine) (log : Log) (s : Step) (a : Answer) (h : History)
    → ((n : ℕ) → s ≡ step.Issue n → ⊥) → ((n : ℕ) → s ≡ step.Finish n → ⊥)
    → m'.core.setup ≡ m.core.setup → ((k : History) → Fits m k → Fits m' ((s, a) ∷ k))
    → Watching unit g fd m log h → Watching unit g fd m' log ((s, a) ∷ h)
other_on unit g fd m m' log s a h no_issue no_finish same fits w =
    step_on unit g fd m m' log log s a h same fits refl refl w
    (w.logs ∙ logged_other (world g h).requests (world g ((s, a) ∷ h)).requests s a (log_of unit g fd h) no_issue no_finish)
