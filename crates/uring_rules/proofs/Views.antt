-- What the dispatcher over one of the two shows, and what that one shows.
use Rattle.std.proofs.Common.{◌≡◌, Bool, true, false, sym, ◌∙◌, ap, subst}
use Rattle.uring_dispatch.specs.Dispatch as manual
use Rattle.uring_dispatch.specs.Dispatch.{Dispatch}
use Rattle.uring_linux.specs.LinuxDispatch as linux
use Rattle.uring_linux.specs.LinuxDispatch.{LinuxDispatch}
use Rattle.uring_linux.specs.LinuxRequests.{LinuxRequests}
use Rattle.uring_rules.specs.declared.kind.DispatcherKind.{DispatcherKind}
use Rattle.uring_rules.specs.declared.kind.DispatcherKind.TheVariants.{Manual, Linux}
use Rattle.uring_rules.specs.RulesDispatch.{Rules, rules_of, StandsFor, ShowsRequests}

-- what the whole shows, its one shows
pub manual_shown : (k : DispatcherKind) (x : Rules) (d : Dispatch) (l : LinuxRequests) → rules_of k ≡ x → k ≡ Manual d
    → ShowsRequests x l → manual.ShowsRequests d l.requests
unfolding StandsFor
manual_shown k x d l v e h =
    (subst (λ (y : Rules). ShowsRequests y l) (sym (ap rules_of (sym e) ∙ v)) h).held

pub linux_shown : (k : DispatcherKind) (x : Rules) (d : LinuxDispatch) (l : LinuxRequests) → rules_of k ≡ x → k ≡ Linux d
    → ShowsRequests x l → linux.ShowsRequests d l
unfolding StandsFor
linux_shown k x d l v e h =
    (subst (λ (y : Rules). ShowsRequests y l) (sym (ap rules_of (sym e) ∙ v)) h).held

-- and the other way round
pub over_manual : (d : Dispatch) (l : LinuxRequests) → manual.ShowsRequests d l.requests → ShowsRequests (rules_of (Manual d)) l
unfolding StandsFor
over_manual d l h =
    record { accepted = h.accepted; outstanding = h.outstanding; running = h.running; held = h }

pub over_linux : (d : LinuxDispatch) (l : LinuxRequests) → linux.ShowsRequests d l → ShowsRequests (rules_of (Linux d)) l
unfolding StandsFor
over_linux d l h =
    record { accepted = h.accepted; outstanding = h.outstanding; running = h.running; held = h }

-- by which rules it goes
pub is_manual : (k : DispatcherKind) (x : Rules) (d : Dispatch) → rules_of k ≡ x → k ≡ Manual d → false ≡ x.linux
is_manual k x d v e = ap (λ (y : Rules). y.linux) (ap rules_of (sym e) ∙ v)

pub is_linux : (k : DispatcherKind) (x : Rules) (d : LinuxDispatch) → rules_of k ≡ x → k ≡ Linux d → true ≡ x.linux
is_linux k x d v e = ap (λ (y : Rules). y.linux) (ap rules_of (sym e) ∙ v)

-- what the one tells by its rules, the whole tells by these
pub told_manual : {A : Type 0} (f : Bool → A) (a : A) (k : DispatcherKind) (x : Rules) (d : Dispatch) → rules_of k ≡ x → k ≡ Manual d
    → a ≡ f false → a ≡ f x.linux
told_manual f a k x d v e told = told ∙ ap f (is_manual k x d v e)

pub told_linux : {A : Type 0} (f : Bool → A) (a : A) (k : DispatcherKind) (x : Rules) (d : LinuxDispatch) → rules_of k ≡ x → k ≡ Linux d
    → a ≡ f true → a ≡ f x.linux
told_linux f a k x d v e told = told ∙ ap f (is_linux k x d v e)

-- what the one shows after an event, the whole shows
pub manual_goes : (f : Bool → LinuxRequests) (k m : DispatcherKind) (x : Rules) (d e : Dispatch) → rules_of k ≡ x → k ≡ Manual d → m ≡ Manual e
    → manual.ShowsRequests e (f false).requests → ShowsRequests (rules_of m) (f x.linux)
manual_goes f k m x d e v is new h =
    subst (λ b. ShowsRequests (rules_of m) (f b)) (is_manual k x d v is)
    (subst (λ (y : DispatcherKind). ShowsRequests (rules_of y) (f false)) (sym new) (over_manual e (f false) h))

pub linux_goes : (f : Bool → LinuxRequests) (k m : DispatcherKind) (x : Rules) (d e : LinuxDispatch) → rules_of k ≡ x → k ≡ Linux d → m ≡ Linux e
    → linux.ShowsRequests e (f true) → ShowsRequests (rules_of m) (f x.linux)
linux_goes f k m x d e v is new h =
    subst (λ b. ShowsRequests (rules_of m) (f b)) (is_linux k x d v is)
    (subst (λ (y : DispatcherKind). ShowsRequests (rules_of y) (f true)) (sym new) (over_linux e (f true) h))

-- and after one that is answered
pub manual_answers : {A : Type 0} (f : Bool → A → LinuxRequests) (a b : A) (k m : DispatcherKind) (x : Rules) (d e : Dispatch) → a ≡ b → rules_of k ≡ x → k ≡ Manual d → m ≡ Manual e
    → manual.ShowsRequests e (f false b).requests → ShowsRequests (rules_of m) (f x.linux a)
manual_answers f a b k m x d e same v is new h =
    subst (λ y. ShowsRequests (rules_of m) (f x.linux y)) (sym same) (manual_goes (λ c. f c b) k m x d e v is new h)

pub linux_answers : {A : Type 0} (f : Bool → A → LinuxRequests) (a b : A) (k m : DispatcherKind) (x : Rules) (d e : LinuxDispatch) → a ≡ b → rules_of k ≡ x → k ≡ Linux d → m ≡ Linux e
    → linux.ShowsRequests e (f true b) → ShowsRequests (rules_of m) (f x.linux a)
linux_answers f a b k m x d e same v is new h =
    subst (λ y. ShowsRequests (rules_of m) (f x.linux y)) (sym same) (linux_goes (λ c. f c b) k m x d e v is new h)

-- how many it has accepted
pub manual_accepted : (k : DispatcherKind) (x : Rules) (d : Dispatch) → rules_of k ≡ x → k ≡ Manual d → x.accepted ≡ d.accepted
manual_accepted k x d v e = sym (ap (λ (y : Rules). y.accepted) (ap rules_of (sym e) ∙ v))

pub linux_accepted : (k : DispatcherKind) (x : Rules) (d : LinuxDispatch) → rules_of k ≡ x → k ≡ Linux d → x.accepted ≡ d.accepted
linux_accepted k x d v e = sym (ap (λ (y : Rules). y.accepted) (ap rules_of (sym e) ∙ v))
