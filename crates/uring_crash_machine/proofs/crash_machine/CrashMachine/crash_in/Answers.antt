use Rattle.std.proofs.Common.{◌≤◌, ℕ, [], List, length, map, get_or, subst, sym, ap, ◌∙◌}
use Rattle.uring_crash_machine.proofs.Common.{AreImages, CrashMachine, Setup, false≢true, max_len}
use Rattle.uring_crash_machine.proofs.EpochCrashes.{images_short, crash_result_fits, crash_result_left, crash_result_chosen}
use Rattle.uring_crash_machine.proofs.crash_machine.CrashMachine.crash_in.Goals as goal

pub on_in-next-requires-clause-short : goal.on_in-next-requires-clause-short
on_in-next-requires-clause-short g c = λ place.
    subst (λ vs. length (get_or (map (λ b. b.items) vs) place []) ≤ max_len) (sym c.deref-2.ensures.value)
    (images_short c.deref.result.now (map (λ b. b.items) c.args.choices.now) (map (λ b. b.items) c.in_ok-left.left.items) c.in_ok-left.ensures.images place)

pub returns-clause-fits : goal.returns-clause-fits
returns-clause-fits g c =
    let m : CrashMachine = record { unit = c.self.inside.unit; core = c.self.inside.core; files = c.self.inside.files; logs = c.self.inside.logs.items; is_lost = c.self.inside.is_lost; is_folded = c.self.inside.is_folded } in
    let choices : List (List ℕ) = map (λ b. b.items) c.args.choices.now in
    let images : List (List ℕ) = map (λ b. b.items) c.deref-2.result.now in
    let are : AreImages m.logs choices images = subst (λ vs. AreImages m.logs choices (map (λ b. b.items) vs)) (sym c.deref-2.ensures.value) (subst (λ ls. AreImages ls choices (map (λ b. b.items) c.in_ok-left.left.items)) c.deref.ensures.value c.in_ok-left.ensures.images) in
    rw (← c.self.view_is)
    (crash_result_fits c.on_in-next.result m c.setup.result choices images c.self.invariant.0 c.setup.ensures.value c.on_in-next.ensures.setup c.on_in-next.ensures.unit c.on_in-next.ensures.fits are)

pub returns-clause-chosen : goal.returns-clause-chosen
returns-clause-chosen g c =
    let m : CrashMachine = record { unit = c.self.inside.unit; core = c.self.inside.core; files = c.self.inside.files; logs = c.self.inside.logs.items; is_lost = c.self.inside.is_lost; is_folded = c.self.inside.is_folded } in
    let choices : List (List ℕ) = map (λ b. b.items) c.args.choices.now in
    let images : List (List ℕ) = map (λ b. b.items) c.deref-2.result.now in
    let are : AreImages m.logs choices images = subst (λ vs. AreImages m.logs choices (map (λ b. b.items) vs)) (sym c.deref-2.ensures.value) (subst (λ ls. AreImages ls choices (map (λ b. b.items) c.in_ok-left.left.items)) c.deref.ensures.value c.in_ok-left.ensures.images) in
    rw (← c.self.view_is)
    (λ whole. crash_result_chosen c.on_in-next.result m c.setup.result choices images whole c.setup.ensures.value c.on_in-next.ensures.fits are)

pub returns-clause-left : goal.returns-clause-left
returns-clause-left g c =
    let m : CrashMachine = record { unit = c.self.inside.unit; core = c.self.inside.core; files = c.self.inside.files; logs = c.self.inside.logs.items; is_lost = c.self.inside.is_lost; is_folded = c.self.inside.is_folded } in
    let choices : List (List ℕ) = map (λ b. b.items) c.args.choices.now in
    let images : List (List ℕ) = map (λ b. b.items) c.deref-2.result.now in
    let are : AreImages m.logs choices images = subst (λ vs. AreImages m.logs choices (map (λ b. b.items) vs)) (sym c.deref-2.ensures.value) (subst (λ ls. AreImages ls choices (map (λ b. b.items) c.in_ok-left.left.items)) c.deref.ensures.value c.in_ok-left.ensures.images) in
    rw (← c.self.view_is)
    (crash_result_left c.on_in-next.result m c.setup.result choices images (c.self.invariant.1 ∙ sym (ap (λ (g : Setup). g.files) c.setup.ensures.value)) c.on_in-next.ensures.fits are)

pub returns-in_err-left-clause-granted : goal.returns-in_err-left-clause-granted
returns-in_err-left-clause-granted g c = λ all. absurd (false≢true (c.in_err-left.ensures.granted all))
