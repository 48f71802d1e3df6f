use Rattle.std.proofs.Common.{[], refl, sym, subst}
use Rattle.uring_ffi_values.proofs.Common.{Fits, IsAskedFor, Machine, Setup, false≢true}
use Rattle.uring_ffi_values.proofs.Exits.{apart, at_some, room_for_one}
use Rattle.uring_ffi_values.proofs.machines.machine_memory.machine_new_in.Goals as goal

pub returns-in_default : goal.returns-in_default
returns-in_default g c = record { refused = (λ _. c.in_default.ensures, λ _. refl); results = λ _ refused. absurd (refused refl); kept = λ _. refl; made = apart _ _ refl; granted = λ n has enough. apart _ _ refl }

pub returns-in_default-new_in : goal.returns-in_default-new_in
returns-in_default-new_in g c =
    let asked = c.in-Some.ensures in
    record { refused = (apart _ _ refl, λ refused. absurd (refused _ asked)); results = λ _ _. refl; kept = λ _. refl; made = apart _ _ refl; granted = λ n has enough _. false≢true (c.in_default-new_in.ensures.granted n has (enough _ asked).0 (enough _ asked).1 (enough _ asked).2) }

pub returns-in_default-boxed : goal.returns-in_default-boxed
returns-in_default-boxed g c =
    let asked = c.in-Some.ensures in
    record { refused = (apart _ _ refl, λ refused. absurd (refused _ asked)); results = λ _ _. refl; kept = λ _. refl; made = apart _ _ refl; granted = λ n has enough _. false≢true (c.in_default-boxed.ensures.granted n has (room_for_one _ _ _ asked enough)) }

pub returns : goal.returns
returns g c =
    let asked = c.in-Some.ensures in
    let P : Machine → Type 0 = λ made. IsAskedFor c.args.setup.now made.core.setup × Fits made [] in
    record { refused = (apart _ _ refl, λ refused. absurd (refused _ asked)); results = λ done. absurd (done refl); kept = λ done. absurd (done refl); made = λ _. at_some P _ _ c.put.ensures (subst P (sym c.in-Ok-boxed.ensures.value) (subst (λ (s : Setup). IsAskedFor c.args.setup.now s) (sym c.in-Ok.ensures.setup) asked, c.in-Ok.ensures.fits)); granted = λ n has enough. apart _ _ refl }
