use Rattle.std.proofs.Common.{[], refl, sym, subst}
use Rattle.uring_ffi_values.proofs.Common.{Core, FitsApart, IsAskedFor, IsRefused, Setup, SetupWords, false≢true, without_files}
use Rattle.uring_ffi_values.proofs.Exits.{apart, at_some, room_for_one}
use Rattle.uring_ffi_values.proofs.cores.core_memory.core_new_in.Goals as goal

pub returns-in_default : goal.returns-in_default
returns-in_default g c = record { refused = (λ _. subst IsRefused c.without_files.ensures c.in_default.ensures, λ _. refl); results = λ _ refused. absurd (refused refl); kept = λ _. refl; made = apart _ _ refl; granted = λ n has enough. apart _ _ refl }

pub returns-in_default-new_in : goal.returns-in_default-new_in
returns-in_default-new_in g c =
    let asked = subst (λ (w : SetupWords). IsAskedFor w c.in-Some.setup) c.without_files.ensures c.in-Some.ensures in
    record { refused = (apart _ _ refl, λ refused. absurd (refused _ asked)); results = λ _ _. refl; kept = λ _. refl; made = apart _ _ refl; granted = λ n has enough _. false≢true (c.in_default-new_in.ensures.granted n has (enough _ asked).0 (enough _ asked).1) }

pub returns-in_default-boxed : goal.returns-in_default-boxed
returns-in_default-boxed g c =
    let asked = subst (λ (w : SetupWords). IsAskedFor w c.in-Some.setup) c.without_files.ensures c.in-Some.ensures in
    record { refused = (apart _ _ refl, λ refused. absurd (refused _ asked)); results = λ _ _. refl; kept = λ _. refl; made = apart _ _ refl; granted = λ n has enough _. false≢true (c.in_default-boxed.ensures.granted n has (room_for_one _ _ _ asked enough)) }

pub returns : goal.returns
returns g c =
    let asked = subst (λ (w : SetupWords). IsAskedFor w c.in-Some.setup) c.without_files.ensures c.in-Some.ensures in
    let P : Core → Type 0 = λ made. IsAskedFor (without_files c.args.setup.now) made.setup × FitsApart made [] in
    record { refused = (apart _ _ refl, λ refused. absurd (refused _ asked)); results = λ done. absurd (done refl); kept = λ done. absurd (done refl); made = λ _. at_some P _ _ c.put.ensures (subst P (sym c.in-Ok-boxed.ensures.value) (subst (λ (s : Setup). IsAskedFor (without_files c.args.setup.now) s) (sym c.in-Ok.ensures.setup) asked, c.in-Ok.ensures.fits)); granted = λ n has enough. apart _ _ refl }
