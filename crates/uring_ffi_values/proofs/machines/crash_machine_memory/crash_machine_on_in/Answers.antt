use Rattle.std.proofs.Common.{rules, ◌≡◌, ℕ, map, neg_ℤ, pos, refl, sym, subst, ap, ◌∙◌, arith}
use Rattle.uring_ffi_values.proofs.Common.{AreShort, BeginsOn, ENOMEM, Global, Vec, cut, false≢true}
use Rattle.uring_ffi_values.proofs.Exits.{apart, at_some, begins, fits_itself, starts}
use Rattle.uring_ffi_values.proofs.Starts.{is_start}
use Rattle.uring_ffi_values.proofs.Cutting.{parts_many, parts_short}
use Rattle.uring_ffi_values.proofs.machines.crash_machine_memory.crash_machine_on_in.Goals as goal

pub on_in-requires-clause-few : goal.on_in-requires-clause-few
on_in-requires-clause-few g c =
    let is : map (λ (b : Vec ℕ Global). b.items) c.deref.result.now ≡ cut c.args.lens.now c.args.bytes.now = ap (map (λ (b : Vec ℕ Global). b.items)) c.deref.ensures.value ∙ c.in-Ok.ensures.parts in
    omega (arith, parts_many (λ (b : Vec ℕ Global). b.items) c.deref.result.now c.args.lens.now c.args.bytes.now is, c.in-Some.ensures.2)

pub on_in-requires-clause-short : goal.on_in-requires-clause-short
on_in-requires-clause-short g c = λ place.
    let is : map (λ (b : Vec ℕ Global). b.items) c.deref.result.now ≡ cut c.args.lens.now c.args.bytes.now = ap (map (λ (b : Vec ℕ Global). b.items)) c.deref.ensures.value ∙ c.in-Ok.ensures.parts in
    let short : AreShort c.args.lens.now = search rules in
    parts_short (λ (b : Vec ℕ Global). b.items) c.deref.result.now c.args.lens.now c.args.bytes.now is short place

pub returns-then-not-none_is_over-clause-refused : goal.returns-then-not-none_is_over-clause-refused
returns-then-not-none_is_over-clause-refused g c =
    (apart _ _ refl, λ none. absurd (is_start _ _ _ _ c.in-Some.ensures.0 c.in-Some.ensures.1 c.in-Some.ensures.2 none))

pub returns-in_default-cut : goal.returns-in_default-cut
returns-in_default-cut g c =
    let start = starts _ _ _ _ (neg_ℤ ENOMEM) c.in-Some.ensures (c.none_is_over.ensures.0 c.if-not-none_is_over.false) refl refl in
    record { refused = start.0; too_long = start.1; results = λ _ _ _. refl; kept = λ _. refl; made = apart _ _ refl; granted = λ all _. false≢true (c.in_default-cut.ensures.granted all) }

pub returns-in_default-on_in : goal.returns-in_default-on_in
returns-in_default-on_in g c =
    let start = starts _ _ _ _ (neg_ℤ ENOMEM) c.in-Some.ensures (c.none_is_over.ensures.0 c.if-not-none_is_over.false) refl refl in
    record { refused = start.0; too_long = start.1; results = λ _ _ _. refl; kept = λ _. refl; made = apart _ _ refl; granted = λ all _. false≢true (c.in_default-on_in.ensures.granted all) }

pub returns-in_default-boxed : goal.returns-in_default-boxed
returns-in_default-boxed g c =
    let start = starts _ _ _ _ (neg_ℤ ENOMEM) c.in-Some.ensures (c.none_is_over.ensures.0 c.if-not-none_is_over.false) refl refl in
    record { refused = start.0; too_long = start.1; results = λ _ _ _. refl; kept = λ _. refl; made = apart _ _ refl; granted = λ all _. false≢true (c.in_default-boxed.ensures.granted 1 (all 1) (fits_itself 1)) }

pub returns : goal.returns
returns g c =
    let start = starts _ _ _ _ (pos 0) c.in-Some.ensures (c.none_is_over.ensures.0 c.if-not-none_is_over.false) refl refl in
    record { refused = start.0; too_long = start.1; results = λ done. absurd (done refl); kept = λ done. absurd (done refl); made = λ _. at_some (BeginsOn c.args.setup.now c.args.unit (cut c.args.lens.now c.args.bytes.now)) _ _ c.put.ensures (subst (BeginsOn c.args.setup.now c.args.unit (cut c.args.lens.now c.args.bytes.now)) (sym c.in-Ok-boxed.ensures.value) (begins _ _ _ _ _ _ c.in-Some.ensures.0 c.in-Ok-on_in.ensures.setup c.in-Ok-on_in.ensures.unit c.in-Ok-on_in.ensures.ready c.in-Ok-on_in.ensures.unfolded (ap (map (λ (b : Vec ℕ Global). b.items)) c.deref.ensures.value ∙ c.in-Ok.ensures.parts) c.in-Ok-on_in.ensures.fits)); granted = λ _. apart _ _ refl }
