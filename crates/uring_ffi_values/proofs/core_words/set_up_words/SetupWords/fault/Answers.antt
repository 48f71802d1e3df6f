use Rattle.std.proofs.Common.{ℕ, Option, Bool, false, subst, refl}
use Rattle.uring_entry.specs.Setup.{Setup, IsSetupFor}
use Rattle.uring_ffi_values.proofs.core_words.set_up_words.SetupWords.fault.Goals as goal

-- a set-up whose calls go on, by the manual pages' rules
plain : (sq : ℕ) (cq : Option ℕ) (files start : ℕ) (s : Setup) → IsSetupFor sq cq files start s
    → IsSetupFor sq cq files start (record s { stops = false; linux = false })
plain sq cq files start s h =
    let P : Bool → Bool → Type 0 = λ b d. IsSetupFor sq cq files start (record s { stops = b; linux = d }) in
    subst (P false) h.manual (subst (λ b. P b s.linux) h.goes_on h)

pub returns-in-Ok-clause-refused : goal.returns-in-Ok-clause-refused
returns-in-Ok-clause-refused c = λ refused.
    refused (record c.in-Ok.field-0 { stops = c.args.self.now.stops; linux = c.args.self.now.linux }) (plain _ _ _ _ c.in-Ok.field-0 (rw (← c.asked_cq.ensures) c.in-Ok.ensures.ok), refl, refl)
