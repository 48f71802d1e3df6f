-- What holds of a result, by how the call ended.
use Rattle.std.proofs.Common.{◌≡◌, true, false, refl}
use Rattle.uring_volume.proofs.Common.{Err, IfOk, Ok, OnOk, Result, both_ways}
use Rattle.std.specs.Result.{is_err}

-- what holds if the call succeeded, when it did
pub not_err : {T E : Type 0} (r : Result T E) (P : Type 0) → is_err r ≡ false → OnOk r P → P
not_err (Ok x) P fine holds = holds
not_err (Err e) P fine holds = absurd (both_ways true fine refl)

-- what follows of the value
pub on_value : {T E : Type 0} (r : Result T E) (P Q : T → Type 0) → ((x : T) → P x → Q x)
    → IfOk r P → IfOk r Q
on_value (Ok x) P Q follows holds = follows x holds
on_value (Err e) P Q follows holds = tt
