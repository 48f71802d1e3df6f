-- Requests read the same whatever bytes they ended with.
use Rattle.std.proofs.Common.{◌≡◌, ℕ, ◌==◌, ℤ, Bool, not, ◌&&◌, ◌||◌, List, [], ◌∷◌, ◌++◌, map, refl, sym, ap}
use Rattle.std.specs.List.{list_any}
use Rattle.uring_effect_points.proofs.Common.{Ending, Requests, entry_of, is_running, map-append, no_bytes}
use Rattle.uring_entry.specs.Success.{is_success}
use Rattle.uring_laws.proofs.AlikeRequests as alike
use Rattle.uring_laws.proofs.AlikeRequests.{ReadSame}

abbrev pub blank_end : Ending → Ending
blank_end e = record e { bytes = no_bytes }

abbrev pub blank_requests : Requests → Requests
blank_requests r = record r { ended = map blank_end r.ended }

pub ends_same : (es : List Ending) (n : ℕ) (res : ℤ) (bytes : List ℕ)
    → map blank_end es ++ record { number = n; res = res; bytes = no_bytes } ∷ [] ≡ map blank_end (es ++ record { number = n; res = res; bytes = bytes } ∷ [])
ends_same es n res bytes =
    sym (map-append blank_end es (record { number = n; res = res; bytes = bytes } ∷ []))

-- what asks for numbers and results alone finds the same
any_blank : (p : ℕ → ℤ → Bool) (es : List Ending)
    → list_any (λ x. p x.number x.res) (map blank_end es) ≡ list_any (λ x. p x.number x.res) es
any_blank p [] = refl
any_blank p (e ∷ es) = ap (λ b. p e.number e.res || b) (any_blank p es)

pub blank_same : (r : Requests) → ReadSame r r.started r.cancelled (map blank_end r.ended)
blank_same r = record {
  started = λ n. refl;
  cancelled = λ n. refl;
  ended = λ n. any_blank (λ m res. m == n) r.ended;
  failed = λ n. any_blank (λ m res. (m == n) && not (is_success (entry_of r n) res)) r.ended;
}

pub running_same : (r : Requests) (n : ℕ) → is_running (blank_requests r) n ≡ is_running r n
running_same r n = alike.running_same r r.started r.cancelled (map blank_end r.ended) (blank_same r) n
