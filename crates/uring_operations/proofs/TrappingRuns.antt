-- The law that an open which isn't trapped changes nothing.
use Rattle.std.proofs.Common.{◌≡◌, ℕ, Bool, true, false, not, ◌&&◌, ◌==◌, if◌then◌else◌, refl, ap, sym, ◌∙◌}
use Rattle.std.specs.Int.Bits.{bit_and, and_zero_l}
use Rattle.std.proofs.lemmas.Nat.{and_assoc}
use Rattle.std.proofs.lemmas.Bool.{eqb-true, false≢true}
use Rattle.uring_operations.specs.declared.files.logging.LoggedOpen.TheVariants.{Plain, Names, Nameless, Cuts}
use Rattle.uring_operations.specs.Entries.Clocks.{has_some}
use Rattle.uring_operations.specs.Files.LoggedCalls.{TrapsWhatChanges}

zero_by : (x : ℕ) → (t : Bool) → (x == 0) ≡ t → not t ≡ false → x ≡ 0
zero_by x true is none = eqb-true x 0 is
zero_by x false is none = absurd (false≢true (sym none))

has_none : (flags bits : ℕ) → has_some flags bits ≡ false → bit_and flags bits ≡ 0
has_none flags bits none = zero_by (bit_and flags bits) (bit_and flags bits == 0) refl none

-- flags that have none of some bits have none of fewer
none_of : (flags all bits : ℕ) → bit_and flags all ≡ 0 → bit_and all bits ≡ bits → bit_and flags bits ≡ 0
none_of flags all bits none part =
    ap (bit_and flags) (sym part) ∙ sym (and_assoc bits flags all) ∙ ap (λ x. bit_and x bits) none ∙ and_zero_l bits

some_of : (flags bits : ℕ) → bit_and flags bits ≡ 0 → has_some flags bits ≡ false
some_of flags bits none = ap (λ x. not (x == 0)) none

nameless_by : (flags : ℕ) → bit_and flags 4194304 ≡ 0 → (t : Bool)
    → (bit_and flags 4259840 == 4259840) ≡ t → (bit_and flags 4259840 == 4259840) ≡ false
nameless_by flags none false is = is
nameless_by flags none true is =
    let bit : 4194304 ≡ 0 = ap (λ x. bit_and x 4194304) (sym (eqb-true (bit_and flags 4259840) 4259840 is)) ∙ and_assoc 4194304 flags 4259840 ∙ none in
    absurd (false≢true (ap (λ x. x == 0) bit))

plain_by : (path nameless there makes cuts regular fails : Bool)
    → nameless ≡ false → makes ≡ false → cuts ≡ false
    → (if path then Plain else if nameless then Nameless else
    if not there then (if makes then Names else Plain) else
    if cuts && regular && fails then Cuts else Plain) ≡ Plain
plain_by true nameless there makes cuts regular fails n m c = refl
plain_by false true there makes cuts regular fails n m c = absurd (false≢true (sym n))
plain_by false false there true cuts regular fails n m c = absurd (false≢true (sym m))
plain_by false false there false true regular fails n m c = absurd (false≢true (sym c))
plain_by false false true false false regular fails n m c = refl
plain_by false false false false false regular fails n m c = refl

pub traps_what_changes : TrapsWhatChanges
traps_what_changes flags is_there is_regular none =
    let has = has_none flags 4194880 none in
    plain_by (has_some flags 2097152) (bit_and flags 4259840 == 4259840) is_there (has_some flags 64)
    (has_some flags 512) is_regular (not (bit_and flags 192 == 192))
    (nameless_by flags (none_of flags 4194880 4194304 has refl) _ refl)
    (some_of flags 64 (none_of flags 4194880 64 has refl))
    (some_of flags 512 (none_of flags 4194880 512 has refl))
