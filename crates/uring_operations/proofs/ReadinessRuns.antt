-- The laws of what is asked before a request is finished.
use Rattle.std.proofs.Common.{◌≡◌, Bool, true, false, not, ◌&&◌, ◌||◌, if◌then◌else◌, refl, sym, ap, ◌∙◌}
use Rattle.std.proofs.lemmas.Bool.{true≢false}
use Rattle.uring_operations.specs.declared.requests.ready.Moment.{Moment}
use Rattle.uring_operations.specs.declared.requests.ready.Wanted.{Wanted}
use Rattle.uring_operations.specs.declared.requests.ready.Wanted.TheVariants.{Count, Posting, Buffer, Readiness}
use Rattle.uring_operations.specs.declared.requests.ready.Look.{Look}
use Rattle.uring_operations.specs.declared.requests.ready.Look.TheVariants.{Asks, Waits, Finishes}
use Rattle.uring_operations.specs.Requests.Readiness.{was_asked, told, LooksOnce, NeedsNoLook}

-- whether what is asked, if anything is, wasn't asked before: `kc`, `kp`, `kb` and `kr` say what was
abbrev is_fresh : Bool → Bool → Bool → Bool → Look → Bool
is_fresh kc kp kb kr (Asks Count) = not kc
is_fresh kc kp kb kr (Asks Posting) = not kp
is_fresh kc kp kb kr (Asks Buffer) = not kb
is_fresh kc kp kb kr (Asks Readiness) = not kr
is_fresh kc kp kb kr Waits = true
is_fresh kc kp kb kr Finishes = true

told_is_fresh : (kc kp kb kr b : Bool) → is_fresh kc kp kb kr (told b) ≡ true
told_is_fresh kc kp kb kr true = refl
told_is_fresh kc kp kb kr false = refl

readiness : (kc kp kb kr r : Bool) → is_fresh kc kp kb kr (if not kr then Asks Readiness else told r) ≡ true
readiness kc kp kb false r = refl
readiness kc kp kb true r = told_is_fresh kc kp kb true r

descriptor : (kc kp kb kr selects found b r : Bool)
    → is_fresh kc kp kb kr (if selects && not found && not kb then Asks Buffer else if selects && not found && not b then Finishes else if not kr then Asks Readiness else told r) ≡ true
descriptor kc kp kb kr false found b r = readiness kc kp kb kr r
descriptor kc kp kb kr true true b r = readiness kc kp kb kr r
descriptor kc kp false kr true false b r = refl
descriptor kc kp true kr true false false r = refl
descriptor kc kp true kr true false true r = readiness kc kp true kr r

posting : (kc kp kb kr g p stream selects found b r : Bool)
    → is_fresh kc kp kb kr (if g && not kp then Asks Posting else if g && not p then Waits else if stream then (if selects && not found && not kb then Asks Buffer else if selects && not found && not b then Finishes else if not kr then Asks Readiness else told r) else Finishes) ≡ true
posting kc false kb kr true p stream selects found b r = refl
posting kc true kb kr true false stream selects found b r = refl
posting kc true kb kr true true true selects found b r = descriptor kc true kb kr selects found b r
posting kc true kb kr true true false selects found b r = refl
posting kc kp kb kr false p true selects found b r = descriptor kc kp kb kr selects found b r
posting kc kp kb kr false p false selects found b r = refl

all : (kc kp kb kr w k t c g p stream selects found b r : Bool)
    → is_fresh kc kp kb kr (if k then Finishes else if w then Waits else if t then (if kc then told c else Asks Count) else if g && not kp then Asks Posting else if g && not p then Waits else if stream then (if selects && not found && not kb then Asks Buffer else if selects && not found && not b then Finishes else if not kr then Asks Readiness else told r) else Finishes) ≡ true
all kc kp kb kr w true t c g p stream selects found b r = refl
all kc kp kb kr true false t c g p stream selects found b r = refl
all false kp kb kr false false true c g p stream selects found b r = refl
all true kp kb kr false false true c g p stream selects found b r = told_is_fresh true kp kb kr c
all kc kp kb kr false false false c g p stream selects found b r = posting kc kp kb kr g p stream selects found b r

not_asked : (b : Bool) → not b ≡ true → b ≡ false
not_asked false is = refl
not_asked true is = absurd (true≢false (sym is))

fresh_one : (known : Moment) (wanted : Wanted) → is_fresh known.knows_count known.knows_posting known.knows_buffer known.knows_readiness (Asks wanted) ≡ true
    → was_asked wanted known ≡ false
fresh_one known Count is = not_asked known.knows_count is
fresh_one known Posting is = not_asked known.knows_posting is
fresh_one known Buffer is = not_asked known.knows_buffer is
fresh_one known Readiness is = not_asked known.knows_readiness is

pub looks_once : LooksOnce
looks_once s n has_to_wait is_cancelled known wanted is =
    fresh_one known wanted
    (ap (is_fresh known.knows_count known.knows_posting known.knows_buffer known.knows_readiness) (sym is)
    ∙ all known.knows_count known.knows_posting known.knows_buffer known.knows_readiness has_to_wait is_cancelled n.is_timeout known.has_counted n.goes_on known.may_post s.is_stream n.selects s.has_found_buffer known.has_buffer known.is_ready)

unready : (k w t second selects found stream c g p b : Bool)
    → (if k then false else if t then false else if second then false else if selects && not found then false else stream) ≡ true
    → (if k then true else if w then false else if t then c else if g && not p then false else if stream then (selects && not found && not b || false) else true) ≡ false
unready true w t second selects found stream c g p b is = absurd (true≢false (sym is))
unready false w true second selects found stream c g p b is = absurd (true≢false (sym is))
unready false w false true selects found stream c g p b is = absurd (true≢false (sym is))
unready false w false false true false stream c g p b is = absurd (true≢false (sym is))
unready false w false false selects found false c g p b is = absurd (true≢false (sym is))
unready false true false false selects found true c g p b is = refl
unready false false false false selects found true c true false b is = refl
unready false false false false false found true c true true b is = refl
unready false false false false false found true c false p b is = refl
unready false false false false true true true c true true b is = refl
unready false false false false true true true c false p b is = refl

pub needs_no_look : NeedsNoLook
needs_no_look s n has_to_wait is_cancelled m is =
    unready is_cancelled has_to_wait n.is_timeout n.needs_second n.selects s.has_found_buffer s.is_stream m.has_counted n.goes_on m.may_post m.has_buffer is
