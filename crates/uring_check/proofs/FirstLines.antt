-- What a checker makes of the first line, and of those after it.
use Rattle.std.proofs.Common.{◌≡◌, ℕ, Bool, true, false, List, [], ◌∷◌, ◌++◌, Option, Some, None, refl, sym, ap, ◌∙◌, arith}
use Rattle.uring_check.proofs.Common.{Checker, Ends, FitsBy, Follower, Found, IsSaid, IsTold, Looks, LooksBy, LooksIf, Rules, Setup, append-nil, closing, lines_of, missed_text, rules_of, string_bytes}
use Rattle.uring_check.specs.declared.setup_line.Said.TheVariants.{Nothing, Says, Misses}
use Rattle.uring_check.specs.declared.verdict.Verdict.TheVariants as verdict

-- what a step over one line makes of a checker that looks by rules, and of one that is over
abbrev pub Goes : List ℕ → Checker → Checker → Type 0
Goes text old new = (g : Rules) (all : Bool) (lines : List (List ℕ)) → LooksBy g all lines old
    → LooksBy g all (text ∷ lines) new × (new.awaits ≡ old.awaits)

abbrev pub Rests : Checker → Checker → Type 0
Rests old new = old.is_over ≡ true
    → (new.is_over ≡ true) × (new.verdict ≡ old.verdict) × (new.report ≡ old.report) × (new.awaits ≡ old.awaits)

looks_on : (rules : Option Rules) (all : Bool) (lines : List (List ℕ)) (text : List ℕ) (old new : Checker)
    → Goes text old new → Rests old new → LooksIf rules all lines old
    → LooksIf rules all (text ∷ lines) new × (new.awaits ≡ old.awaits)
looks_on (Some g) all lines text old new goes rests l = goes g all lines l
looks_on None all lines text old new goes rests l = grind (arith, (rests l.0))

-- a line before which no set-up is awaited
pub took_next : (d : Rules) (all : Bool) (lines : List (List ℕ)) (text : List ℕ) (old new : Checker)
    → old.awaits ≡ false → Goes text old new → Rests old new → Looks d all lines old
    → Looks d all (text ∷ lines) new
took_next d all lines text old new late goes rests k =
    let on = looks_on k.rules all lines text old new goes rests k.looked in
    grind (arith, on, (sym k.awaits ∙ late), (k.ruled))

-- ---- the first line

-- where the first line is awaited, none was taken in yet
at_first : (d : Rules) (all : Bool) (lines : List (List ℕ)) (text : List ℕ) (old new : Checker)
    → old.awaits ≡ true → (LooksBy d all [] old → Looks d all (text ∷ []) new) → Looks d all lines old
    → Looks d all (text ∷ lines) new
at_first d all lines text old new waits made k = grind (arith, made, (k.ruled), (k.looked))

none_found : (found : List Found) → lines_of found ≡ [] → found ≡ []
none_found [] is = refl
none_found (x ∷ before) is = absurd cc

-- the checker's follower was put in the place of another, before the first line
fresh : (given g : Rules) (all : Bool) (old : Checker) (m : Follower) → LooksBy given all [] old
    → rules_of m ≡ g → FitsBy m [] → LooksBy g all [] (record old { follower = m; awaits = false })
fresh given g all old m l same fits = grind (arith, (none_found l.found l.lines_are))

-- a first line that says no set-up
pub took_first : (d : Rules) (all : Bool) (lines : List (List ℕ)) (text : List ℕ) (old new : Checker)
    → old.awaits ≡ true → IsSaid text Nothing → Goes text (record old { awaits = false }) new
    → Looks d all lines old → Looks d all (text ∷ lines) new
took_first d all lines text old new waits said goes = at_first d all lines text old new waits (λ l.
    let on = goes d all [] (fresh d d all old old.follower l l.same (rw (none_found l.found l.lines_are) at l.fits.0)) in
    record { rules = Some d; ruled = (Nothing, said, refl); looked = on.0; awaits = on.1 })

-- rules of this set-up
abbrev pub with_setup : Setup → Ends → Rules
with_setup s ends = record { setup = s; ends = ends }

-- a first line that says one
pub took_setup : (d : Rules) (all : Bool) (lines : List (List ℕ)) (text : List ℕ) (s : Setup) (old new : Checker) (m : Follower)
    → old.awaits ≡ true → IsSaid text (Says s)
    → rules_of m ≡ with_setup s (rules_of old.follower).ends → FitsBy m []
    → Goes text (record old { follower = m; awaits = false }) new → Looks d all lines old
    → Looks d all (text ∷ lines) new
took_setup d all lines text s old new m waits said rules fits goes = at_first d all lines text old new waits (λ l.
    let g : Rules = with_setup s d.ends in
    let on = goes g all [] (fresh d g all old m l (grind (arith, rules, (l.same))) fits) in
    record { rules = Some g; ruled = (Says s, said, refl); looked = on.0; awaits = on.1 })

-- a first line that is to say one and says none
pub took_missed : (d : Rules) (all : Bool) (lines : List (List ℕ)) (text : List ℕ) (old mid new : Checker)
    → old.awaits ≡ true → IsSaid text Misses → mid ≡ record old { awaits = false }
    → new ≡ record mid { verdict = verdict.Bad; is_over = true; report = new.report }
    → string_bytes new.report ≡ string_bytes mid.report ++ missed_text → Looks d all lines old
    → Looks d all (text ∷ lines) new
took_missed d all lines text old mid new waits said begun is told = at_first d all lines text old new waits (λ l.
    record {
      rules = None;
      ruled = (Misses, said, refl);
      looked = (ap (λ (c : Checker). c.is_over) is, ap (λ (c : Checker). c.verdict) is, grind (arith, told, begun, (l.told), (none_found l.found l.lines_are)));
      awaits = ap (λ (c : Checker). c.awaits) is ∙ ap (λ (c : Checker). c.awaits) begun;
    })

-- ---- the end

pub ends_told : (d : Rules) (all : Bool) (lines : List (List ℕ)) (c : Checker) (text : List ℕ)
    → text ≡ string_bytes c.report ++ closing c.verdict c.steps → Looks d all lines c
    → IsTold d all lines c.verdict text
ends_told d all lines c text is k = grind (arith, append-nil)
