-- What is read of a line's tokens is what they spell.
use Rattle.std.proofs.Common.{◌≡◌, ℕ, ◌^◌, ◌≤◌, Bool, true, false, cond, eqb, List, [], ◌∷◌, length, Option, Some, None, refl, sym, subst, ◌∙◌, arith}
use Rattle.uring_trace.proofs.Common.{Decides, IsBad, IsStep, MatchOption, Spells, Step, bytes_eq-Decides, codes, eqb-true, name_of, nil_from_length}
use Rattle.std.specs.Bool.{MatchBool}
use Rattle.std.specs.Str.{bytes_eq}
use Rattle.std.proofs.lemmas.Option.{same_Some}
use Rattle.uring_core.specs.declared.step.Step.TheVariants as step
use Rattle.uring_text.specs.Tokens.{tokens_of}
use Rattle.uring_text.specs.Forms.{Form}
use Rattle.uring_text.specs.Reading.{number_of, form_of}
use Rattle.uring_trace.specs.Reading.{ReadsStep, ReadsFill, step_named, alone, numbered, step_of_one, step_of_two}
use Rattle.uring_text.proofs.Options.{bind_some}
use Rattle.uring_text.proofs.NumberLaws.{number_found, number_again}
use Rattle.uring_text.proofs.FormLaws.{form_found, form_again}
use Rattle.uring_text.proofs.EntryLaws.{entry_once}

-- the name
name_found : (name : List ℕ) (t : Step) → step_named name ≡ Some t → name ≡ name_of t
unfolding step_named
name_found name t e = grind (arith, bytes_eq-Decides)

-- one token
alone_found : (t s : Step) → alone t ≡ Some s → Spells (name_of t ∷ []) s
alone_found t s e = grind arith

one_found : (name : List ℕ) (s : Step) → step_of_one name ≡ Some s → Spells (name ∷ []) s
one_found name s e =
    let t = bind_some (step_named name) alone s e in
    subst (λ (n : List ℕ). Spells (n ∷ []) s) (sym (name_found name t.0 t.1)) (alone_found t.0 s t.2)

-- a name and a number
numbered_found : (token : List ℕ) (t s : Step) → numbered token t ≡ Some s
    → Spells (name_of t ∷ token ∷ []) s
numbered_found token t s e = grind (arith, number_found)

two_found : (name token : List ℕ) (s : Step) → step_of_two name token ≡ Some s
    → Spells (name ∷ token ∷ []) s
two_found name token s e =
    let t = bind_some (step_named name) (numbered token) s e in
    subst (λ (n : List ℕ). Spells (n ∷ token ∷ []) s) (sym (name_found name t.0 t.1)) (numbered_found token t.0 s t.2)

-- a fill
fill_found : (token : List ℕ) (rest : List (List ℕ)) (s : Step) (o : Option ℕ) (f : Option Form)
    → number_of (2 ^ 32) token ≡ o → form_of rest ≡ f → ReadsFill (Some s) o f
    → Spells (codes "fill" ∷ token ∷ rest) s
fill_found token rest s (Some slot) (Some f) n r e =
    let number = number_found (2 ^ 32) token slot (omega arith) n in
    let filled : Spells (codes "fill" ∷ token ∷ rest) (step.Fill slot e.0) =
    (rest, rw number.0, number.1, record { form = f; spells = form_found rest f r; is_entry = e.2 }) in
    rw (same_Some s (step.Fill slot e.0) e.1) filled
fill_found token rest s _ _ n r e = absurd cc

some_of_more : (name token : List ℕ) (rest : List (List ℕ)) (s : Step) (b : Bool)
    → bytes_eq name (codes "fill") ≡ b
    → MatchBool b (ReadsFill (Some s) (number_of (2 ^ 32) token) (form_of rest)) (Some s ≡ cond (eqb (length rest) 0) (step_of_two name token) None)
    → Spells (name ∷ token ∷ rest) s
some_of_more name token rest s b is e = grind (arith, bytes_eq-Decides, fill_found, nil_from_length, eqb-true, two_found)

step_found : (tokens : List (List ℕ)) (s : Step) → ReadsStep (Some s) tokens → Spells tokens s
step_found tokens s e = grind (arith, one_found, some_of_more)

-- ---- what is spelled is read

step_again : (tokens : List (List ℕ)) (s : Step) → Spells tokens s → ReadsStep (Some s) tokens
unfolding step_named
step_again tokens (step.Fill slot entry) h =
    rw (h.1, number_again (2 ^ 32) slot (omega arith) h.2, form_again h.0 h.3.form h.3.spells) (entry, refl, h.3.is_entry)
step_again tokens (step.Index n) h = rw (h.0, number_again (2 ^ 32) n (omega arith) h.1)
step_again tokens (step.Begin n) h = rw (h.0, number_again (2 ^ 32) n (omega arith) h.1)
step_again tokens (step.Issue n) h = rw (h.0, number_again (2 ^ 64) n (omega arith) h.1)
step_again tokens (step.Finish n) h = rw (h.0, number_again (2 ^ 64) n (omega arith) h.1)
step_again tokens s h = rw h refl

-- ---- tokens are read in one way

no_more : (b : Bool) (o : Option ℕ) (f : Option Form) (other : Option Step) (s : Step)
    → MatchBool b (ReadsFill None o f) (None ≡ other)
    → MatchBool b (ReadsFill (Some s) o f) (Some s ≡ other) → ⊥
no_more b o f other s r q = grind arith

none_and_step : (tokens : List (List ℕ)) (s : Step) → ReadsStep None tokens
    → ReadsStep (Some s) tokens → ⊥
none_and_step tokens s r q = grind (arith, no_more)

fill_once : (o : Option ℕ) (f : Option Form) (s t : Step) → ReadsFill (Some s) o f
    → ReadsFill (Some t) o f → s ≡ t
fill_once o f s t r q = grind (arith, entry_once)

more_once : (b : Bool) (o : Option ℕ) (f : Option Form) (other : Option Step) (s t : Step)
    → MatchBool b (ReadsFill (Some s) o f) (Some s ≡ other)
    → MatchBool b (ReadsFill (Some t) o f) (Some t ≡ other) → s ≡ t
more_once true o f other s t r q = fill_once o f s t r q
more_once false o f other s t r q = same_Some s t (r ∙ sym q)

read_once : (tokens : List (List ℕ)) (s t : Step) → ReadsStep (Some s) tokens
    → ReadsStep (Some t) tokens → s ≡ t
read_once [] s t r q = absurd cc
read_once (name ∷ []) s t r q = same_Some s t (r ∙ sym q)
read_once (name ∷ token ∷ rest) s t r q = more_once (bytes_eq name (codes "fill")) (number_of (2 ^ 32) token) (form_of rest) (cond (eqb (length rest) 0) (step_of_two name token) None) s t r q

-- a line is one step at most
pub step_once : (line : List ℕ) (s t : Step) → IsStep line s → IsStep line t → s ≡ t
step_once line s t h k = read_once (tokens_of line) s t (step_again (tokens_of line) s h.spells) (step_again (tokens_of line) t k.spells)

-- what a line is read as
pub read_line : (line : List ℕ) (read : Option Step) → length line ≤ 300
    → ReadsStep read (tokens_of line) → MatchOption read (IsBad line) (IsStep line)
read_line line read le e = grind (arith, none_and_step, step_again, step_found)

-- ---- whether a line is a step

pub spells_read : (line : List ℕ) (read s : Step) (same : Bool) → IsStep line read
    → Decides same (read ≡ s) → Decides same (IsStep line s)
spells_read line read s same is decides = grind (arith, step_once)
