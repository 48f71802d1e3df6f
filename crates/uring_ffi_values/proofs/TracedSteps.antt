-- The steps that are told of a submission call are those of the core's contract.
use Rattle.std.proofs.Common.{◌≡◌, ℕ, ◌+◌, List, [], ◌∷◌, ◌++◌, length, map, reverse, refl, ap, arith}
use Rattle.std.proofs.lemmas.Grind.{reverse_onto}
use Rattle.std.proofs.lemmas.List.{reverse-append}
use Rattle.uring_ffi_values.proofs.Common.{EntryWords, History, Setup, append_assoc}
use Rattle.uring_core.specs.WholeCalls.{after_head, after_fill, after_index, after_entries, after_published, after_begin, after_takes}
use Rattle.uring_core.specs.declared.step.Step.TheVariants as step
use Rattle.uring_ffi_values.specs.Traces.Traced.{put_steps, steps_of, NamesTheSteps}

-- those that put entries in
puts : (g : Setup) (slot : ℕ) (entries : List EntryWords) (h : History)
    → steps_of (after_entries g slot (map (λ e. e.words) entries) h) ≡ reverse (put_steps slot entries) ++ steps_of h
puts g slot [] h = refl
puts g slot (entry ∷ later) h =
    grind (arith, (puts g (slot + 1) later (after_index g slot (after_fill g slot entry.words h))), reverse_onto, append_assoc)

-- those that take as many positions
takes : (g : Setup) (entries : List EntryWords) (h : History)
    → steps_of (after_takes g (length entries) h) ≡ map (λ _. step.Take) entries ++ steps_of h
takes g [] h = refl
takes g (entry ∷ later) h = ap (λ xs. step.Take ∷ xs) (takes g later h)

-- a take after others is as one before them, and so they are the same in reverse
take_last : (entries : List EntryWords)
    → map (λ _. step.Take) entries ++ (step.Take ∷ []) ≡ step.Take ∷ map (λ _. step.Take) entries
take_last [] = refl
take_last (entry ∷ later) = ap (λ xs. step.Take ∷ xs) (take_last later)

takes_reversed : (entries : List EntryWords)
    → reverse (map (λ _. step.Take) entries) ≡ map (λ _. step.Take) entries
takes_reversed [] = refl
takes_reversed (entry ∷ later) = grind (arith, (takes_reversed later), (take_last later), reverse_onto)

pub names_the_steps : NamesTheSteps
names_the_steps g entries end h =
    let taken = takes g entries (after_begin g (length entries) (after_published g (map (λ e. e.words) entries) h)) in
    let put = puts g 0 entries (after_head g h) in
    grind (arith, taken, put, (takes_reversed entries), reverse_onto, reverse-append, append_assoc)
