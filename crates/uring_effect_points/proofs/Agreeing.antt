-- What is known of the bytes of ends agrees with what was posted.
use Rattle.std.proofs.Common.{◌≡◌, ℕ, ◌==◌, Bool, List, [], ◌∷◌, ◌++◌, length, map, Option, Some, None, if◌then◌else◌, refl, sym, ap, subst, ◌∙◌, append-nil, append_assoc, arith}
use Rattle.uring_effect_points.proofs.Common.{Answer, Cqe, Ending, Event, History, IsLawfulApart, MeetsBytes, Setup, Step, World, bytes_at, bytes_of, bytes_reaped, bytes_told, end_told_by, entry_of, known_by, le-ltb, length-append, length-map, map-append, option_map, posts, same_Some, slice_get, slice_get-map, sound_of, with_end_of, world}
use Rattle.uring_entry.specs.Completions.{Completions, completion_for, next_to_reap, with_posted}
use Rattle.uring_core.proofs.CompletionMoves.{CompletionMove, stays, ends, reaps, completion_move}
use Rattle.uring_laws.proofs.RingLaws.{begin_posted}
use Rattle.uring_effect_points.proofs.Timelines.{lawful_below, onto}

-- ---- lists

abbrev pub payloads : List Cqe → List (List ℕ)
payloads cs = map (λ c. c.payload) cs

-- what is known at a place is what stands there, as far as both lists go
abbrev pub Agree : List (List ℕ) → List (List ℕ) → Type 0
Agree [] ps = Unit {0}
Agree (x ∷ known) [] = Unit {0}
Agree (x ∷ known) (p ∷ ps) = (x ≡ p) × Agree known ps

pub agree_none : (known : List (List ℕ)) → Agree known []
agree_none [] = tt
agree_none (x ∷ known) = tt

agree_push : (known ps : List (List ℕ)) (b : List ℕ) → Agree known ps → MeetsBytes (slice_get known (length ps)) b
    → Agree known (ps ++ b ∷ [])
agree_push [] ps b agree meets = tt
agree_push (x ∷ known) [] b agree meets = (meets, agree_none known)
agree_push (x ∷ known) (p ∷ ps) b agree meets = (agree.0, agree_push known ps b agree.1 meets)

agree_last : (known ps : List (List ℕ)) (b : List ℕ) → Agree known (ps ++ b ∷ [])
    → MeetsBytes (slice_get known (length ps)) b
agree_last [] ps b agree = tt
agree_last (x ∷ known) [] b agree = agree.0
agree_last (x ∷ known) (p ∷ ps) b agree = agree_last known ps b agree.1

agree_first : (known ps more : List (List ℕ)) → Agree known (ps ++ more) → Agree known ps
agree_first [] ps more agree = tt
agree_first (x ∷ known) [] more agree = tt
agree_first (x ∷ known) (p ∷ ps) more agree = (agree.0, agree_first known ps more agree.1)

agree_same : (known more : List (List ℕ)) → Agree known (known ++ more)
agree_same [] more = tt
agree_same (x ∷ known) more = (refl, agree_same known more)

agree_place : (before : List (List ℕ)) (x : List ℕ) (later ps : List (List ℕ)) (b : List ℕ)
    → Agree (before ++ x ∷ later) ps → slice_get ps (length before) ≡ Some b → x ≡ b
agree_place [] x later [] b agree there = absurd cc
agree_place [] x later (p ∷ ps) b agree there = agree.0 ∙ same_Some p b there
agree_place (y ∷ before) x later [] b agree there = absurd cc
agree_place (y ∷ before) x later (p ∷ ps) b agree there = agree_place before x later ps b agree.1 there

-- ---- what is posted

-- what is known of an end is what it gives
abbrev pub EndMeets : Option (List ℕ) → Option Ending → Type 0
EndMeets known None = Unit {0}
EndMeets known (Some e) = MeetsBytes known e.bytes

abbrev pub posted_bytes : Setup → History → List (List ℕ)
posted_bytes g h = payloads (world g h).completions.posted

grown : (posted : List Cqe) (c : Cqe) → payloads (posted ++ c ∷ []) ≡ payloads posted ++ c.payload ∷ []
grown posted c = map-append (λ (d : Cqe). d.payload) posted (c ∷ [])

at_next : (known : List (List ℕ)) (posted : List Cqe) (c : Cqe)
    → bytes_at known (length posted) (length (posted ++ c ∷ [])) ≡ slice_get known (length (payloads posted))
at_next known posted c = grind (arith, length-append, length-map)

at_same : (known : List (List ℕ)) (n : ℕ) → bytes_at known n n ≡ None
at_same known n = ap (λ (b : Bool). if b then slice_get known n else None) (le-ltb n n (omega arith))

end_agrees : (known : List (List ℕ)) (size : ℕ) (l : Completions) (c : Cqe) (posts : Bool) → Agree known (payloads l.posted)
    → MeetsBytes (bytes_at known (length l.posted) (length (if posts then with_posted size l c else l).posted)) c.payload
    → Agree known (payloads (if posts then with_posted size l c else l).posted)
end_agrees known size l c posts agree meets = grind (arith, grown, agree_push, at_next)

end_met : (known : List (List ℕ)) (size : ℕ) (l : Completions) (c : Cqe) (posts : Bool)
    → Agree known (payloads (if posts then with_posted size l c else l).posted)
    → MeetsBytes (bytes_at known (length l.posted) (length (if posts then with_posted size l c else l).posted)) c.payload × Agree known (payloads l.posted)
end_met known size l c posts agree = grind (arith, at_same, grown, at_next, agree_last, agree_first)

agrees_by : (known : List (List ℕ)) (g : Setup) (w : World) (s : Step) (a : Answer) (v : World) → CompletionMove g w s a v
    → Agree known (payloads w.completions.posted)
    → EndMeets (bytes_at known (length w.completions.posted) (length v.completions.posted)) (end_told_by (s, a))
    → Agree known (payloads v.completions.posted)
agrees_by known g w s a v (ends _ _ n res bytes r off is same one) agree meets =
    end_agrees known g.cq w.completions (completion_for (entry_of w.requests n) res bytes) (posts g.linux w.requests n res) agree (subst (EndMeets (bytes_at known (length w.completions.posted) (length (with_end_of g w n res bytes).posted))) is meets)
agrees_by known g w s a v _ agree meets = agree

met_by : (known : List (List ℕ)) (g : Setup) (w : World) (s : Step) (a : Answer) (v : World) → CompletionMove g w s a v
    → Agree known (payloads v.completions.posted)
    → EndMeets (bytes_at known (length w.completions.posted) (length v.completions.posted)) (end_told_by (s, a)) × Agree known (payloads w.completions.posted)
met_by known g w s a v (stays _ _ l r is_closed off none left) agree = (subst (EndMeets _) (sym none) tt, agree)
met_by known g w s a v (ends _ _ n res bytes r off is same one) agree =
    let met = end_met known g.cq w.completions (completion_for (entry_of w.requests n) res bytes) (posts g.linux w.requests n res) agree in
    (subst (EndMeets (bytes_at known (length w.completions.posted) (length (with_end_of g w n res bytes).posted))) (sym is) met.0, met.1)
met_by known g w s a v _ agree = (tt, agree)

pub agree_after : (g : Setup) (known : List (List ℕ)) (s : Step) (a : Answer) (h : History) → IsLawfulApart g ((s, a) ∷ h)
    → Agree known (posted_bytes g h) → EndMeets (known_by g known h (s, a)) (end_told_by (s, a))
    → Agree known (posted_bytes g ((s, a) ∷ h))
agree_after g known s a h lawful agree meets = grind (arith, (completion_move g s a h lawful), agrees_by)

pub met_after : (g : Setup) (known : List (List ℕ)) (s : Step) (a : Answer) (h : History) → IsLawfulApart g ((s, a) ∷ h)
    → Agree known (posted_bytes g ((s, a) ∷ h))
    → EndMeets (known_by g known h (s, a)) (end_told_by (s, a)) × Agree known (posted_bytes g h)
met_after g known s a h lawful agree =
    met_by known g (world g h) s a (world g ((s, a) ∷ h)) (completion_move g s a h lawful) agree

-- ---- what is reaped

end_reaps : (size : ℕ) (l : Completions) (c : Cqe) (posts : Bool)
    → (if posts then with_posted size l c else l).reaped ≡ l.reaped
end_reaps size l c posts = grind arith

reaped_by_move : (g : Setup) (w : World) (s : Step) (a : Answer) (v : World) → CompletionMove g w s a v
    → payloads v.completions.reaped ≡ payloads w.completions.reaped ++ bytes_reaped (s, a)
reaped_by_move g w s a v (stays _ _ l r is_closed off none left) =
    sym (append-nil (payloads w.completions.reaped)) ∙ ap (λ (o : Option Cqe). payloads w.completions.reaped ++ bytes_of o) (sym off.reaps)
reaped_by_move g w s a v (ends _ _ n res bytes r off is same one) =
    ap payloads (end_reaps g.cq w.completions (completion_for (entry_of w.requests n) res bytes) (posts g.linux w.requests n res))
    ∙ sym (append-nil (payloads w.completions.reaped)) ∙ ap (λ (o : Option Cqe). payloads w.completions.reaped ++ bytes_of o) (sym off.reaps)
reaped_by_move g w s a v (reaps completion next) = grown w.completions.reaped completion
reaped_by_move g w s a v _ = sym (append-nil (payloads w.completions.reaped))

pub reaped_after : (g : Setup) (s : Step) (a : Answer) (h : History) → IsLawfulApart g ((s, a) ∷ h)
    → payloads (world g ((s, a) ∷ h)).completions.reaped ≡ payloads (world g h).completions.reaped ++ bytes_reaped (s, a)
reaped_after g s a h lawful =
    reaped_by_move g (world g h) s a (world g ((s, a) ∷ h)) (completion_move g s a h lawful)

-- the next completion to be reaped has the bytes that are known of it
posted_at : (l : Completions) (d : Cqe) (none : Bool) → (if none then None else slice_get l.posted (length l.reaped)) ≡ Some d
    → slice_get l.posted (length l.reaped) ≡ Some d
posted_at l d none next = grind arith

pub next_has : (l : Completions) (c d : Cqe) (later : List (List ℕ)) → Agree (payloads l.reaped ++ c.payload ∷ later) (payloads l.posted)
    → next_to_reap l ≡ Some d → c.payload ≡ d.payload
next_has l c d later agree next =
    agree_place (payloads l.reaped) c.payload later (payloads l.posted) d.payload agree
    (slice_get-map (λ (x : Cqe). x.payload) l.posted (length (payloads l.reaped))
    ∙ ap (option_map (λ (x : Cqe). x.payload)) (ap (slice_get l.posted) (length-map l.reaped (λ (x : Cqe). x.payload)) ∙ posted_at l d (length l.reaped == l.seen_tail) next))

-- all that is reaped is told
reaped_onto : (g : Setup) (later : List Event) (h : History) → IsLawfulApart g (onto h later)
    → payloads (world g (onto h later)).completions.reaped ≡ payloads (world g h).completions.reaped ++ bytes_told later
reaped_onto g [] h lawful = sym (append-nil (payloads (world g h).completions.reaped))
reaped_onto g ((s, a) ∷ later) h lawful =
    reaped_onto g later ((s, a) ∷ h) lawful
    ∙ ap (λ (xs : List (List ℕ)). xs ++ bytes_told later) (reaped_after g s a h (lawful_below g later ((s, a) ∷ h) lawful))
    ∙ append_assoc (payloads (world g h).completions.reaped) (bytes_reaped (s, a)) (bytes_told later)

pub told_agree : (g : Setup) (events : List Event) → IsLawfulApart g (onto [] events)
    → Agree (bytes_told events) (posted_bytes g (onto [] events))
told_agree g events lawful =
    let l : Completions = (world g (onto [] events)).completions in
    let order = (begin_posted g.cq l (sound_of g (onto [] events) lawful).completions).in_order in
    subst (λ (xs : List (List ℕ)). Agree xs (posted_bytes g (onto [] events))) (reaped_onto g events [] lawful)
    (subst (Agree (payloads l.reaped)) (sym (ap payloads order ∙ map-append (λ (c : Cqe). c.payload) l.reaped _)) (agree_same (payloads l.reaped) _))
