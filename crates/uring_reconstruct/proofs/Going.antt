-- What stays of a history as it goes on, and what goes on after one that stands for another.
-- By `CompletionMove`, event by event, and over later events by induction.
use Rattle.std.proofs.Common.{◌≡◌, ℕ, Bool, true, false, cond, List, [], ◌∷◌, ◌++◌, length, if◌then◌else◌, refl, sym, ap, subst, ◌∙◌, ◌⊎◌, inl, inr}
use Rattle.uring_reconstruct.proofs.Common.{Answer, AreAllNext, Begins, CalledForApart, Completions, Contains, Cqe, Event, GiveAllowed, GivesAllowed, GoesOn, History, IsIdle, IsLawfulApart, IsPart, IsWhole, Setup, Step, World, completion_for, completions_in, entry_of, happens, history_of, history_of_cons, is_hidden, onto, outstanding_in, posts, seen_in, with_posted, world}
use Rattle.uring_core.proofs.CompletionMoves.{CompletionMove, stays, ends, completion_move}
use Rattle.uring_reconstruct.proofs.Begun.{begins_itself, begins_more, begins_on}

-- What is posted stays posted.

end_posts : (told : Bool) (size : ℕ) (l : Completions) (c : Cqe)
    → Begins l.posted (cond told (with_posted size l c) l).posted
end_posts true size l c = begins_more l.posted c
end_posts false size l c = begins_itself l.posted

posted_by : (g : Setup) (w : World) (s : Step) (a : Answer) (v : World) → CompletionMove g w s a v
    → Begins w.completions.posted v.completions.posted
posted_by g w s a v (stays _ _ l r is_closed off none leaves) = begins_itself w.completions.posted
posted_by g w s a v (ends _ _ n res bytes r off tells accepted ended) =
    end_posts (posts g.linux w.requests n res) g.cq w.completions (completion_for (entry_of w.requests n) res bytes)
posted_by g w s a v _ = begins_itself w.completions.posted

posted_then : (g : Setup) (e : Event) (h : History) → IsLawfulApart g (e ∷ h)
    → Begins (world g h).completions.posted (world g (e ∷ h)).completions.posted
posted_then g e h lawful =
    posted_by g (world g h) e.0 e.1 (world g (e ∷ h)) (completion_move g e.0 e.1 h lawful)

-- What is seen stays seen.

seen_by : (hidden : Bool) (xs : List Event) (e : Event)
    → Begins xs (if hidden then xs else xs ++ e ∷ [])
seen_by true xs e = begins_itself xs
seen_by false xs e = begins_more xs e

-- Later events.

pub lawful_onto : (g : Setup) (later : List Event) (h : History) → IsLawfulApart g (onto h later)
    → IsLawfulApart g h
lawful_onto g [] h lawful = lawful
lawful_onto g (e ∷ later) h lawful = (lawful_onto g later (e ∷ h) lawful).1

allowed_onto : (g : Setup) (later : List Event) (h : History) → GiveAllowed g (onto h later)
    → GiveAllowed g h
allowed_onto g [] h allowed = allowed
allowed_onto g (e ∷ later) h allowed = (allowed_onto g later (e ∷ h) allowed).1

seen_onto : (later : List Event) (h : History) → Begins (seen_in h) (seen_in (onto h later))
seen_onto [] h = begins_itself (seen_in h)
seen_onto (e ∷ later) h =
    begins_on (seen_in h) (seen_in (e ∷ h)) (seen_in (onto (e ∷ h) later)) (seen_by (is_hidden e.0) (seen_in h) e) (seen_onto later (e ∷ h))

posted_onto : (g : Setup) (later : List Event) (h : History) → IsLawfulApart g (onto h later)
    → Begins (world g h).completions.posted (world g (onto h later)).completions.posted
posted_onto g [] h lawful = begins_itself (world g h).completions.posted
posted_onto g (e ∷ later) h lawful =
    begins_on (world g h).completions.posted (world g (e ∷ h)).completions.posted (world g (onto (e ∷ h) later)).completions.posted
    (posted_then g e h (lawful_onto g later (e ∷ h) lawful)) (posted_onto g later (e ∷ h) lawful)

-- what a part went on from is a part
pub part_onto : (g : Setup) (seen later : List Event) (h : History) → IsPart g seen (onto h later)
    → IsPart g seen h
part_onto g seen later h p = record {
  lawful = lawful_onto g later h p.lawful;
  results = allowed_onto g later h p.results;
  shows = begins_on (seen_in h) (seen_in (onto h later)) seen (seen_onto later h) p.shows;
  posts = begins_on (world g h).completions.posted (world g (onto h later)).completions.posted (completions_in seen) (posted_onto g later h p.lawful) p.posts;
}

-- A history that stands for another: it made the same world and shows the same.

pub record StandsFor (g : Setup) (h k : History) : Type 0 where
  pub same_world : world g k ≡ world g h
  pub same_seen : seen_in k ≡ seen_in h
  pub lawful : IsLawfulApart g k
  pub results : GiveAllowed g k

stands_then : (g : Setup) (e : Event) (h k : History) → StandsFor g h k
    → CalledForApart g (world g h) e.0 e.1 → GivesAllowed g.linux (world g h).requests e
    → StandsFor g (e ∷ h) (e ∷ k)
stands_then g e h k s called gives = record {
  same_world = ap (λ w. happens g w e.0 e.1) s.same_world;
  same_seen = ap (λ xs. if is_hidden e.0 then xs else xs ++ e ∷ []) s.same_seen;
  lawful = (subst (λ w. CalledForApart g w e.0 e.1) (sym s.same_world) called, s.lawful);
  results = (subst (λ (w : World). GivesAllowed g.linux w.requests e) (sym s.same_world) gives, s.results);
}

stands_onto : (g : Setup) (later : List Event) (h k : History) → StandsFor g h k
    → IsLawfulApart g (onto h later) → GiveAllowed g (onto h later)
    → StandsFor g (onto h later) (onto k later)
stands_onto g [] h k s lawful allowed = s
stands_onto g (e ∷ later) h k s lawful allowed =
    stands_onto g later (e ∷ h) (e ∷ k) (stands_then g e h k s (lawful_onto g later (e ∷ h) lawful).0 (allowed_onto g later (e ∷ h) allowed).0) lawful allowed

part_for : (g : Setup) (seen : List Event) (h k : History) → StandsFor g h k → IsPart g seen h
    → IsPart g seen k
part_for g seen h k s p = record {
  lawful = s.lawful;
  results = s.results;
  shows = subst (λ xs. Begins xs seen) (sym s.same_seen) p.shows;
  posts = subst (λ (w : World). Begins w.completions.posted (completions_in seen)) (sym s.same_world) p.posts;
}

whole_for : (g : Setup) (seen : List Event) (h k : History) → StandsFor g h k → IsWhole g seen h
    → IsWhole g seen k
whole_for g seen h k s w = record {
  shows = s.same_seen ∙ w.shows;
  none_outstanding = ap (λ (v : World). outstanding_in v.requests) s.same_world ∙ w.none_outstanding;
  posted = ap (λ (v : World). v.completions.posted) s.same_world ∙ w.posted;
}

-- an idle event can be left out
idle_stands : (g : Setup) (h : History) (x : Event) → IsIdle g h x → IsLawfulApart g h
    → GiveAllowed g h → StandsFor g (x ∷ h) h
idle_stands g h x idle lawful allowed = record {
  same_world = sym idle.same;
  same_seen = sym (ap (λ b. if b then seen_in h else seen_in h ++ x ∷ []) idle.hidden);
  lawful = lawful;
  results = allowed;
}

-- What goes on.

-- a part that is itself what goes on from it
pub record EndsHere (g : Setup) (seen : List Event) (whole : Bool) (far : ℕ) (h : History) : Type 0 where
  pub so_far : length (seen_in h) ≡ far
  pub is_whole : whole ≡ true → IsWhole g seen h

-- one of these events after it goes on so
pub record GoesNext (g : Setup) (seen : List Event) (whole : Bool) (far : ℕ) (h : History) (next : List Event) : Type 0 where
  pub event : Event
  pub there : Contains next event
  pub on : GoesOn g seen whole far (event ∷ h)

-- what goes on from a part ends there, or goes on by one of the events that were found
pub goes_by : (g : Setup) (seen : List Event) (whole : Bool) (far : ℕ) (later : List Event) (h : History) (next : List Event)
    → IsPart g seen h → AreAllNext g seen h next → IsPart g seen (onto h later)
    → length (seen_in (onto h later)) ≡ far → (whole ≡ true → IsWhole g seen (onto h later))
    → EndsHere g seen whole far h ⊎ GoesNext g seen whole far h next
goes_by g seen whole far [] h next here all p so_far is_whole =
    inl (record { so_far = so_far; is_whole = is_whole })
goes_by g seen whole far (x ∷ later) h next here all p so_far is_whole =
    elim (all x (part_onto g seen later (x ∷ h) p)) [
      | inl idle ↦
          let t : StandsFor g (onto (x ∷ h) later) (onto h later) = stands_onto g later (x ∷ h) h (idle_stands g h x idle here.lawful here.results) p.lawful p.results in
          goes_by g seen whole far later h next here all (part_for g seen (onto (x ∷ h) later) (onto h later) t p) (ap length t.same_seen ∙ so_far) (λ w. whole_for g seen (onto (x ∷ h) later) (onto h later) t (is_whole w))
      | inr there ↦ inr (record {
        event = x;
        there = there;
        on = record { later = later; part = p; so_far = so_far; is_whole = is_whole };
      })
    ]

-- what stands after the beginning, as a list
pub onto_is : (later : List Event) (h : History) → onto h later ≡ history_of later ++ h
onto_is [] h = refl
onto_is (e ∷ later) h = onto_is later (e ∷ h) ∙ sym (history_of_cons e later h)
