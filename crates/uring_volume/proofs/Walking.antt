-- The ways through some writes lead to what each list that fits leaves, and to nothing else.
use Rattle.std.proofs.Common.{◌≡◌, ◌≤◌, ◌<◌, ℕ, zero, suc, Bool, false, cond, List, [], ◌∷◌, ◌⊎◌, length, refl, subst, inl, inr, arith}
use Rattle.uring_volume.proofs.Common.{History, IsEachOnce, IsIn, Way, Write, bytes_over, cond-false, contents_of, false_from_ne_true, filter, found_at, found_by, has_safe, is_safe, nat_eq, next_ways, pointwise, put_by, same_way, stepped, steps_of, waits_for_one, way}
use Rattle.uring_volume.proofs.Fitting.{FitsIn, AreApart, apart_filter, named_is, first_is_free, rest_fits, place_fits, none_in, not_in}
use Rattle.uring_volume.proofs.Puts.{in_put_old, in_put_new, of_put, put_once, ways_tell, bytes_tell}

-- these bytes from offset k on, with these writes over them, one after the other
abbrev pub all_over : ℕ → List ℕ → List Write → List ℕ
all_over k bs [] = bs
all_over k bs (w ∷ more) = all_over k (bytes_over k bs w) more

-- what is left on a way is one of the things that fit
pub record Gives (h : History) (k : ℕ) (s : Way) (c : List ℕ) : Type 0 where
  pub order : List Write
  pub fits : FitsIn h s.rest order
  pub made : c ≡ all_over k s.now order

-- One step.

pub record IsEnd (h : History) (s : Way) (c : List ℕ) : Type 0 where
  pub none : has_safe h s.rest ≡ false
  pub is : c ≡ s.now

pub record IsStep (h : History) (k : ℕ) (s : Way) (w : Write) : Type 0 where
  pub among : IsIn w s.rest
  pub free : waits_for_one h s.rest w.number ≡ false

step_by : (h : History) (k : ℕ) (s : Way) (c : List ℕ) (order : List Write) → AreApart h s.rest
    → FitsIn h s.rest order → c ≡ all_over k s.now order
    → IsEnd h s c ⊎ ((w : Write) × IsStep h k s w × Gives h k (stepped h k s w) c)
step_by h k s c [] apart fits made = inl (record {
  none = none_in (λ w. is_safe h w) s.rest (λ w among. false_from_ne_true (is_safe h w) (λ safe. fits.safe w among safe));
  is = made;
})
step_by h k s c (w ∷ more) apart fits made = grind (arith, first_is_free, rest_fits)

end_gives : (h : History) (k : ℕ) (s : Way) (c : List ℕ) → IsEnd h s c → Gives h k s c
end_gives h k s c e = grind (arith, not_in)

step_up : (h : History) (k : ℕ) (s : Way) (w : Write) (c : List ℕ) → AreApart h s.rest
    → IsStep h k s w → Gives h k (stepped h k s w) c → Gives h k s c
step_up h k s w c apart step g =
    grind (arith, (place_fits h w.number s.rest g.order apart step.free g.fits), (named_is h w s.rest apart step.among))

-- The steps from some ways.

pub record Comes (h : History) (k : ℕ) (ways : List Way) (t : Way) : Type 0 where
  pub from : Way
  pub among : IsIn from ways
  pub by : Write
  pub step : IsStep h k from by
  pub is : t ≡ stepped h k from by

steps_old : (h : History) (k : ℕ) (s : Way) (ws : List Write) (next : List Way) (t : Way)
    → IsIn t next → IsIn t (steps_of h k s ws next)
steps_old h k s [] next t among = among
steps_old h k s (w ∷ more) next t among =
    grind (arith, (steps_old h k s more (cond (waits_for_one h s.rest w.number) next (put_by same_way next (stepped h k s w))) t), in_put_old)

steps_new : (h : History) (k : ℕ) (s : Way) (ws : List Write) (next : List Way) (w : Write)
    → IsIn w ws → waits_for_one h s.rest w.number ≡ false
    → IsIn (stepped h k s w) (steps_of h k s ws next)
steps_new h k s [] next w among free = absurd among
steps_new h k s (v ∷ more) next w (inl same) free = grind (arith, steps_old, cond, stepped, cond-false, in_put_new, ways_tell)
steps_new h k s (v ∷ more) next w (inr later) free =
    steps_new h k s more (cond (waits_for_one h s.rest v.number) next (put_by same_way next (stepped h k s v))) w later free

put_comes : (h : History) (k : ℕ) (s : Way) (w : Write) (next : List Way) (t : Way)
    → IsIn w s.rest → IsIn t (cond (waits_for_one h s.rest w.number) next (put_by same_way next (stepped h k s w)))
    → IsIn t next ⊎ ((v : Write) × IsStep h k s v × (t ≡ stepped h k s v))
put_comes h k s w next t within = grind (arith, of_put)

of_steps : (h : History) (k : ℕ) (s : Way) (ws : List Write) (next : List Way) (t : Way)
    → ((w : Write) → IsIn w ws → IsIn w s.rest) → IsIn t (steps_of h k s ws next)
    → IsIn t next ⊎ ((w : Write) × IsStep h k s w × (t ≡ stepped h k s w))
of_steps h k s [] next t within among = inl among
of_steps h k s (w ∷ more) next t within among =
    elim (of_steps h k s more (cond (waits_for_one h s.rest w.number) next (put_by same_way next (stepped h k s w))) t (λ v later. within v (inr later)) among) [
      | inl early ↦ put_comes h k s w next t (within w (inl refl)) early
      | inr found ↦ inr found
    ]

next_old : (h : History) (k : ℕ) (ways next : List Way) (t : Way) → IsIn t next
    → IsIn t (next_ways h k ways next)
next_old h k [] next t among = among
next_old h k (s ∷ more) next t among = next_old h k more (steps_of h k s s.rest next) t (steps_old h k s s.rest next t among)

next_new : (h : History) (k : ℕ) (ways next : List Way) (s : Way) (w : Write) → IsIn s ways
    → IsStep h k s w → IsIn (stepped h k s w) (next_ways h k ways next)
next_new h k [] next s w among step = absurd among
next_new h k (r ∷ more) next s w (inl same) step = grind (arith, next_old, steps_new)
next_new h k (r ∷ more) next s w (inr later) step = next_new h k more (steps_of h k r r.rest next) s w later step

pub of_next : (h : History) (k : ℕ) (ways next : List Way) (t : Way) → IsIn t (next_ways h k ways next)
    → IsIn t next ⊎ Comes h k ways t
of_next h k [] next t among = inl among
of_next h k (s ∷ more) next t among = grind (arith, (of_next h k more (steps_of h k s s.rest next) t among), of_steps)

-- What has been found at some ways.

at_old : (h : History) (ways : List Way) (found : List (List ℕ)) (c : List ℕ) → IsIn c found
    → IsIn c (found_at h ways found)
at_old h [] found c among = among
at_old h (s ∷ more) found c among = grind (arith, (at_old h more), in_put_old)

at_new : (h : History) (ways : List Way) (found : List (List ℕ)) (s : Way) → IsIn s ways
    → has_safe h s.rest ≡ false → IsIn s.now (found_at h ways found)
at_new h [] found s among none = absurd among
at_new h (r ∷ more) found s (inl same) none = grind (arith, at_old, cond, in_put_new, bytes_tell)
at_new h (r ∷ more) found s (inr later) none =
    at_new h more (cond (has_safe h r.rest) found (put_by (pointwise nat_eq) found r.now)) s later none

put_end : (h : History) (s : Way) (found : List (List ℕ)) (c : List ℕ)
    → IsIn c (cond (has_safe h s.rest) found (put_by (pointwise nat_eq) found s.now))
    → IsIn c found ⊎ IsEnd h s c
put_end h s found c = grind (arith, of_put)

of_at : (h : History) (ways : List Way) (found : List (List ℕ)) (c : List ℕ)
    → IsIn c (found_at h ways found) → IsIn c found ⊎ ((s : Way) × IsIn s ways × IsEnd h s c)
of_at h [] found c among = inl among
of_at h (s ∷ more) found c among =
    grind (arith, (of_at h more (cond (has_safe h s.rest) found (put_by (pointwise nat_eq) found s.now)) c among), put_end)

at_once : (h : History) (ways : List Way) (found : List (List ℕ)) → IsEachOnce found
    → IsEachOnce (found_at h ways found)
at_once h [] found once = once
at_once h (s ∷ more) found once = grind (arith, (at_once h more), put_once, bytes_tell)

-- All steps.

filter_short : (p : Write → Bool) (ws : List Write) → length (filter p ws) ≤ length ws
filter_short p [] = omega arith
filter_short p (w ∷ ws) = grind (arith, (filter_short p ws))

filter_shorter : (p : Write → Bool) (w : Write) (ws : List Write) → IsIn w ws → p w ≡ false
    → length (filter p ws) < length ws
filter_shorter p w [] among out = absurd among
filter_shorter p w (v ∷ ws) (inl same) out = grind (arith, filter_short)
filter_shorter p w (v ∷ ws) (inr later) out = grind (arith, (filter_shorter p w ws later out))

pub record IsShort (h : History) (n : ℕ) (s : Way) : Type 0 where
  pub apart : AreApart h s.rest
  pub short : length s.rest < n

next_short : (h : History) (k n : ℕ) (ways : List Way)
    → ((s : Way) → IsIn s ways → IsShort h (suc n) s) → (t : Way)
    → IsIn t (next_ways h k ways []) → IsShort h n t
next_short h k n ways all t among = grind (arith, of_next, filter_shorter, apart_filter)

found_old : (n : ℕ) (h : History) (k : ℕ) (ways : List Way) (found : List (List ℕ)) (c : List ℕ)
    → IsIn c found → IsIn c (found_by n h k ways found)
found_old zero h k ways found c among = among
found_old (suc n) h k ways found c among =
    found_old n h k (next_ways h k ways []) (found_at h ways found) c (at_old h ways found c among)

found_new : (n : ℕ) (h : History) (k : ℕ) (ways : List Way) (found : List (List ℕ)) (s : Way)
    (c : List ℕ) → ((t : Way) → IsIn t ways → IsShort h n t) → IsIn s ways → Gives h k s c
    → IsIn c (found_by n h k ways found)
found_new zero h k ways found s c all among g = absurd (let none : length s.rest < 0 = (all s among).short in omega arith)
found_new (suc n) h k ways found s c all among g =
    elim (step_by h k s c g.order (all s among).apart g.fits g.made) [
      | inl e ↦ grind (arith, found_old, at_new)
      | inr on ↦ grind (arith, (found_new n h k (next_ways h k ways []) (found_at h ways found) (stepped h k s on.0) c (next_short h k n ways all)), next_new)
    ]

of_found : (n : ℕ) (h : History) (k : ℕ) (ways : List Way) (found : List (List ℕ)) (c : List ℕ)
    → ((t : Way) → IsIn t ways → IsShort h n t) → IsIn c (found_by n h k ways found)
    → IsIn c found ⊎ ((s : Way) × IsIn s ways × Gives h k s c)
of_found zero h k ways found c all among = inl among
of_found (suc n) h k ways found c all among =
    elim (of_found n h k (next_ways h k ways []) (found_at h ways found) c (next_short h k n ways all) among) [
      | inl early ↦ elim (of_at h ways found c early) [
        | inl old ↦ inl old
        | inr last ↦ inr (last.0, last.1, end_gives h k last.0 c last.2)
      ]
      | inr later ↦ elim (of_next h k ways [] later.0 later.1) [
        | inl none ↦ absurd none
        | inr comes ↦ inr (comes.from, comes.among, step_up h k comes.from comes.by c (all comes.from comes.among).apart comes.step (subst (λ x. Gives h k x c) comes.is later.2))
      ]
    ]

found_once : (n : ℕ) (h : History) (k : ℕ) (ways : List Way) (found : List (List ℕ))
    → IsEachOnce found → IsEachOnce (found_by n h k ways found)
found_once zero h k ways found once = once
found_once (suc n) h k ways found once =
    found_once n h k (next_ways h k ways []) (found_at h ways found) (at_once h ways found once)

-- What may be left of some bytes.

first_short : (h : History) (rest : List Write) (bytes : List ℕ) → AreApart h rest → (t : Way)
    → IsIn t (way rest bytes ∷ []) → IsShort h (suc (length rest)) t
first_short h rest bytes apart t among = grind arith

pub of_contents : (h : History) (k : ℕ) (rest : List Write) (bytes c : List ℕ) → AreApart h rest
    → IsIn c (contents_of h k rest bytes) → Gives h k (way rest bytes) c
of_contents h k rest bytes c apart among =
    elim (of_found (suc (length rest)) h k (way rest bytes ∷ []) [] c (first_short h rest bytes apart) among) [
      | inl none ↦ absurd none
      | inr found ↦ elim found.1 as (λ _. Gives h k (way rest bytes) c) [
        | inl same ↦ subst (λ x. Gives h k x c) same found.2
        | inr none ↦ absurd none
      ]
    ]

pub in_contents : (h : History) (k : ℕ) (rest : List Write) (bytes c : List ℕ) → AreApart h rest
    → Gives h k (way rest bytes) c → IsIn c (contents_of h k rest bytes)
in_contents h k rest bytes c apart g =
    found_new (suc (length rest)) h k (way rest bytes ∷ []) [] (way rest bytes) c (first_short h rest bytes apart) (inl refl) g

pub contents_once : (h : History) (k : ℕ) (rest : List Write) (bytes : List ℕ)
    → IsEachOnce (contents_of h k rest bytes)
contents_once h k rest bytes = found_once (suc (length rest)) h k (way rest bytes ∷ []) [] tt
