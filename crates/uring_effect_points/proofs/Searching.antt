-- That a search covers all moves: `passed_one` and `dropped_one` where the next mark is passed or not, and `taken_all` where an operation takes effect first.
use Rattle.std.proofs.Common.{◌≡◌, ◌<◌, ◌≤◌, ◌+◌, ℕ, true, false, List, [], ◌∷◌, ◌++◌, length, map, drop, refl, sym, ap, subst, ◌∙◌, inl, inr, arith, append-nil}
use Rattle.uring_effect_points.proofs.Common.{AreTakers, Contains, Contains-append_cases, Contains-append_left, Contains-append_right, Contains-push, Contains-push_cases, Goes, GoesOn, Idle, IsPlaced, IsSearch, IsWalk, Mark, MarkStanding, MayTake, Move, OneGoes, Outcome, Pass, Passes, PassesAt, Replaces, Running, Seat, Take, Taker, at_first, awaits, awaits_at, drop-cons, drop_all, left_at, length-replicate, look, op_of, passed, passed_at, slice_index_or, took, took_at}
use Rattle.uring_effect_points.proofs.Plain.{after_length}

-- ---- lists

none_there : {X : Type 0} (x : X) → Contains [] x → ⊥
none_there x there = let low : there.0 < 0 = there.1 in omega (arith, low)

alone : {X : Type 0} (x y : X) → Contains (x ∷ []) y → x ≡ y
alone x y there = grind arith

first_there : {X : Type 0} (x : X) (xs : List X) → Contains (x ∷ xs) x
first_there x xs = Contains-append_left (x ∷ []) xs x (0, omega arith, refl)

there_mapped : {X Y : Type 0} (f : X → Y) (xs : List X) (x : X) → Contains xs x → Contains (map f xs) (f x)
there_mapped f [] x there = absurd (none_there x there)
there_mapped f (y ∷ ys) x there = elim (Contains-append_cases (y ∷ []) ys x there) [
  | inl first ↦ subst (λ z. Contains (f y ∷ map f ys) (f z)) (alone y x first) (first_there (f y) (map f ys))
  | inr later ↦ Contains-append_right (f y ∷ []) (map f ys) (f x) (there_mapped f ys x later)
]

record IsMapped {X Y : Type 0} (f : X → Y) (xs : List X) (y : Y) : Type 0 where
  of : X
  there : Contains xs of
  is : f of ≡ y

mapped_by : {X Y : Type 0} (f : X → Y) (xs : List X) (y : Y) → Contains (map f xs) y → IsMapped f xs y
mapped_by f [] y there = absurd (none_there y there)
mapped_by f (x ∷ xs) y there =
    elim (Contains-append_cases (f x ∷ []) (map f xs) y there) [
      | inl first ↦ record { of = x; there = first_there x xs; is = alone (f x) y first }
      | inr later ↦ (let m : IsMapped f xs y = mapped_by f xs y later in record { of = m.of; there = Contains-append_right (x ∷ []) xs m.of m.there; is = m.is })
    ]

-- ---- moves

-- past a mark that awaits nothing
pass_by : (s : MarkStanding) (m : Mark) (marks : List Mark) → awaits s.running (m ∷ marks) ≡ false
    → (moves : List Move) → IsWalk s (m ∷ marks) moves → Passes s.running m × Goes (passed s m) marks
pass_by s m marks free [] walk = absurd (let f : m ∷ marks ≡ [] = walk in cc)
pass_by s m marks free (Pass ∷ later) walk = (walk.0, record { moves = later; walk = walk.1 })
pass_by s m marks free (Take n o ∷ later) walk = grind arith

-- an operation takes effect, and others do later
pub record Takes (s : MarkStanding) (marks : List Mark) : Type 0 where
  pub number : ℕ
  pub outcome : Outcome
  pub may : MayTake s marks number outcome
  pub goes : Goes (took s number outcome) marks

never_passes : (running : List Running) (m : Mark) (marks : List Mark) → awaits running (m ∷ marks) ≡ true → Passes running m → ⊥
never_passes running m marks waits passes = grind arith

take_by : (s : MarkStanding) (marks : List Mark) → awaits s.running marks ≡ true → (moves : List Move)
    → IsWalk s marks moves → Takes s marks
take_by s [] waits moves walk = absurd (let f : false ≡ true = waits in cc)
take_by s (m ∷ marks) waits [] walk = absurd (let f : m ∷ marks ≡ [] = walk in cc)
take_by s (m ∷ marks) waits (Pass ∷ later) walk = absurd (never_passes s.running m marks waits walk.0)
take_by s (m ∷ marks) waits (Take n o ∷ later) walk = grind arith

taken_goes : (s : MarkStanding) (marks : List Mark) (n : ℕ) (o : Outcome) → MayTake s marks n o
    → Goes (took s n o) marks → Goes s marks
taken_goes s [] n o may later = record { moves = Take n o ∷ later.moves; walk = (may, later.walk) }
taken_goes s (m ∷ marks) n o may later = record { moves = Take n o ∷ later.moves; walk = (may, later.walk) }

passed_goes : (s : MarkStanding) (m : Mark) (marks : List Mark) → Passes s.running m → Goes (passed s m) marks
    → Goes s (m ∷ marks)
passed_goes s m marks passes later = record { moves = Pass ∷ later.moves; walk = (passes, later.walk) }

-- ---- seats

-- the marks that are left begin with the next one
left_next : (marks : List Mark) (s : Seat) → s.place < length marks
    → left_at marks s ≡ slice_index_or marks s.place Idle ∷ drop (s.place + 1) marks
left_next marks s before = grind (arith, drop-cons)

pub passed_one : (count : ℕ) (marks : List Mark) (s x : Seat) (old new : List Seat) → IsPlaced count marks s
    → s.place < length marks → awaits_at marks s ≡ false → PassesAt marks s → x ≡ passed_at marks s
    → new ≡ old ++ x ∷ [] → Replaces count marks s old new
passed_one count marks s x old new placed before free passes is more =
    let m : Mark = slice_index_or marks s.place Idle in
    let next : left_at marks s ≡ m ∷ drop (s.place + 1) marks = left_next marks s before in
    let y : Seat = passed_at marks s in
    record {
      next = y ∷ [];
      is = more ∙ ap (λ (z : Seat). old ++ z ∷ []) is;
      all = λ goes.
          let walk : IsWalk s.standing (m ∷ drop (s.place + 1) marks) goes.moves = subst (λ (ms : List Mark). IsWalk s.standing ms goes.moves) next goes.walk in
          let past = pass_by s.standing m (drop (s.place + 1) marks) (sym (ap (awaits s.standing.running) next) ∙ free) goes.moves walk in
          record { seat = y; there = first_there y []; goes = past.1 };
      right = grind (arith, passed_goes);
    }

pub dropped_one : (count : ℕ) (marks : List Mark) (s : Seat) (old : List Seat)
    → s.place < length marks → awaits_at marks s ≡ false → (PassesAt marks s → ⊥)
    → Replaces count marks s old old
dropped_one count marks s old before free never = grind (arith, left_next, append-nil, pass_by, none_there)

pub taken_all : (count : ℕ) (marks : List Mark) (s : Seat) (takers : List Taker) (old new : List Seat)
    → IsPlaced count marks s → awaits_at marks s ≡ true → AreTakers s.standing (left_at marks s) takers
    → new ≡ old ++ map (took_at s) takers → Replaces count marks s old new
taken_all count marks s takers old new placed waits are more = record {
  next = map (took_at s) takers;
  is = more;
  all = λ goes.
      let t : Takes s.standing (left_at marks s) = take_by s.standing (left_at marks s) waits goes.moves goes.walk in
      let x : Taker = record { number = t.number; outcome = t.outcome } in
      record { seat = took_at s x; there = there_mapped (took_at s) takers x (are.all x t.may); goes = t.goes };
  right = λ z there.
      let of : IsMapped (took_at s) takers z = mapped_by (took_at s) takers z there in
      subst (λ (w : Seat). IsPlaced count marks w × (GoesOn marks w → GoesOn marks s)) of.is (
        record { count_is = after_length s.standing.files (op_of (look s.standing.running of.of.number)) of.of.outcome.res ∙ placed.count_is; within = placed.within },
        λ goes. taken_goes s.standing (left_at marks s) of.of.number of.of.outcome (are.right of.of of.there) goes,
      );
}

-- ---- the search

-- the last of those that are left
pub last_placed : (count : ℕ) (marks : List Mark) (rest : List Seat) (s : Seat)
    → IsSearch count marks (rest ++ s ∷ []) → IsPlaced count marks s
last_placed count marks rest s search = (search.right s (Contains-push rest s)).0

-- a place that isn't after all marks
pub before_end : (place many : ℕ) → place ≤ many → (place ≡ many → ⊥) → place < many
before_end place many within other = omega arith

pub goes_on : (count : ℕ) (marks : List Mark) (rest new : List Seat) (s : Seat)
    → IsSearch count marks (rest ++ s ∷ []) → Replaces count marks s rest new → IsSearch count marks new
goes_on count marks rest new s search by = record {
  all = λ goes.
      let one : OneGoes marks (rest ++ s ∷ []) = search.all goes in
      elim (Contains-push_cases rest s one.seat one.there) [
        | inl old ↦ record { seat = one.seat; there = subst (λ (xs : List Seat). Contains xs one.seat) (sym by.is) (Contains-append_left rest by.next one.seat old); goes = one.goes }
        | inr this ↦ (
            let next : OneGoes marks by.next = by.all (subst (GoesOn marks) (sym this) one.goes) in
            record { seat = next.seat; there = subst (λ (xs : List Seat). Contains xs next.seat) (sym by.is) (Contains-append_right rest by.next next.seat next.there); goes = next.goes })
      ];
  right = λ x there. elim (Contains-append_cases rest by.next x (subst (λ (xs : List Seat). Contains xs x) by.is there)) [
    | inl old ↦ search.right x (Contains-append_left rest (s ∷ []) x old)
    | inr new ↦ ((by.right x new).0, λ goes. (search.right s (Contains-push rest s)).1 ((by.right x new).1 goes))
  ];
}

pub found : (count : ℕ) (marks : List Mark) (rest : List Seat) (s : Seat)
    → IsSearch count marks (rest ++ s ∷ []) → s.place ≡ length marks → Goes (at_first count) marks
found count marks rest s search over =
    (search.right s (Contains-push rest s)).1 (record { moves = []; walk = drop_all s.place marks (omega (arith, over)) })

pub begins : (count : ℕ) (marks : List Mark) (s : Seat) → s ≡ record { standing = at_first count; place = 0 }
    → IsSearch count marks (s ∷ [])
begins count marks s is =
    subst (λ (x : Seat). IsSearch count marks (x ∷ [])) (sym is) (record {
      all = λ goes. record { seat = record { standing = at_first count; place = 0 }; there = first_there (record { standing = at_first count; place = 0 }) []; goes = goes };
      right = grind (arith, length-replicate);
    })
