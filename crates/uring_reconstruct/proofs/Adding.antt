-- Events that are added to those that may come next.
use Rattle.std.proofs.Common.{◌≡◌, ℕ, zero, suc, ◌+◌, ◌-◌, ◌<◌, ◌≤◌, ℤ, pos, Bool, true, false, slice_get, None, List, [], ◌∷◌, ◌++◌, length, drop, Option, Some, refl, sym, subst, ◌∙◌, ◌⊎◌, inl, inr, arith}
use Rattle.uring_reconstruct.proofs.Common.{Adds, Answer, AreAllNext, AreNext, CalledForApart, Contains, Contains-append_left, Contains-push, Contains-push_cases, Core, Cqe, Event, FinishFits, HasEndsOf, History, IsErrorOf, IsIdle, IsLawfulApart, IsPart, QuietResult, Requests, Setup, Sqe, StandsAt, Step, TellsNext, and_from, cases_Bool, cases_lt, completion_for, count_result, entry_of, entry_outstanding, is_asked, is_drain, is_hidden, is_issuable, is_outstanding, is_running, is_stale, neg_ℤ, no_bytes, posts, posts_completion, put_by_flush, requests_of, seen_in, with_count, with_error, with_none, world}
use Rattle.std.proofs.lemmas.Option.{same_Some, none-some}
use Rattle.uring_entry.specs.declared.errno.TheConstants.{EINVAL, EOPNOTSUPP, ECANCELED}
use Rattle.uring_entry.specs.Preparation.{is_faulty, is_cancel_all}
use Rattle.uring_core.specs.declared.step.Step.TheVariants as step
use Rattle.uring_core.specs.declared.answer.Answer.TheVariants as answer
use Rattle.uring_entry.specs.Results.{may_end}
use Rattle.uring_reconstruct.proofs.Events.{HiddenEvent, idle_one, start, issue_end, finish_end, flush, hidden_event, flush_idle, few_moved, issued_end, part_issue, part_finish, finish_runs, quiet_end, seen_part, part_seen}
use Rattle.uring_reconstruct.proofs.Issuing.{outstanding_accepted}
use Rattle.uring_core.proofs.Sound.{sound_of}

pub adds_none : (core : Core) (wanted : Option Cqe) (next : List Event) → Adds core wanted next next
adds_none core wanted next = record { kept = λ x there. there; right = λ seen h at are. are }

pub adds_then : (core : Core) (wanted : Option Cqe) (old mid new : List Event)
    → Adds core wanted old mid → Adds core wanted mid new → Adds core wanted old new
adds_then core wanted old mid new a b = record {
  kept = λ x there. b.kept x (a.kept x there);
  right = λ seen h at are. b.right seen h at (a.right seen h at are);
}

pub adds_one : (core : Core) (wanted : Option Cqe) (old new : List Event) (x : Event)
    → new ≡ old ++ x ∷ []
    → ((seen : List Event) (h : History) → StandsAt core seen wanted h → IsLawfulApart core.setup (x ∷ h) → IsPart core.setup seen (x ∷ h))
    → Adds core wanted old new
adds_one core wanted old new x is part = record {
  kept = λ y there. subst (λ xs. Contains xs y) (sym is) (Contains-append_left old (x ∷ []) y there);
  right = λ seen h at are y there lawful. elim (Contains-push_cases old x y (subst (λ xs. Contains xs y) is there)) [
    | inl before ↦ are y before lawful
    | inr same ↦ subst (λ z. IsPart core.setup seen (z ∷ h)) same (part seen h at (subst (λ z. IsLawfulApart core.setup (z ∷ h)) (sym same) lawful))
  ];
}

pub last_there : (old new : List Event) (x : Event) → new ≡ old ++ x ∷ [] → Contains new x
last_there old new x is = subst (λ xs. Contains xs x) (sym is) (Contains-push old x)

-- an end that was pushed, whichever way its result was passed on
pub end_pushed : (old new : List Event) (s : Step) (a : Answer) (given res : ℤ) (bytes : List ℕ)
    → new ≡ old ++ (s, a) ∷ []
    → a ≡ answer.Ended given bytes
    → given ≡ res
    → new ≡ old ++ (s, answer.Ended res bytes) ∷ []
end_pushed old new s a given res bytes is ended same = grind arith

-- All events that go on from a part.

of_hidden : (core : Core) (seen : List Event) (h : History) (next : List Event) (x : Event)
    → IsLawfulApart core.setup h
    → ((n : ℕ) → is_issuable core.setup.linux (requests_of (world core.setup h)) n ≡ true → Contains next (step.Issue n, answer.Run))
    → ((n : ℕ) → HasEndsOf core.setup seen h n next)
    → ((a : Answer) → is_stale h ≡ true → CalledForApart core.setup (world core.setup h) step.Flush a → Contains next (step.Flush, a))
    → IsPart core.setup seen (x ∷ h) → HiddenEvent core.setup h x
    → IsIdle core.setup h x ⊎ Contains next x
of_hidden core seen h next x lawful starts ends flushes p (idle_one _ idle) = inl idle
of_hidden core seen h next x lawful starts ends flushes p (start n can) = inr (starts n can)
of_hidden core seen h next x lawful starts ends flushes p (issue_end n res bytes) = inr ((ends n).issued res bytes p)
of_hidden core seen h next x lawful starts ends flushes p (finish_end n res bytes) = inr ((ends n).finished res bytes p)
of_hidden core seen h next x lawful starts ends flushes p (flush a) = by_stale (is_stale h) refl where
  by_stale : (b : Bool) → is_stale h ≡ b → IsIdle core.setup h (step.Flush, a) ⊎ Contains next (step.Flush, a)
  by_stale true e = inr (flushes a e p.lawful.0)
  by_stale false e = inl (flush_idle core.setup h a lawful e)

pub all_next : (core : Core) (seen : List Event) (wanted : Option Cqe) (h : History) (next : List Event)
    → IsLawfulApart core.setup h
    → ((n : ℕ) (asked : Bool) → is_issuable core.setup.linux (requests_of (world core.setup h)) n ≡ true → is_asked (entry_outstanding (world core.setup h).requests n) wanted ≡ asked → Contains next (step.Issue n, answer.Run))
    → ((n : ℕ) → HasEndsOf core.setup seen h n next)
    → ((a : Answer) → is_stale h ≡ true → CalledForApart core.setup (world core.setup h) step.Flush a → Contains next (step.Flush, a))
    → ((x : Event) → is_hidden x.0 ≡ false → IsPart core.setup seen (x ∷ h) → Contains next x)
    → AreAllNext core.setup seen h next
all_next core seen wanted h next lawful starts ends flushes shown x p = by_hidden (is_hidden x.0) refl where
  by_hidden : (b : Bool) → is_hidden x.0 ≡ b → IsIdle core.setup h x ⊎ Contains next x
  by_hidden false e = inr (shown x e p)
  by_hidden true e =
      of_hidden core seen h next x lawful (λ n can. starts n (is_asked (entry_outstanding (world core.setup h).requests n) wanted) can refl) ends flushes p (hidden_event core.setup h x p.lawful e)

-- Flushes.

pub flush_next : (old new : List Event) (m : ℕ) → new ≡ old ++ (step.Flush, answer.Moved m) ∷ []
    → ((k : ℕ) → k < m → Contains old (step.Flush, answer.Moved k))
    → (k : ℕ) → k < m + 1 → Contains new (step.Flush, answer.Moved k)
flush_next old new m is before k low =
    elim (cases_lt k m) [
      | inl less ↦ subst (λ xs. Contains xs (step.Flush, answer.Moved k)) (sym is) (Contains-append_left old ((step.Flush, answer.Moved m) ∷ []) (step.Flush, answer.Moved k) (before k less))
      | inr past ↦
          let same : m ≡ k = omega (arith, past, low) in
          subst (λ j. Contains new (step.Flush, answer.Moved j)) same (last_there old new (step.Flush, answer.Moved m) is)
    ]

pub flush_there : (old new : List Event) (waiting last m : ℕ) → waiting ≤ last
    → new ≡ old ++ (step.Flush, answer.Moved waiting) ∷ []
    → ((k : ℕ) → k < last → Contains old (step.Flush, answer.Moved k)) → m ≤ waiting
    → Contains new (step.Flush, answer.Moved m)
flush_there old new waiting last m past is before few =
    flush_next old new waiting is (λ k low. before k (omega arith)) m (omega arith)

-- the answer to a flush that is called for, by how many wait
pub flush_called : (core : Core) (h : History) (a : Answer) (waiting : ℕ) (next : List Event)
    → CalledForApart core.setup (world core.setup h) step.Flush a
    → waiting ≡ length (drop (world core.setup h).completions.put (world core.setup h).completions.posted)
    → ((m : ℕ) → m ≤ waiting → Contains next (step.Flush, answer.Moved m))
    → Contains next (step.Flush, a)
flush_called core h a waiting next called waits there =
    let few = few_moved core.setup.cq (world core.setup h).completions in
    subst (λ b. Contains next (step.Flush, b)) (sym called)
    (there (put_by_flush core.setup.cq (world core.setup h).completions - (world core.setup h).completions.put) (omega (arith, few, waits)))

-- An end that fits.

pub fits_told : (e : Sqe) (wanted : Option Cqe) (res : ℤ) (bytes : List ℕ) → may_end e res ≡ true
    → posts_completion e res ≡ true → wanted ≡ Some (completion_for e res bytes)
    → FinishFits e wanted res bytes
fits_told e wanted res bytes may posts is = grind arith

pub fits_quiet : (e : Sqe) (wanted : Option Cqe) (res : ℤ) (bytes : List ℕ) → may_end e res ≡ true
    → posts_completion e res ≡ false → bytes ≡ no_bytes → FinishFits e wanted res bytes
fits_quiet e wanted res bytes may quiet none = grind arith

-- Ends of a request as it is issued.

-- the end of n as it is issued with this result and no bytes
abbrev pub issued_as : ℕ → ℤ → Event
issued_as n res = (step.Issue n, answer.Ended res no_bytes)

-- what ends as it is issued is outstanding
pub issued_outstanding : (g : Setup) (h : History) (n : ℕ) (res : ℤ) (bytes : List ℕ)
    → IsLawfulApart g ((step.Issue n, answer.Ended res bytes) ∷ h)
    → is_outstanding (world g h).requests n ≡ true
issued_outstanding g h n res bytes lawful = (issued_end g (world g h) n res bytes lawful.0).outstanding

-- and can be issued
pub issued_issuable : (g : Setup) (h : History) (n : ℕ) (res : ℤ) (bytes : List ℕ)
    → IsLawfulApart g ((step.Issue n, answer.Ended res bytes) ∷ h)
    → is_issuable g.linux (requests_of (world g h)) n ≡ true
issued_issuable g h n res bytes lawful = (issued_end g (world g h) n res bytes lawful.0).issuable

pub quiet_tells : (told : Bool) (e : Sqe) (wanted : Option Cqe) (res : ℤ) (bytes : List ℕ)
    → told ≡ false → TellsNext told e wanted res bytes
quiet_tells told e wanted res bytes quiet posts = absurd (let f : true ≡ false = sym posts ∙ quiet in cc)

-- the ends with numbers, of which P is so
pub counts_next : (P : ℤ → Type 0) (n : ℕ) (old new : List Event) (below : ℕ) (res : ℤ)
    → res ≡ count_result (below + 1) → ((x : Event) → Contains old x → Contains new x)
    → ((j : ℕ) → j < below → P (count_result (j + 1)) → Contains old (issued_as n (count_result (j + 1))))
    → (P res → Contains new (issued_as n res))
    → (j : ℕ) → j < below + 1 → P (count_result (j + 1))
    → Contains new (issued_as n (count_result (j + 1)))
counts_next P n old new below res is kept before here j low so = grind arith

pub counts_all : (P : ℤ → Type 0) (n : ℕ) (old new : List Event) (accepted : ℕ)
    → ((x : Event) → Contains old x → Contains new x)
    → ((j : ℕ) → j < accepted → P (count_result (j + 1)) → Contains old (issued_as n (count_result (j + 1))))
    → (P (pos 0) → Contains new (issued_as n (pos 0)))
    → (count : ℕ) → count ≤ accepted → P (count_result count)
    → Contains new (issued_as n (count_result count))
counts_all P n old new accepted kept some none zero few so = none so
counts_all P n old new accepted kept some none (suc k) few so =
    let same : k + 1 ≡ suc k = omega arith in
    subst (λ j. Contains new (issued_as n (count_result j))) same
    (kept (issued_as n (count_result (k + 1))) (some k (omega arith) (subst (λ j. P (count_result j)) (sym same) so)))

-- each end that posts nothing is there
pub quiet_there : (linux : Bool) (e : Sqe) (accepted n : ℕ) (Q : ℤ → Type 0) (errors new : List Event)
    → ((x : Event) → Contains errors x → Contains new x)
    → ((res : ℤ) → Q res → linux ≡ true → IsErrorOf e res → Contains errors (issued_as n res))
    → (posts_completion e (pos 0) ≡ false → Q (pos 0) → Contains new (issued_as n (pos 0)))
    → (linux ≡ false → is_cancel_all e ≡ true → (count : ℕ) → count ≤ accepted → posts_completion e (count_result count) ≡ false → Q (count_result count) → Contains new (issued_as n (count_result count)))
    → (res : ℤ) → Q res → QuietResult linux e accepted res → Contains new (issued_as n res)
quiet_there linux e accepted n Q errors new kept failed none some _ so (with_none quiet) = none quiet so
quiet_there linux e accepted n Q errors new kept failed none some _ so (with_count count manual all few quiet) = grind arith
quiet_there linux e accepted n Q errors new kept failed none some _ so (with_error res is error) = grind arith

-- each of the errors is there
pub errors_there : (e : Sqe) (n : ℕ) (Q : ℤ → Type 0) (first second new : List Event)
    → ((x : Event) → Contains first x → Contains second x)
    → ((x : Event) → Contains second x → Contains new x)
    → (is_faulty e ≡ true → Q (neg_ℤ EINVAL) → Contains first (issued_as n (neg_ℤ EINVAL)))
    → (is_drain e ≡ true → Q (neg_ℤ EOPNOTSUPP) → Contains second (issued_as n (neg_ℤ EOPNOTSUPP)))
    → (is_faulty e ≡ false → Q (neg_ℤ ECANCELED) → Contains new (issued_as n (neg_ℤ ECANCELED)))
    → (res : ℤ) → Q res → IsErrorOf e res → Contains new (issued_as n res)
errors_there e n Q first second new on further a b c res so h = grind arith

-- each end of a request of this entry as it is issued that goes on from the part is there
pub issued_there : (core : Core) (seen : List Event) (wanted : Option Cqe) (h : History) (n : ℕ) (res : ℤ) (bytes : List ℕ) (e : Sqe) (accepted : ℕ) (quiet new : List Event)
    → StandsAt core seen wanted h → e ≡ entry_of (world core.setup h).requests n
    → accepted ≡ length (world core.setup h).requests.accepted
    → ((x : Event) → Contains quiet x → Contains new x)
    → ((r : ℤ) → posts core.setup.linux (world core.setup h).requests n r ≡ false → QuietResult core.setup.linux e accepted r → Contains quiet (issued_as n r))
    → ((r : ℤ) → posts core.setup.linux (world core.setup h).requests n r ≡ true → wanted ≡ Some (completion_for e r no_bytes) → Contains new (issued_as n r))
    → IsPart core.setup seen ((step.Issue n, answer.Ended res bytes) ∷ h)
    → Contains new (step.Issue n, answer.Ended res bytes)
issued_there core seen wanted h n res bytes e accepted quiet new at is many kept silent loud p =
    let linux = core.setup.linux in
    let ended = issued_end core.setup (world core.setup h) n res bytes p.lawful.0 in
    subst (λ b. Contains new (step.Issue n, answer.Ended res b)) (sym ended.none) (elim (cases_Bool (posts linux (world core.setup h).requests n res)) [
      | inl told ↦ loud res told (rw is (part_issue core seen wanted h n res bytes at p told))
      | inr none ↦ kept (issued_as n res) (silent res none (rw (is, many) (quiet_end linux (requests_of (world core.setup h)) n res bytes ended none)))
    ])

-- Ends of running requests.

pub finish_there : (e : Sqe) (wanted : Option Cqe) (n : ℕ) (res : ℤ) (bytes : List ℕ) (quiet new : List Event)
    → ((x : Event) → Contains quiet x → Contains new x)
    → (posts_completion e res ≡ false → FinishFits e wanted res bytes → Contains quiet (step.Finish n, answer.Ended res bytes))
    → (posts_completion e res ≡ true → FinishFits e wanted res bytes → Contains new (step.Finish n, answer.Ended res bytes))
    → FinishFits e wanted res bytes → Contains new (step.Finish n, answer.Ended res bytes)
finish_there e wanted n res bytes quiet new kept silent loud fits = elim (cases_Bool (posts_completion e res)) [
  | inl told ↦ loud told fits
  | inr none ↦ kept (step.Finish n, answer.Ended res bytes) (silent none fits)
]

-- All ends of one request.

pub ends_kept : (g : Setup) (seen : List Event) (h : History) (n : ℕ) (old new : List Event)
    → ((x : Event) → Contains old x → Contains new x) → HasEndsOf g seen h n old
    → HasEndsOf g seen h n new
ends_kept g seen h n old new kept ends = grind arith

pub running_ends : (core : Core) (seen : List Event) (wanted : Option Cqe) (h : History) (n : ℕ) (e : Sqe) (next : List Event)
    → StandsAt core seen wanted h → is_running (world core.setup h).requests n ≡ true
    → e ≡ entry_of (world core.setup h).requests n
    → ((res : ℤ) (bytes : List ℕ) → FinishFits e wanted res bytes → Contains next (step.Finish n, answer.Ended res bytes))
    → HasEndsOf core.setup seen h n next
running_ends core seen wanted h n e next at running is there = record {
  issued = λ res bytes p. absurd (let f : true ≡ false = sym running ∙ (issued_end core.setup (world core.setup h) n res bytes p.lawful.0).idle in cc);
  finished = λ res bytes p. there res bytes (subst (λ f. FinishFits f wanted res bytes) (sym is) (part_finish core seen wanted h n res bytes at p));
}

pub idle_ends : (core : Core) (seen : List Event) (wanted : Option Cqe) (h : History) (n : ℕ) (next : List Event)
    → StandsAt core seen wanted h → is_running (world core.setup h).requests n ≡ false
    → ((res : ℤ) (bytes : List ℕ) → IsPart core.setup seen ((step.Issue n, answer.Ended res bytes) ∷ h) → Contains next (step.Issue n, answer.Ended res bytes))
    → HasEndsOf core.setup seen h n next
idle_ends core seen wanted h n next at idle there = grind arith

running_outstanding : (g : Setup) (h : History) (n : ℕ) → IsLawfulApart g h
    → is_running (world g h).requests n ≡ true → is_outstanding (world g h).requests n ≡ true
running_outstanding g h n lawful running = grind (arith, sound_of, and_from)

-- what may end is outstanding
ends_outstanding : (g : Setup) (seen : List Event) (h : History) (n : ℕ) (next : List Event)
    → IsLawfulApart g h
    → (is_outstanding (world g h).requests n ≡ true → HasEndsOf g seen h n next)
    → HasEndsOf g seen h n next
ends_outstanding g seen h n next lawful there = record {
  issued = λ res bytes p. (there (issued_end g (world g h) n res bytes p.lawful.0).outstanding).issued res bytes p;
  finished = λ res bytes p. (there (running_outstanding g h n lawful (finish_runs (is_running (world g h).requests n) res bytes p.lawful.0))).finished res bytes p;
}

pub no_ends : (g : Setup) (seen : List Event) (h : History) (n : ℕ) (next : List Event)
    → IsLawfulApart g h → None ≡ entry_outstanding (world g h).requests n → HasEndsOf g seen h n next
no_ends g seen h n next lawful none = grind (arith, ends_outstanding)

pub accepted_ends : (g : Setup) (seen : List Event) (h : History) (n : ℕ) (next : List Event)
    → IsLawfulApart g h
    → (n < length (world g h).requests.accepted → HasEndsOf g seen h n next)
    → HasEndsOf g seen h n next
accepted_ends g seen h n next lawful there =
    ends_outstanding g seen h n next lawful (λ is. there (outstanding_accepted (world g h).requests n is))

pub entry_told : (r : Requests) (n : ℕ) (told : Sqe) → Some told ≡ entry_outstanding r n
    → told ≡ entry_of r n
entry_told r n told is = grind arith

-- The step that was seen next.

pub seen_right : (g : Setup) (seen : List Event) (h : History) (old new : List Event) (x : Event)
    → new ≡ old ++ x ∷ [] → is_hidden x.0 ≡ false → slice_get seen (length (seen_in h)) ≡ Some x
    → IsPart g seen h → AreNext g seen h old → AreNext g seen h new
seen_right g seen h old new x is shown next p are y there lawful =
    elim (Contains-push_cases old x y (subst (λ xs. Contains xs y) is there)) [
      | inl before ↦ are y before lawful
      | inr same ↦ subst (λ z. IsPart g seen (z ∷ h)) same (seen_part g seen h x p shown next (subst (λ z. IsLawfulApart g (z ∷ h)) (sym same) lawful))
    ]

same_event : (seen : List Event) (place : ℕ) (x y : Event) → slice_get seen place ≡ Some x
    → slice_get seen place ≡ Some y → x ≡ y
same_event seen place x y a b = same_Some x y (sym a ∙ b)

pub seen_added : (g : Setup) (seen : List Event) (h : History) (new : List Event) (x y : Event)
    → Contains new x → slice_get seen (length (seen_in h)) ≡ Some x → is_hidden y.0 ≡ false
    → IsPart g seen (y ∷ h) → Contains new y
seen_added g seen h new x y there next shown p =
    subst (λ z. Contains new z) (same_event seen (length (seen_in h)) x y next (part_seen g seen h y p shown)) there

pub hidden_never : (g : Setup) (seen : List Event) (h : History) (x y : Event)
    → is_hidden x.0 ≡ true → slice_get seen (length (seen_in h)) ≡ Some x → is_hidden y.0 ≡ false
    → IsPart g seen (y ∷ h) → ⊥
hidden_never g seen h x y hidden next shown p = grind (arith, (part_seen g seen h y p shown))

pub none_next : (g : Setup) (seen : List Event) (h : History) (y : Event)
    → None ≡ slice_get seen (length (seen_in h)) → is_hidden y.0 ≡ false → IsPart g seen (y ∷ h) → ⊥
none_next g seen h y none shown p = none-some y (none ∙ part_seen g seen h y p shown)

pub none_right : (g : Setup) (seen : List Event) (h : History) (next : List Event) → next ≡ []
    → AreNext g seen h next
none_right g seen h next is x there lawful = grind arith

pub by_asked : (b : Bool) (P : Bool → Type 0) → P false → P true → P b
by_asked b P otherwise given = grind arith
