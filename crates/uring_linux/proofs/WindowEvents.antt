-- What each event changes in what is kept.
use Rattle.std.proofs.Common.{◌≡◌, ◌≢◌, ℕ, suc, ◌+◌, ◌-◌, ◌<◌, ◌≤◌, ℤ, length, Bool, true, false, not, ◌||◌, ◌==◌, List, [], ◌∷◌, ◌++◌, set, slice_get, Some, refl, sym, ◌∙◌, ap, arith, inl, inr, length-append, length-set, zero}
use Rattle.uring_linux.proofs.Common.{IsGrouped, IsNew, IsWithin, Request, Requests, Shows, Sqe, Tells, Window, added_other, asks_to_drain, asks_to_skip, at, cases_eq, cases_lt, end_of, entry_of, entry_of_accepted_at, entry_of_accepted_other, entry_same, has_ended, has_ended_other, has_ended_same, has_failed_accepted, has_failed_other, has_failed_same, has_failed_unended, has_skipped, is_last, is_last_cut, is_last_cut_last, is_linked, is_refused_drain, is_running_ended_same, is_running_started_other, is_running_started_same, is_success, ne_eqb, new_request, no_request, or-false, slice_get-get_or, slice_get_past, slice_get_within, some_below, some_below_same, with_accepted, with_cut, with_ended, with_started}
use Rattle.std.proofs.lemmas.List.{get_or-set_same, get_or-set_other}
use Rattle.std.proofs.Math.Seq.{get_or-append_seam}
use Rattle.uring_linux.proofs.WindowLemmas.{at_low, at_high}

-- Lists.

pub push_here : (xs : List Request) (x : Request) → slice_get (xs ++ x ∷ []) (length xs) ≡ Some x
push_here xs x = grind (arith, (length-append xs (x ∷ [])), (get_or-append_seam xs x [] x), slice_get-get_or)

pub push_other : (xs : List Request) (x : Request) (k : ℕ) → k ≢ length xs
    → slice_get (xs ++ x ∷ []) k ≡ slice_get xs k
push_other [] x zero ne = absurd (ne refl)
push_other [] x (suc k) ne = refl
push_other (y ∷ xs) x zero ne = refl
push_other (y ∷ xs) x (suc k) ne = push_other xs x k (λ e. ne (ap suc e))

pub is_set_here : (xs : List Request) (x : Request) (i : ℕ) → i < length xs → slice_get (set xs i x) i ≡ Some x
is_set_here xs x i lt = grind (arith, (length-set xs i x), (get_or-set_same xs i x x lt), slice_get-get_or)

pub set_other : (xs : List Request) (x : Request) (i k : ℕ) → k ≢ i
    → slice_get (set xs i x) k ≡ slice_get xs k
set_other xs x i k ne = grind (arith, (length-set xs i x), (get_or-set_other xs i k x x ne), slice_get-get_or, slice_get_past)

-- What is kept.

pub at_within : (s : Window) (n : ℕ) (q : Request) → at s n ≡ Some q → IsWithin s n
at_within s n q e = grind (arith, (cases_lt n s.first), (at_low s n), (at_high s n), (slice_get_within s.items (n - s.first) q))

pub at_push_here : (s : Window) (q : Request) (room : ℕ)
    → at (record { first = s.first; items = s.items ++ q ∷ []; room = room }) (end_of s) ≡ Some q
at_push_here s q room = grind (arith, (push_here s.items q), at_high)

pub at_push_other : (s : Window) (q : Request) (room n : ℕ) → n ≢ end_of s
    → at (record { first = s.first; items = s.items ++ q ∷ []; room = room }) n ≡ at s n
at_push_other s q room n ne = grind (arith, at_low, at_high, push_other)

pub at_set_here : (s : Window) (q : Request) (n : ℕ) → IsWithin s n
    → at (record s { items = set s.items (n - s.first) q }) n ≡ Some q
at_set_here s q n w = grind (arith, at_high, is_set_here)

pub at_set_other : (s : Window) (q : Request) (n k : ℕ) → s.first ≤ n → k ≢ n
    → at (record s { items = set s.items (n - s.first) q }) k ≡ at s k
at_set_other s q n k le ne = grind (arith, at_low, at_high, set_other)

-- What is kept shows these requests, whatever it says of groups.
pub record Keeps (s : Window) (r : Requests) : Type 0 where
  pub count : end_of s ≡ length r.accepted
  pub told : (n : ℕ) (q : Request) → at s n ≡ Some q → Tells q r n
  pub gone : (n : ℕ) → n < s.first → has_ended r n ≡ true
  pub begins : (k : ℕ) → suc k ≡ s.first → is_last r k ≡ true
  pub later : (n : ℕ) → length r.accepted ≤ n → IsNew r n

pub keeps : (s : Window) (r : Requests) → Shows s r → Keeps s r
keeps s r h = assumption

pub shows : (s : Window) (r : Requests) → Keeps s r
    → ((n : ℕ) (q : Request) → at s n ≡ Some q → IsGrouped q.group r n) → Shows s r
shows s r h grouped = assumption

-- An entry is accepted.

pub refused_accepted : (r : Requests) (e : Sqe) (k : ℕ) → k < length r.accepted
    → is_refused_drain (with_accepted r e) k ≡ is_refused_drain r k
refused_accepted r e k lt = grind (arith, (entry_same r e asks_to_drain k lt), (entry_same r e asks_to_skip), some_below_same)

pub last_accepted : (r : Requests) (e : Sqe) (k : ℕ) → k < length r.accepted
    → is_last (with_accepted r e) k ≡ is_last r k
last_accepted r e k lt = grind (arith, (entry_same r e is_linked k lt))

tells_accepted : (q : Request) (r : Requests) (e : Sqe) (k : ℕ) → Tells q r k → k < length r.accepted
    → IsNew r (length r.accepted) → Tells q (with_accepted r e) k
tells_accepted q r e k t lt new =
    grind (arith, entry_of_accepted_other, entry_same, refused_accepted, last_accepted, has_failed_accepted)

pub accepted_keeps : (s : Window) (q : Request) (room : ℕ) (r : Requests) (e : Sqe) → Keeps s r
    → Tells q (with_accepted r e) (length r.accepted)
    → Keeps (record { first = s.first; items = s.items ++ q ∷ []; room = room }) (with_accepted r e)
accepted_keeps s q room r e h t =
    let long = length-append s.items (q ∷ []) in
    let more = length-append r.accepted (e ∷ []) in
    let count = h.count in
    record {
      count = omega (arith, long, more, count);
      told = λ n x is.
          elim (cases_eq n (end_of s)) [
            | inl same ↦ grind (arith, at_push_here)
            | inr other ↦
                let was : at s n ≡ Some x = sym (at_push_other s q room n other) ∙ is in
                let w = at_within s n x was in
                tells_accepted x r e n (h.told n x was) (omega (arith, w.high, count)) (h.later (length r.accepted) (omega arith))
          ];
      gone = h.gone;
      begins = λ k is. last_accepted r e k (omega (arith, is, count)) ∙ h.begins k is;
      later = λ n le. let new = h.later n (omega (arith, le, more)) in assumption;
    }

-- One request is written anew.

record Follows (r t : Requests) (n : ℕ) : Type 0 where
  pub count : length t.accepted ≡ length r.accepted
  pub others : (q : Request) (k : ℕ) → k ≢ n → Tells q r k → Tells q t k
  pub gone : (k : ℕ) → has_ended r k ≡ true → has_ended t k ≡ true
  pub begins : (k : ℕ) → is_last r k ≡ true → is_last t k ≡ true
  pub later : (k : ℕ) → length r.accepted ≤ k → IsNew r k → IsNew t k

written_keeps : (s : Window) (q : Request) (r t : Requests) (n : ℕ) → Keeps s r → IsWithin s n
    → Follows r t n → Tells q t n → Keeps (record s { items = set s.items (n - s.first) q }) t
written_keeps s q r t n h w f here =
    let long = length-set s.items (n - s.first) q in
    let count = h.count in
    record {
      count = omega (arith, long, count, f.count);
      told = λ k x is.
          elim (cases_eq k n) [
            | inl same ↦ grind (arith, (at_set_here s q n w))
            | inr other ↦ f.others x k other (h.told k x (sym (at_set_other s q n k w.low other) ∙ is))
          ];
      gone = λ k lt. f.gone k (h.gone k lt);
      begins = λ k is. f.begins k (h.begins k is);
      later = λ k le. let few : length r.accepted ≤ k = omega (arith, le, f.count) in f.later k few (h.later k few);
    }

-- A request starts.

tells_started : (q : Request) (r : Requests) (n k : ℕ) → k ≢ n → Tells q r k → Tells q (with_started r n) k
tells_started q r n k ne t = let running = t.running ∙ sym (is_running_started_other r n k ne) in assumption

pub started_keeps : (s : Window) (q : Request) (r : Requests) (n : ℕ) → Keeps s r → at s n ≡ Some q
    → has_ended r n ≡ false
    → Keeps (record s { items = set s.items (n - s.first) (record q { is_running = true }) }) (with_started r n)
started_keeps s q r n h here going =
    let w = at_within s n q here in
    let t = h.told n q here in
    written_keeps s (record q { is_running = true }) r (with_started r n) n h w
    (record {
      count = refl;
      others = λ x k ne was. tells_started x r n k ne was;
      gone = λ k e. e;
      begins = λ k e. e;
      later = λ k le new.
          let started = added_other (λ m. m == k) r.started n (ne_eqb n k (λ e. absurd (omega (arith, e, le, w.high, h.count)))) ∙ new.started in assumption;
    })
    (let running = sym (is_running_started_same r n going) in assumption)

-- A request ends.

tells_ended : (q : Request) (r : Requests) (n : ℕ) (res : ℤ) (bytes : List ℕ) (k : ℕ) → k ≢ n → Tells q r k
    → Tells q (with_ended r n res bytes) k
tells_ended q r n res bytes k ne t = grind (arith, has_ended_other, has_failed_other)

pub ended_keeps : (s : Window) (q : Request) (r : Requests) (n : ℕ) (res : ℤ) (bytes : List ℕ) (failed : Bool) → Keeps s r
    → at s n ≡ Some q → has_ended r n ≡ false → failed ≡ not (is_success q.entry res)
    → Keeps (record s { items = set s.items (n - s.first) (record q { is_running = false; has_ended = true; has_failed = failed }) }) (with_ended r n res bytes)
ended_keeps s q r n res bytes failed h here going is =
    let w = at_within s n q here in
    let t = h.told n q here in
    written_keeps s (record q { is_running = false; has_ended = true; has_failed = failed }) r (with_ended r n res bytes) n h w
    (record {
      count = refl;
      others = λ x k ne was. tells_ended x r n res bytes k ne was;
      gone = grind (arith, has_ended_other);
      begins = λ k e. e;
      later = λ k le new.
          let ended = has_ended_other r n res bytes k (λ e. absurd (omega (arith, e, le, w.high, h.count))) ∙ new.ended in assumption;
    })
    (record {
      entry = t.entry;
      faulty = t.faulty;
      refused = t.refused;
      last = t.last;
      running = sym (is_running_ended_same r n res bytes);
      ended = sym (has_ended_same r n res bytes);
      failed = is ∙ ap (λ e. not (is_success e res)) t.entry ∙ sym (has_failed_same r n res bytes going);
    })

-- A call closes.

pub last_kept : (r : Requests) (k : ℕ) → is_last r k ≡ true → is_last (with_cut r) k ≡ true
last_kept r k was = grind (arith, is_last_cut_last, is_last_cut)

pub new_cut : (r : Requests) (k : ℕ) → length r.accepted ≤ k → IsNew r k → IsNew (with_cut r) k
new_cut r k le new = grind (arith, added_other)

tells_cut : (q : Request) (r : Requests) (k : ℕ) → suc k ≢ length r.accepted → Tells q r k
    → Tells q (with_cut r) k
tells_cut q r k ne t = let last = t.last ∙ sym (is_last_cut r k ne) in assumption

pub cut_keeps : (s : Window) (q : Request) (r : Requests) (n : ℕ) → Keeps s r → at s n ≡ Some q
    → n + 1 ≡ end_of s
    → Keeps (record s { items = set s.items (n - s.first) (record q { is_last = true }) }) (with_cut r)
cut_keeps s q r n h here is =
    let w = at_within s n q here in
    let t = h.told n q here in
    written_keeps s (record q { is_last = true }) r (with_cut r) n h w
    (record {
      count = refl;
      others = λ x k ne was. tells_cut x r k (λ e. ne (omega (arith, e, is, h.count))) was;
      gone = λ k e. e;
      begins = last_kept r;
      later = new_cut r;
    })
    (let last = sym (is_last_cut_last r n (omega (arith, is, h.count))) in assumption)

pub cut_keeps_none : (s : Window) (r : Requests) → Keeps s r → end_of s ≤ s.first
    → Keeps s (with_cut r)
cut_keeps_none s r h none = record {
  count = h.count;
  told = λ n q is. let w = at_within s n q is in absurd (omega (arith, w.low, w.high, none));
  gone = h.gone;
  begins = λ k is. last_kept r k (h.begins k is);
  later = λ k le. new_cut r k le (h.later k le);
}

-- What is kept, whatever room there is.

pub roomed : (first : ℕ) (items : List Request) (room other : ℕ) (r : Requests)
    → Shows (record { first = first; items = items; room = room }) r
    → Shows (record { first = first; items = items; room = other }) r
unfolding at
roomed first items room other r h = assumption

-- whether skipped success was asked for, after one more entry
pub skipped_accepted : (r : Requests) (e : Sqe) (b : Bool)
    → b ≡ some_below (λ m. asks_to_skip (entry_of r m)) (length r.accepted)
    → (b || asks_to_skip e) ≡ some_below (λ m. asks_to_skip (entry_of (with_accepted r e) m)) (length r.accepted + 1)
skipped_accepted r e b is =
    let more : length r.accepted + 1 ≡ suc (length r.accepted) = omega arith in
    rw (is, more, entry_of_accepted_at r e, some_below_same (λ m. asks_to_skip (entry_of (with_accepted r e) m)) (λ m. asks_to_skip (entry_of r m)) (length r.accepted) (λ m low. entry_same r e asks_to_skip m low)) refl

pub tells_new : (r : Requests) (e : Sqe) (b : Bool) (n : ℕ) → IsNew r (length r.accepted)
    → b ≡ has_skipped (with_accepted r e) (length r.accepted)
    → Tells (new_request e b n) (with_accepted r e) (length r.accepted)
tells_new r e b n new is =
    grind (arith, (entry_of_accepted_at r e), (has_failed_unended (with_accepted r e) (length r.accepted) new.ended), or-false)

pub none_shows : Shows (record { first = 0; items = []; room = 0 }) no_request
none_shows = grind (arith, at_within)
