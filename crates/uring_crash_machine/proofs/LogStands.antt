-- What the log of a file keeps: whatever of the file runs on the machine runs on the volume.
use Rattle.std.proofs.Common.{◌≡◌, ◌<◌, ◌≤◌, ◌==◌, ◌⊎◌, ℕ, ℤ, suc, Bool, true, false, not, cond, List, [], ◌∷◌, ◌++◌, length, take, Option, Some, None, refl, sym, subst, ap, ◌∙◌, inl, inr, arith}
use Rattle.std.specs.Ordering.{int_eq}
use Rattle.uring_crash_machine.proofs.Common.{Answer, Change, IsLawfulApart, Log, Op, Requests, Setup, Step, SyncEnded, SyncFailed, WriteEnded, and_from, and_parts, append-nil, begun_of, both_ways, cases_Bool, change_begun, change_by, change_ended, cond-false, cond-true, entry_of, eq-eqb, eqb-true, false_from_ne_true, finished_of, has_ended, has_started, is_one_of, is_running, issued, log_from, log_of, log_on, logged, named, no_request, number_of, operation_of, operation_running, or_left, or_right, pos, requests_of, running_syncs, running_writes, shown_length, sync_with, with_call, with_ended, with_event, with_started, with_sync, with_write, world, write_ended}
use Rattle.uring_files.specs.declared.change.Change.TheVariants.{Nothing, Put, Sync}
use Rattle.std.proofs.lemmas.List.Elements.{filter-append}
use Rattle.std.proofs.lemmas.List.Folds.{list_any-append}
use Rattle.uring_linux.specs.LinuxRequests.{LinuxRequests}
use Rattle.uring_rules.specs.Rules.{with_issued_end}
use Rattle.uring_files.proofs.Changes.{change_before}
use Rattle.uring_volume.specs.Writes as piece
use Rattle.uring_volume.specs.Events.{History}
use Rattle.uring_volume.specs.declared.event.SyncRange.TheVariants.{Whole}
use Rattle.uring_core.specs.Events.{started_by, end_told_by}
use Rattle.uring_core.specs.Histories as core
use Rattle.uring_core.proofs.ListCounts.{any_new}
use Rattle.uring_core.proofs.Moves.{Move, stays, accepts, starts, ends_doomed, ends_cancel, ends_run, move_of}
use Rattle.uring_core.proofs.Running.{entry_stays}
use Rattle.uring_core.proofs.Sound.{sound_of}
use Rattle.uring_core.proofs.SoundRequests.{IsSoundRequests}
use Rattle.uring_crash_machine.proofs.LogLengths.{shown_grows}
use Rattle.uring_crash_machine.proofs.LogNumbers.{number_short, number_old, number_once, in_more, in_new, in_but}

-- a write runs on the volume under a number
pub record Runs (h : History) (k off : ℕ) (bytes : List ℕ) : Type 0 where
  pub positive : 0 < k
  pub running : is_one_of k (running_writes h) ≡ true
  pub is : named k (issued h) ≡ record { number = k; off = off; bytes = bytes } ∷ []

-- what the operation of a request changes of the file, as a log shows it
abbrev pub change_of : Requests → ℕ → Log → Change
change_of r n log = change_by (operation_of (entry_of r n)) (shown_length log.volume)

-- what runs of the file, as the requests stand, runs in the log
pub record Stands (fd : ℤ) (r : Requests) (log : Log) : Type 0 where
  pub file : log.fd ≡ fd
  pub next : log.volume.next ≡ suc (length log.requests)
  pub fresh : (k : ℕ) → log.volume.next ≤ k → named k (issued log.volume.history) ≡ []
  pub writes : (m : ℕ) (own : ℤ) (off len : ℕ) (bytes : List ℕ) (given : ℤ)
      → is_running r m ≡ true
      → change_of r m log ≡ Put own off len bytes given → int_eq log.fd own ≡ true
      → Runs log.volume.history (number_of m log.requests) off (take len bytes)
  pub syncs : (m : ℕ) (own : ℤ) → is_running r m ≡ true
      → change_of r m log ≡ Sync own → int_eq log.fd own ≡ true
      → (0 < number_of m log.requests)
      × (is_one_of (number_of m log.requests) (running_syncs log.volume.history) ≡ true)

stands_first : (unit : ℕ) (first : List ℕ) (fd : ℤ) → Stands fd no_request (log_on unit first fd)
stands_first unit first fd = grind arith

-- Who runs.

-- as one starts
run_or : (r : Requests) (n m : ℕ) → is_running (with_started r n) m ≡ true
    → (is_running r m ≡ true) ⊎ (n ≡ m)
run_or r n m is = grind (arith, any_new, and_from)

not_ended : (b : Bool) → not b ≡ true → b ≡ false
not_ended b e = grind arith

-- as one ends
run_less : (r : Requests) (n : ℕ) (res : ℤ) (bytes : List ℕ) (m : ℕ) → is_running (with_ended r n res bytes) m ≡ true
    → (is_running r m ≡ true) × (m ≡ n → ⊥)
run_less r n res bytes m is = grind (arith, not_ended, list_any-append, false_from_ne_true, both_ways)

-- fewer run, and the log stays
stands_less : (fd : ℤ) (r q : Requests) (log : Log)
    → ((m : ℕ) → is_running q m ≡ true → (is_running r m ≡ true) × (operation_of (entry_of q m) ≡ operation_of (entry_of r m)))
    → Stands fd r log → Stands fd q log
stands_less fd r q log less s = record {
  file = s.file;
  next = s.next;
  fresh = s.fresh;
  writes = λ m own off len bytes given runs is on. let old = less m runs in s.writes m own off len bytes given old.0 (ap (λ (o : Op). change_by o (shown_length log.volume)) (sym old.1) ∙ is) on;
  syncs = λ m own runs is on. let old = less m runs in s.syncs m own old.0 (ap (λ (o : Op). change_by o (shown_length log.volume)) (sym old.1) ∙ is) on;
}

-- A request begins to run.

-- the same change
as_of : (r : Requests) (n m : ℕ) (log : Log) (c other : Change) → n ≡ m → change_of r n log ≡ c
    → change_of r m log ≡ other
    → c ≡ other
as_of r n m log c other same a b = sym a ∙ ap (λ (k : ℕ). change_of r k log) same ∙ b

-- one that isn't logged
stands_unlogged : (fd : ℤ) (r : Requests) (n : ℕ) (log : Log)
    → ((own : ℤ) (off len : ℕ) (bytes : List ℕ) (given : ℤ) → change_of r n log ≡ Put own off len bytes given → int_eq log.fd own ≡ true → ⊥)
    → ((own : ℤ) → change_of r n log ≡ Sync own → int_eq log.fd own ≡ true → ⊥)
    → Stands fd r log → Stands fd (with_started r n) log
stands_unlogged fd r n log no_write no_sync s = record {
  file = s.file;
  next = s.next;
  fresh = s.fresh;
  writes = λ m own off len bytes given runs is on. elim (run_or r n m runs) [
    | inl old ↦ s.writes m own off len bytes given old is on
    | inr new ↦ absurd (no_write own off len bytes given (ap (λ (k : ℕ). change_of r k log) new ∙ is) on)
  ];
  syncs = λ m own runs is on. elim (run_or r n m runs) [
    | inl old ↦ s.syncs m own old is on
    | inr new ↦ absurd (no_sync own (ap (λ (k : ℕ). change_of r k log) new ∙ is) on)
  ];
}

-- whoever ran before and isn't this one
ran : (r : Requests) (n m : ℕ) → (n == m) ≡ false → is_running (with_started r n) m ≡ true
    → is_running r m ≡ true
ran r n m other runs = grind (arith, run_or, both_ways)

-- the writes of a number, with one more
named_old : (k : ℕ) (ws : List piece.Write) (w : piece.Write) → (w.number == k) ≡ false
    → named k (ws ++ w ∷ []) ≡ named k ws
named_old k ws w other = grind (arith, filter-append, cond-false, append-nil)

named_new : (k : ℕ) (ws : List piece.Write) (w : piece.Write) → w.number ≡ k → named k ws ≡ []
    → named k (ws ++ w ∷ []) ≡ w ∷ []
named_new k ws w same none = grind (arith, filter-append, cond-true)

-- a write that begins
stands_write : (fd : ℤ) (r : Requests) (n : ℕ) (log : Log) (own : ℤ) (off len : ℕ) (bytes : List ℕ) (given : ℤ)
    → change_of r n log ≡ Put own off len bytes given → Stands fd r log
    → Stands fd (with_started r n) (record log { volume = with_write off (take len bytes) log.volume; requests = n ∷ log.requests })
stands_write fd r n log own off len bytes given is s =
    let h : History = log.volume.history in
    let next : ℕ = log.volume.next in
    let w : piece.Write = record { number = next; off = off; bytes = take len bytes } in
    let now : History = (with_write off (take len bytes) log.volume).history in
    record {
      file = s.file;
      next = omega (arith, s.next);
      fresh = grind (arith, named_old, false_from_ne_true);
      writes = λ m own' off' len' bytes' given' runs is' on. elim (cases_Bool (n == m)) [
        | inl same ↦
            let at : Put own off len bytes given ≡ Put own' off' len' bytes' given' = as_of r n m log _ _ (eqb-true n m same) is is' in
            let offs : off ≡ off' = cc in
            let lens : len ≡ len' = cc in
            let all : bytes ≡ bytes' = cc in
            let put : take len bytes ≡ take len' bytes' = ap (λ (l : ℕ). take l bytes) lens ∙ ap (take len') all in
            let number : next ≡ number_of m (n ∷ log.requests) = s.next ∙ sym (cond-true (n == m) (suc (length log.requests)) (number_of m log.requests) same) in
            let runs_now : Runs now next off (take len bytes) = record { positive = omega (arith, s.next); running = in_new next (running_writes h); is = named_new next (issued h) w refl (s.fresh next (omega arith)) } in
            subst (λ (k : ℕ). Runs now k off' (take len' bytes')) number (subst (λ (o : ℕ). Runs now next o (take len' bytes')) offs (subst (λ (bs : List ℕ). Runs now next off bs) put runs_now))
        | inr other ↦
            let old = s.writes m own' off' len' bytes' given' (ran r n m other runs) is' on in
            let k : ℕ = number_of m log.requests in
            let differs : (next == k) ≡ false = false_from_ne_true (next == k) (λ e. omega (arith, eqb-true next k e, s.next, number_short m log.requests)) in
            subst (λ (j : ℕ). Runs now j off' (take len' bytes')) (sym (number_old n m log.requests other))
            (record { positive = old.positive; running = in_more next k (running_writes h) old.running; is = named_old k (issued h) w differs ∙ old.is })
      ];
      syncs = λ m own' runs is' on. elim (cases_Bool (n == m)) [
        | inl same ↦ grind (arith, (eqb-true n m same))
        | inr other ↦
            subst (λ (j : ℕ). (0 < j) × (is_one_of j (running_syncs now) ≡ true)) (sym (number_old n m log.requests other))
            (s.syncs m own' (ran r n m other runs) is' on)
      ];
    }

-- a sync that begins
stands_sync : (fd : ℤ) (r : Requests) (n : ℕ) (log : Log) (own : ℤ)
    → change_of r n log ≡ Sync own → Stands fd r log
    → Stands fd (with_started r n) (record log { volume = with_sync Whole log.volume; requests = n ∷ log.requests })
stands_sync fd r n log own is s =
    let h : History = log.volume.history in
    let next : ℕ = log.volume.next in
    let now : History = (with_sync Whole log.volume).history in
    record {
      file = s.file;
      next = omega (arith, s.next);
      fresh = λ k from. s.fresh k (omega (arith, from));
      writes = λ m own' off' len' bytes' given' runs is' on. elim (cases_Bool (n == m)) [
        | inl same ↦ grind (arith, (eqb-true n m same))
        | inr other ↦
            let old = s.writes m own' off' len' bytes' given' (ran r n m other runs) is' on in
            subst (λ (j : ℕ). Runs now j off' (take len' bytes')) (sym (number_old n m log.requests other))
            (record { positive = old.positive; running = old.running; is = old.is })
      ];
      syncs = λ m own' runs is' on. elim (cases_Bool (n == m)) [
        | inl same ↦ grind (arith, (in_new next (running_syncs h)))
        | inr other ↦
            let old = s.syncs m own' (ran r n m other runs) is' on in
            subst (λ (j : ℕ). (0 < j) × (is_one_of j (running_syncs now) ≡ true)) (sym (number_old n m log.requests other))
            (old.0, in_more next (number_of m log.requests) (running_syncs h) old.1)
      ];
    }

-- any change that begins
stands_begun : (fd : ℤ) (r : Requests) (n : ℕ) (log : Log) (c : Change) → change_of r n log ≡ c → Stands fd r log
    → Stands fd (with_started r n) (change_begun n c log)
stands_begun fd r n log (Put own off len bytes given) is s =
    let test : Bool = int_eq log.fd own in
    let more : Log = record log { volume = with_write off (take len bytes) log.volume; requests = n ∷ log.requests } in
    elim (cases_Bool test) [
      | inl sure ↦ subst (Stands fd (with_started r n)) (sym (cond-true test more log sure)) (stands_write fd r n log own off len bytes given is s)
      | inr fails ↦
          let no_write : (own' : ℤ) (off' len' : ℕ) (bytes' : List ℕ) (given' : ℤ) → change_of r n log ≡ Put own' off' len' bytes' given' → int_eq log.fd own' ≡ true → ⊥ =
          λ own' off' len' bytes' given' is' on.
          let at : Put own off len bytes given ≡ Put own' off' len' bytes' given' = sym is ∙ is' in
          let owns : own ≡ own' = cc in
          both_ways test fails (ap (int_eq log.fd) owns ∙ on) in
          let no_sync : (own' : ℤ) → change_of r n log ≡ Sync own' → int_eq log.fd own' ≡ true → ⊥ =
          λ own' is' on. let at : Put own off len bytes given ≡ Sync own' = sym is ∙ is' in absurd cc in
          subst (Stands fd (with_started r n)) (sym (cond-false test more log fails)) (stands_unlogged fd r n log no_write no_sync s)
    ]
stands_begun fd r n log (Sync own) is s =
    let test : Bool = int_eq log.fd own in
    let more : Log = record log { volume = with_sync Whole log.volume; requests = n ∷ log.requests } in
    elim (cases_Bool test) [
      | inl sure ↦ subst (Stands fd (with_started r n)) (sym (cond-true test more log sure)) (stands_sync fd r n log own is s)
      | inr fails ↦
          let no_write : (own' : ℤ) (off' len' : ℕ) (bytes' : List ℕ) (given' : ℤ) → change_of r n log ≡ Put own' off' len' bytes' given' → int_eq log.fd own' ≡ true → ⊥ =
          λ own' off' len' bytes' given' is' on. let at : Sync own ≡ Put own' off' len' bytes' given' = sym is ∙ is' in absurd cc in
          let no_sync : (own' : ℤ) → change_of r n log ≡ Sync own' → int_eq log.fd own' ≡ true → ⊥ =
          λ own' is' on.
          let at : Sync own ≡ Sync own' = sym is ∙ is' in
          let owns : own ≡ own' = cc in
          both_ways test fails (ap (int_eq log.fd) owns ∙ on) in
          subst (Stands fd (with_started r n)) (sym (cond-false test more log fails)) (stands_unlogged fd r n log no_write no_sync s)
    ]
stands_begun fd r n log Nothing is s = stands_unlogged fd r n log
    (λ own off len bytes given is' on. let at : Nothing ≡ Put own off len bytes given = sym is ∙ is' in absurd cc)
    (λ own is' on. let at : Nothing ≡ Sync own = sym is ∙ is' in absurd cc) s

-- A request that ran ends.

stands_after : (fd : ℤ) (r : Requests) (n : ℕ) (res : ℤ) (bytes : List ℕ) (log : Log) → Stands fd r log
    → Stands fd (with_ended r n res bytes) log
stands_after fd r n res bytes log s =
    stands_less fd r (with_ended r n res bytes) log (λ m runs. ((run_less r n res bytes m runs).0, refl)) s

-- its write ends on the volume
stands_write_end : (fd : ℤ) (r : Requests) (n : ℕ) (res : ℤ) (bytes : List ℕ) (log : Log) → Stands fd r log
    → Stands fd (with_ended r n res bytes) (record log { volume = with_event (WriteEnded (number_of n log.requests)) log.volume })
stands_write_end fd r n res bytes log s =
    let k : ℕ = number_of n log.requests in
    let longer = shown_grows k log.volume in
    record {
      file = s.file;
      next = s.next;
      fresh = s.fresh;
      writes = λ m own off len put given runs is on.
          let less = run_less r n res bytes m runs in
          let before = change_before (operation_of (entry_of r m)) (shown_length log.volume) _ (Put own off len put given) longer (λ e. absurd cc) is in
          let old = s.writes m own off len put given less.0 before on in
          record {
            positive = old.positive;
            running = in_but k (number_of m log.requests) (running_writes log.volume.history) (λ same. less.1 (number_once m n log.requests old.positive same)) old.running;
            is = old.is;
          };
      syncs = grind (arith, run_less, change_before);
    }

-- its sync ends there, with success or without
stands_sync_end : (fd : ℤ) (r : Requests) (n : ℕ) (res : ℤ) (bytes : List ℕ) (log : Log) (good : Bool) → Stands fd r log
    → Stands fd (with_ended r n res bytes) (record log { volume = with_event (cond good (SyncEnded (number_of n log.requests)) (SyncFailed (number_of n log.requests))) log.volume })
stands_sync_end fd r n res bytes log true s =
    let k : ℕ = number_of n log.requests in
    record {
      file = s.file;
      next = s.next;
      fresh = s.fresh;
      writes = λ m own off len put given runs is on.
          let old = s.writes m own off len put given (run_less r n res bytes m runs).0 is on in
          record { positive = old.positive; running = old.running; is = old.is };
      syncs = λ m own runs is on.
          let less = run_less r n res bytes m runs in
          let old = s.syncs m own less.0 is on in
          (old.0, in_but k (number_of m log.requests) (running_syncs log.volume.history) (λ same. less.1 (number_once m n log.requests old.0 same)) old.1);
    }
stands_sync_end fd r n res bytes log false s =
    let k : ℕ = number_of n log.requests in
    record {
      file = s.file;
      next = s.next;
      fresh = s.fresh;
      writes = λ m own off len put given runs is on.
          let old = s.writes m own off len put given (run_less r n res bytes m runs).0 is on in
          record { positive = old.positive; running = old.running; is = old.is };
      syncs = λ m own runs is on.
          let less = run_less r n res bytes m runs in
          let old = s.syncs m own less.0 is on in
          (old.0, in_but k (number_of m log.requests) (running_syncs log.volume.history) (λ same. less.1 (number_once m n log.requests old.0 same)) old.1);
    }

stands_finished : (fd : ℤ) (r : Requests) (n : ℕ) (res : ℤ) (bytes : List ℕ) (log : Log) (c : Change) → Stands fd r log
    → Stands fd (with_ended r n res bytes) (change_ended n c res log)
stands_finished fd r n res bytes log (Put own off len put given) s =
    grind (arith, (stands_write_end fd r n res bytes log s), (stands_after fd r n res bytes log s), Log, write_ended, cond-true, cond-false)
stands_finished fd r n res bytes log (Sync own) s =
    grind (arith, (stands_sync_end fd r n res bytes log (int_eq res (pos 0)) s), (stands_after fd r n res bytes log s), Log, sync_with, cond, cond-true, cond-false)
stands_finished fd r n res bytes log Nothing s = stands_after fd r n res bytes log s

-- An event.

-- one that starts and ends none
pub quiet : (r q : Requests) (s : Step) (a : Answer) (log : Log) → started_by (s, a) ≡ None
    → end_told_by (s, a) ≡ None → logged r q s a log ≡ log
quiet r q s a log no_start no_end = grind arith

-- the operation of one that has just been started
pub runs_now : (r : Requests) (n : ℕ) → has_ended r n ≡ false
    → operation_running (with_started r n) n ≡ Some (operation_of (entry_of r n))
runs_now r n going = grind (arith, list_any-append, or_right, or_left, eq-eqb)

-- fewer run as one ends as it is issued
issued_less : (linux : Bool) (r : Requests) (n : ℕ) (res : ℤ) (m : ℕ)
    → is_running (with_issued_end linux r n res) m ≡ true
    → (is_running r m ≡ true) × (operation_of (entry_of (with_issued_end linux r n res) m) ≡ operation_of (entry_of r m))
issued_less linux r n res m runs = grind (arith, run_less)

stands_move : (fd : ℤ) (linux : Bool) (l : LinuxRequests) (q : Requests) (s : Step) (a : Answer) (log : Log)
    → Move linux l s a q → IsSoundRequests l.requests → Stands fd l.requests log
    → Stands fd q (logged l.requests q s a log)
stands_move fd linux l q s a log (stays _ _ no_start no_end) i st =
    subst (Stands fd l.requests) (sym (quiet l.requests l.requests s a log no_start no_end)) st
stands_move fd linux l q s a log (accepts accepted missed head entries) i st =
    let r = l.requests in
    stands_less fd r (with_call r entries) log
    (λ m runs. (runs, ap operation_of (entry_stays r entries m (i.started_accepted m (and_parts (has_started r m) (not (has_ended r m)) runs).0)))) st
stands_move fd linux l q s a log (starts n outstanding idle spared ready no_cancel) i st =
    let r = l.requests in
    let going : has_ended r n ≡ false = not_ended (has_ended r n) (and_parts _ (not (has_ended r n)) outstanding).1 in
    subst (λ (o : Option Op). Stands fd (with_started r n) (begun_of n o log)) (sym (runs_now r n going))
    (stands_begun fd r n log (change_of r n log) refl st)
stands_move fd linux l q s a log (ends_doomed n outstanding) i st =
    stands_less fd l.requests q log (issued_less linux l.requests n _) st
stands_move fd linux l q s a log (ends_cancel n outstanding spared ready cancel) i st =
    stands_less fd l.requests q log (issued_less linux l.requests n _) st
stands_move fd linux l q s a log (ends_run n res bytes running) i st =
    let r = l.requests in
    subst (λ (o : Option Op). Stands fd (with_ended r n res bytes) (finished_of n o res log)) (sym (cond-true (is_running r n) (Some (operation_of (entry_of r n))) None running))
    (stands_finished fd r n res bytes log (change_of r n log) st)

pub stands_from : (unit : ℕ) (first : List ℕ) (g : Setup) (fd : ℤ) (h : core.History) → IsLawfulApart g h
    → Stands fd (world g h).requests (log_from (log_on unit first fd) g h)
stands_from unit first g fd [] lawful = stands_first unit first fd
stands_from unit first g fd ((s, a) ∷ before) lawful =
    stands_move fd g.linux (requests_of (world g before)) (world g ((s, a) ∷ before)).requests s a (log_from (log_on unit first fd) g before)
    (move_of g s a before lawful) (sound_of g before lawful.1).requests (stands_from unit first g fd before lawful.1)

pub stands_of : (unit : ℕ) (g : Setup) (fd : ℤ) (h : core.History) → IsLawfulApart g h
    → Stands fd (world g h).requests (log_of unit g fd h)
stands_of unit g fd h lawful = stands_from unit [] g fd h lawful
