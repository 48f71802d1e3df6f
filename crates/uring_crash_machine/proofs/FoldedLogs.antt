-- Logs that were folded: each event makes of them what it makes of the others.
use Rattle.std.proofs.Common.{◌≡◌, ◌==◌, ◌<◌, ◌≤◌, ◌+◌, ◌&&◌, ℕ, ℤ, zero, suc, Bool, true, false, cond, List, [], ◌∷◌, length, map, max, take, get_or, Option, Some, None, refl, sym, subst, ap, ◌∙◌, inl, inr, arith}
use Rattle.std.specs.Ordering.{int_eq}
use Rattle.uring_crash_machine.proofs.Common.{Answer, Change, FileContents, History, IsIn, IsShort, Log, Op, Requests, Setup, Step, SyncEnded, SyncFailed, Volume, Write, WriteEnded, begun_of, cases_Bool, change_begun, change_by, change_ended, cond-false, cond-true, end_of, ended, finished_as, finished_of, is_one_of, issued, issued_as, length_over, log_from, log_on, logged, logs_on, max_len, named, number_of, pos, running_syncs, running_writes, set, shown_length, slice_get, sync_with, with_event, with_sync, with_write, world, write_ended}
use Rattle.uring_entry.specs.Requests.{operation_running}
use Rattle.uring_files.specs.declared.change.Change.TheVariants.{Nothing, Put, Sync}
use Rattle.uring_core.specs.declared.answer.Answer.TheVariants as answer
use Rattle.uring_core.specs.declared.step.Step.TheVariants as step
use Rattle.uring_volume.specs.Events as volume
use Rattle.uring_volume.specs.Events.{writes}
use Rattle.uring_volume.specs.Folds.{IsFoldedFrom}
use Rattle.uring_volume.specs.Volume.{IsHeld, IsSound}
use Rattle.uring_volume.specs.declared.event.Event.TheVariants.{WriteIssued}
use Rattle.uring_volume.specs.declared.event.SyncRange.TheVariants.{Whole}
use Rattle.uring_volume.proofs.Chosen.{of_issued}
use Rattle.uring_volume.proofs.Fitting.{in_either}
use Rattle.uring_volume.proofs.KeptLists.{of_filter}
use Rattle.uring_volume.proofs.Folded.{folded_more, folded_none}
use Rattle.uring_volume.proofs.FoldedEvents.{folded_sync, folded_sync_end, folded_sync_failure, folded_write, folded_write_end}
use Rattle.uring_volume.proofs.Numbers.{held_sync, held_sync_end, held_sync_failure, held_write, held_write_end}
use Rattle.uring_volume.proofs.ShownLength.{over_from}
use Rattle.uring_crash_machine.specs.Logs.{AreFolded, AreWhollyFolded, IsFoldedLog, IsWhollyFolded}

-- What is sound stays so.

held_of : (v : Volume) → IsSound v → IsHeld v (running_writes v.history) (running_syncs v.history)
held_of v s = record { sound = s; writes = refl; syncs = refl }

sound_first : (unit : ℕ) (first : List ℕ) → 0 < unit → IsSound (record { unit = unit; first = first; history = []; next = 1 })
sound_first unit first some = grind arith

sound_begun : (n : ℕ) (c : Change) (log : Log) → IsSound log.volume → IsSound (change_begun n c log).volume
sound_begun n (Put fd off len bytes given) log s = elim (cases_Bool (int_eq log.fd fd)) [
  | inl here ↦
      subst (λ (l : Log). IsSound l.volume) (sym (cond-true (int_eq log.fd fd) (record log { volume = with_write off (take len bytes) log.volume; requests = n ∷ log.requests }) log here))
      (held_write log.volume off (take len bytes) (running_writes log.volume.history) (running_syncs log.volume.history) (held_of log.volume s)).sound
  | inr other ↦
      subst (λ (l : Log). IsSound l.volume) (sym (cond-false (int_eq log.fd fd) (record log { volume = with_write off (take len bytes) log.volume; requests = n ∷ log.requests }) log other)) s
]
sound_begun n (Sync fd) log s = elim (cases_Bool (int_eq log.fd fd)) [
  | inl here ↦
      subst (λ (l : Log). IsSound l.volume) (sym (cond-true (int_eq log.fd fd) (record log { volume = with_sync Whole log.volume; requests = n ∷ log.requests }) log here))
      (held_sync log.volume Whole (running_writes log.volume.history) (running_syncs log.volume.history) (held_of log.volume s)).sound
  | inr other ↦
      subst (λ (l : Log). IsSound l.volume) (sym (cond-false (int_eq log.fd fd) (record log { volume = with_sync Whole log.volume; requests = n ∷ log.requests }) log other)) s
]
sound_begun n Nothing log s = s

sound_write_ended : (k : ℕ) (v : Volume) → IsSound v → IsSound (write_ended k v)
sound_write_ended k v s = elim (cases_Bool (is_one_of k (running_writes v.history))) [
  | inl runs ↦
      subst IsSound (sym (cond-true (is_one_of k (running_writes v.history)) (with_event (WriteEnded k) v) v runs))
      (held_write_end v k (running_writes v.history) (running_syncs v.history) (held_of v s) runs).sound
  | inr idle ↦ subst IsSound (sym (cond-false (is_one_of k (running_writes v.history)) (with_event (WriteEnded k) v) v idle)) s
]

sound_sync_ended : (res : ℤ) (k : ℕ) (v : Volume) → IsSound v → IsSound (sync_with res k v)
sound_sync_ended res k v s =
    let good = (held_sync_end v k (running_writes v.history) (running_syncs v.history) (held_of v s)).sound in
    let bad = (held_sync_failure v k (running_writes v.history) (running_syncs v.history) (held_of v s)).sound in
    elim (cases_Bool (is_one_of k (running_syncs v.history))) [
      | inl runs ↦ elim (cases_Bool (int_eq res (pos 0))) [
        | inl well ↦ grind (arith, runs, well, good)
        | inr ill ↦ grind (arith, runs, ill, bad)
      ]
      | inr idle ↦ grind (arith, idle, s)
    ]

sound_ended : (n : ℕ) (c : Change) (res : ℤ) (log : Log) → IsSound log.volume → IsSound (change_ended n c res log).volume
sound_ended n (Put fd off len bytes given) res log s = elim (cases_Bool (int_eq log.fd fd && int_eq res given)) [
  | inl here ↦
      subst (λ (l : Log). IsSound l.volume) (sym (cond-true (int_eq log.fd fd && int_eq res given) (record log { volume = write_ended (number_of n log.requests) log.volume }) log here))
      (sound_write_ended (number_of n log.requests) log.volume s)
  | inr other ↦
      subst (λ (l : Log). IsSound l.volume) (sym (cond-false (int_eq log.fd fd && int_eq res given) (record log { volume = write_ended (number_of n log.requests) log.volume }) log other)) s
]
sound_ended n (Sync fd) res log s = elim (cases_Bool (int_eq log.fd fd)) [
  | inl here ↦
      subst (λ (l : Log). IsSound l.volume) (sym (cond-true (int_eq log.fd fd) (record log { volume = sync_with res (number_of n log.requests) log.volume }) log here))
      (sound_sync_ended res (number_of n log.requests) log.volume s)
  | inr other ↦
      subst (λ (l : Log). IsSound l.volume) (sym (cond-false (int_eq log.fd fd) (record log { volume = sync_with res (number_of n log.requests) log.volume }) log other)) s
]
sound_ended n Nothing res log s = s

sound_begun_of : (n : ℕ) (op : Option Op) (log : Log) → IsSound log.volume → IsSound (begun_of n op log).volume
sound_begun_of n None log s = s
sound_begun_of n (Some op) log s = sound_begun n (change_by op (shown_length log.volume)) log s

sound_finished_of : (n : ℕ) (op : Option Op) (res : ℤ) (log : Log) → IsSound log.volume → IsSound (finished_of n op res log).volume
sound_finished_of n None res log s = s
sound_finished_of n (Some op) res log s = sound_ended n (change_by op (shown_length log.volume)) res log s

sound_issued : (n : ℕ) (op : Option Op) (a : Answer) (log : Log) → IsSound log.volume → IsSound (issued_as n op a log).volume
sound_issued n op answer.Run log s = sound_begun_of n op log s
sound_issued n op a log s = s

sound_finished : (n : ℕ) (op : Option Op) (a : Answer) (log : Log) → IsSound log.volume → IsSound (finished_as n op a log).volume
sound_finished n op (answer.Ended res bytes) log s = sound_finished_of n op res log s
sound_finished n op a log s = s

sound_logged : (r q : Requests) (s : Step) (a : Answer) (log : Log) → IsSound log.volume → IsSound (logged r q s a log).volume
sound_logged r q (step.Issue n) a log s = sound_issued n (operation_running q n) a log s
sound_logged r q (step.Finish n) a log s = sound_finished n (operation_running r n) a log s
sound_logged r q _ a log s = s

pub sound_from : (unit : ℕ) (first : List ℕ) (fd : ℤ) (g : Setup) (h : History) → 0 < unit
    → IsSound (log_from (log_on unit first fd) g h).volume
sound_from unit first fd g [] some = sound_first unit first some
sound_from unit first fd g ((s, a) ∷ before) some =
    sound_logged (world g before).requests (world g ((s, a) ∷ before)).requests s a (log_from (log_on unit first fd) g before) (sound_from unit first fd g before some)

-- What is folded stays so.

pub folded_log_none : (log : Log) → IsFoldedLog log log
folded_log_none log = record { fd = refl; volume = folded_none log.volume; requests = refl }

folded_begun : (n : ℕ) (c : Change) (old new : Log) → IsSound old.volume → IsFoldedLog old new
    → IsFoldedLog (change_begun n c old) (change_begun n c new)
folded_begun n (Put fd off len bytes given) old new s f =
    let same : int_eq new.fd fd ≡ int_eq old.fd fd = ap (λ (x : ℤ). int_eq x fd) f.fd in
    let more : Log → Log = λ l. record l { volume = with_write off (take len bytes) l.volume; requests = n ∷ l.requests } in
    elim (cases_Bool (int_eq old.fd fd)) [
      | inl here ↦
          subst (λ (l : Log). IsFoldedLog l (change_begun n (Put fd off len bytes given) new)) (sym (cond-true (int_eq old.fd fd) (more old) old here))
          (subst (λ (l : Log). IsFoldedLog (more old) l) (sym (cond-true (int_eq new.fd fd) (more new) new (same ∙ here)))
          (record { fd = f.fd; volume = folded_write old.volume new.volume off (take len bytes) s f.volume; requests = ap (λ (q : List ℕ). n ∷ q) f.requests }))
      | inr other ↦
          subst (λ (l : Log). IsFoldedLog l (change_begun n (Put fd off len bytes given) new)) (sym (cond-false (int_eq old.fd fd) (more old) old other))
          (subst (λ (l : Log). IsFoldedLog old l) (sym (cond-false (int_eq new.fd fd) (more new) new (same ∙ other))) f)
    ]
folded_begun n (Sync fd) old new s f =
    let same : int_eq new.fd fd ≡ int_eq old.fd fd = ap (λ (x : ℤ). int_eq x fd) f.fd in
    let more : Log → Log = λ l. record l { volume = with_sync Whole l.volume; requests = n ∷ l.requests } in
    elim (cases_Bool (int_eq old.fd fd)) [
      | inl here ↦
          subst (λ (l : Log). IsFoldedLog l (change_begun n (Sync fd) new)) (sym (cond-true (int_eq old.fd fd) (more old) old here))
          (subst (λ (l : Log). IsFoldedLog (more old) l) (sym (cond-true (int_eq new.fd fd) (more new) new (same ∙ here)))
          (record { fd = f.fd; volume = folded_sync old.volume new.volume Whole f.volume; requests = ap (λ (q : List ℕ). n ∷ q) f.requests }))
      | inr other ↦
          subst (λ (l : Log). IsFoldedLog l (change_begun n (Sync fd) new)) (sym (cond-false (int_eq old.fd fd) (more old) old other))
          (subst (λ (l : Log). IsFoldedLog old l) (sym (cond-false (int_eq new.fd fd) (more new) new (same ∙ other))) f)
    ]
folded_begun n Nothing old new s f = f

folded_write_ended : (k : ℕ) (old new : Volume) → IsSound old → IsFoldedFrom old new → IsFoldedFrom (write_ended k old) (write_ended k new)
folded_write_ended k old new s f =
    let same : is_one_of k (running_writes new.history) ≡ is_one_of k (running_writes old.history) = ap (λ (ns : List ℕ). is_one_of k ns) f.writes_run in
    elim (cases_Bool (is_one_of k (running_writes old.history))) [
      | inl runs ↦
          subst (λ (v : Volume). IsFoldedFrom v (write_ended k new)) (sym (cond-true (is_one_of k (running_writes old.history)) (with_event (WriteEnded k) old) old runs))
          (subst (λ (v : Volume). IsFoldedFrom (with_event (WriteEnded k) old) v) (sym (cond-true (is_one_of k (running_writes new.history)) (with_event (WriteEnded k) new) new (same ∙ runs)))
          (folded_write_end old new k s f runs))
      | inr idle ↦
          subst (λ (v : Volume). IsFoldedFrom v (write_ended k new)) (sym (cond-false (is_one_of k (running_writes old.history)) (with_event (WriteEnded k) old) old idle))
          (subst (λ (v : Volume). IsFoldedFrom old v) (sym (cond-false (is_one_of k (running_writes new.history)) (with_event (WriteEnded k) new) new (same ∙ idle))) f)
    ]

-- the end of a sync, with success or not, if it runs or not
abbrev sync_ends : (good runs : Bool) (k : ℕ) → Volume → Volume
sync_ends true true k v = with_event (SyncEnded k) v
sync_ends false true k v = with_event (SyncFailed k) v
sync_ends true false k v = v
sync_ends false false k v = v

sync_by : (good runs : Bool) (k : ℕ) (v : Volume) → cond runs (with_event (cond good (SyncEnded k) (SyncFailed k)) v) v ≡ sync_ends good runs k v
sync_by true true k v = refl
sync_by false true k v = refl
sync_by true false k v = refl
sync_by false false k v = refl

sync_is : (res : ℤ) (k : ℕ) (v : Volume) → sync_with res k v ≡ sync_ends (int_eq res (pos 0)) (is_one_of k (running_syncs v.history)) k v
sync_is res k v = sync_by (int_eq res (pos 0)) (is_one_of k (running_syncs v.history)) k v

folded_sync_by : (good runs : Bool) (k : ℕ) (old new : Volume) → IsFoldedFrom old new → IsFoldedFrom (sync_ends good runs k old) (sync_ends good runs k new)
folded_sync_by true true k old new f = folded_sync_end old new k f
folded_sync_by false true k old new f = folded_sync_failure old new k f
folded_sync_by true false k old new f = f
folded_sync_by false false k old new f = f

folded_sync_ended : (res : ℤ) (k : ℕ) (old new : Volume) → IsFoldedFrom old new → IsFoldedFrom (sync_with res k old) (sync_with res k new)
folded_sync_ended res k old new f =
    let good : Bool = int_eq res (pos 0) in
    subst (λ (v : Volume). IsFoldedFrom v (sync_with res k new)) (sym (sync_is res k old))
    (subst (λ (v : Volume). IsFoldedFrom (sync_ends good (is_one_of k (running_syncs old.history)) k old) v) (sym (sync_is res k new))
    (subst (λ (b : Bool). IsFoldedFrom (sync_ends good (is_one_of k (running_syncs old.history)) k old) (sync_ends good b k new)) (sym (ap (λ (ns : List ℕ). is_one_of k ns) f.syncs_run))
    (folded_sync_by good (is_one_of k (running_syncs old.history)) k old new f)))

folded_ended : (n : ℕ) (c : Change) (res : ℤ) (old new : Log) → IsSound old.volume → IsFoldedLog old new
    → IsFoldedLog (change_ended n c res old) (change_ended n c res new)
folded_ended n (Put fd off len bytes given) res old new s f =
    let same : (int_eq new.fd fd && int_eq res given) ≡ (int_eq old.fd fd && int_eq res given) = ap (λ (x : ℤ). int_eq x fd && int_eq res given) f.fd in
    let less : Log → Log = λ l. record l { volume = write_ended (number_of n l.requests) l.volume } in
    elim (cases_Bool (int_eq old.fd fd && int_eq res given)) [
      | inl here ↦
          subst (λ (l : Log). IsFoldedLog l (change_ended n (Put fd off len bytes given) res new)) (sym (cond-true (int_eq old.fd fd && int_eq res given) (less old) old here))
          (subst (λ (l : Log). IsFoldedLog (less old) l) (sym (cond-true (int_eq new.fd fd && int_eq res given) (less new) new (same ∙ here)))
          (record {
            fd = f.fd;
            volume = subst (λ (q : List ℕ). IsFoldedFrom (write_ended (number_of n old.requests) old.volume) (write_ended (number_of n q) new.volume)) (sym f.requests) (folded_write_ended (number_of n old.requests) old.volume new.volume s f.volume);
            requests = f.requests;
          }))
      | inr other ↦
          subst (λ (l : Log). IsFoldedLog l (change_ended n (Put fd off len bytes given) res new)) (sym (cond-false (int_eq old.fd fd && int_eq res given) (less old) old other))
          (subst (λ (l : Log). IsFoldedLog old l) (sym (cond-false (int_eq new.fd fd && int_eq res given) (less new) new (same ∙ other))) f)
    ]
folded_ended n (Sync fd) res old new s f =
    let same : int_eq new.fd fd ≡ int_eq old.fd fd = ap (λ (x : ℤ). int_eq x fd) f.fd in
    let less : Log → Log = λ l. record l { volume = sync_with res (number_of n l.requests) l.volume } in
    elim (cases_Bool (int_eq old.fd fd)) [
      | inl here ↦
          subst (λ (l : Log). IsFoldedLog l (change_ended n (Sync fd) res new)) (sym (cond-true (int_eq old.fd fd) (less old) old here))
          (subst (λ (l : Log). IsFoldedLog (less old) l) (sym (cond-true (int_eq new.fd fd) (less new) new (same ∙ here)))
          (record {
            fd = f.fd;
            volume = subst (λ (q : List ℕ). IsFoldedFrom (sync_with res (number_of n old.requests) old.volume) (sync_with res (number_of n q) new.volume)) (sym f.requests) (folded_sync_ended res (number_of n old.requests) old.volume new.volume f.volume);
            requests = f.requests;
          }))
      | inr other ↦
          subst (λ (l : Log). IsFoldedLog l (change_ended n (Sync fd) res new)) (sym (cond-false (int_eq old.fd fd) (less old) old other))
          (subst (λ (l : Log). IsFoldedLog old l) (sym (cond-false (int_eq new.fd fd) (less new) new (same ∙ other))) f)
    ]
folded_ended n Nothing res old new s f = f

folded_begun_of : (n : ℕ) (op : Option Op) (old new : Log) → IsSound old.volume → IsFoldedLog old new → IsFoldedLog (begun_of n op old) (begun_of n op new)
folded_begun_of n None old new s f = f
folded_begun_of n (Some op) old new s f =
    subst (λ (len : ℕ). IsFoldedLog (begun_of n (Some op) old) (change_begun n (change_by op len) new)) (sym f.volume.shown)
    (folded_begun n (change_by op (shown_length old.volume)) old new s f)

folded_finished_of : (n : ℕ) (op : Option Op) (res : ℤ) (old new : Log) → IsSound old.volume → IsFoldedLog old new → IsFoldedLog (finished_of n op res old) (finished_of n op res new)
folded_finished_of n None res old new s f = f
folded_finished_of n (Some op) res old new s f =
    subst (λ (len : ℕ). IsFoldedLog (finished_of n (Some op) res old) (change_ended n (change_by op len) res new)) (sym f.volume.shown)
    (folded_ended n (change_by op (shown_length old.volume)) res old new s f)

folded_issued : (n : ℕ) (op : Option Op) (a : Answer) (old new : Log) → IsSound old.volume → IsFoldedLog old new → IsFoldedLog (issued_as n op a old) (issued_as n op a new)
folded_issued n op answer.Run old new s f = folded_begun_of n op old new s f
folded_issued n op a old new s f = f

folded_finished : (n : ℕ) (op : Option Op) (a : Answer) (old new : Log) → IsSound old.volume → IsFoldedLog old new → IsFoldedLog (finished_as n op a old) (finished_as n op a new)
folded_finished n op (answer.Ended res bytes) old new s f = folded_finished_of n op res old new s f
folded_finished n op a old new s f = f

folded_logged : (r q : Requests) (s : Step) (a : Answer) (old new : Log) → IsSound old.volume → IsFoldedLog old new
    → IsFoldedLog (logged r q s a old) (logged r q s a new)
folded_logged r q (step.Issue n) a old new s f = folded_issued n (operation_running q n) a old new s f
folded_logged r q (step.Finish n) a old new s f = folded_finished n (operation_running r n) a old new s f
folded_logged r q _ a old new s f = f

-- All logs of an epoch.

-- with one event more
pub all_logged : (unit place : ℕ) (files : List FileContents) (g : Setup) (h : History) (s : Step) (a : Answer) (logs : List Log) → 0 < unit
    → AreFolded (map (λ log. log_from log g h) (logs_on unit place files)) logs
    → AreFolded (map (λ log. log_from log g ((s, a) ∷ h)) (logs_on unit place files)) (map (λ log. logged (world g h).requests (world g ((s, a) ∷ h)).requests s a log) logs)
all_logged unit place [] g h s a [] some f = tt
all_logged unit place [] g h s a (log ∷ logs) some f = absurd f
all_logged unit place (file ∷ files) g h s a [] some f = absurd f
all_logged unit place (file ∷ files) g h s a (log ∷ logs) some f = (
  folded_logged (world g h).requests (world g ((s, a) ∷ h)).requests s a (log_from (log_on unit file.bytes (pos place)) g h) log (sound_from unit file.bytes (pos place) g h some) f.0,
  all_logged unit (suc place) files g h s a logs some f.1,
)

-- none is folded
pub all_unfolded : (logs : List Log) → AreFolded logs logs
all_unfolded [] = tt
all_unfolded (log ∷ logs) = (folded_log_none log, all_unfolded logs)

folded_log_more : (old mid new : Log) → IsSound old.volume → IsFoldedLog old mid → IsFoldedLog mid new → IsFoldedLog old new
folded_log_more old mid new s a b = record {
  fd = b.fd ∙ a.fd;
  volume = folded_more old.volume mid.volume new.volume s.lawful a.volume b.volume;
  requests = b.requests ∙ a.requests;
}

-- folded once more
pub all_more : (unit place : ℕ) (files : List FileContents) (g : Setup) (h : History) (mid logs : List Log) → 0 < unit
    → AreFolded (map (λ log. log_from log g h) (logs_on unit place files)) mid → AreFolded mid logs
    → AreFolded (map (λ log. log_from log g h) (logs_on unit place files)) logs
all_more unit place [] g h [] [] some f t = tt
all_more unit place [] g h [] (log ∷ logs) some f t = absurd t
all_more unit place [] g h (mid ∷ mids) logs some f t = absurd f
all_more unit place (file ∷ files) g h [] logs some f t = absurd f
all_more unit place (file ∷ files) g h (mid ∷ mids) [] some f t = absurd t
all_more unit place (file ∷ files) g h (mid ∷ mids) (log ∷ logs) some f t = (
  folded_log_more (log_from (log_on unit file.bytes (pos place)) g h) mid log (sound_from unit file.bytes (pos place) g h some) f.0 t.0,
  all_more unit (suc place) files g h mids logs some f.1 t.1,
)

-- the log at a place
pub folded_at : (old new : List Log) (place : ℕ) (log : Log) → AreFolded old new → slice_get old place ≡ Some log
    → (now : Log) × (slice_get new place ≡ Some now) × IsFoldedLog log now
folded_at [] new place log f is = let e : None ≡ Some log = is in absurd cc
folded_at (x ∷ xs) [] place log f is = absurd f
folded_at (x ∷ xs) (y ∷ ys) zero log f is =
    let e : Some x ≡ Some log = is in
    let same : x ≡ log = cc in
    (y, refl, subst (λ (l : Log). IsFoldedLog l y) same f.0)
folded_at (x ∷ xs) (y ∷ ys) (suc place) log f is = folded_at xs ys place log f.1 is

pub folded_many : (old new : List Log) → AreFolded old new → length new ≡ length old
folded_many [] [] f = refl
folded_many [] (y ∷ ys) f = absurd f
folded_many (x ∷ xs) [] f = absurd f
folded_many (x ∷ xs) (y ∷ ys) f = ap suc (folded_many xs ys f.1)

-- One after the other is folded.

-- so many are, and the others aren't yet
abbrev pub FoldedUpTo : ℕ → (old now : List Log) → Type 0
FoldedUpTo zero old now = now ≡ old
FoldedUpTo (suc n) [] [] = Unit {0}
FoldedUpTo (suc n) (before ∷ more) (after ∷ others) = IsFoldedLog before after × IsWhollyFolded after × FoldedUpTo n more others
FoldedUpTo (suc n) old now = ⊥

folded_more_one : (n : ℕ) (old now : List Log) (d new : Log) → FoldedUpTo n old now → n < length now
    → IsFoldedLog (get_or now n d) new → IsWhollyFolded new → FoldedUpTo (suc n) old (set now n new)
folded_more_one zero old [] d new f within one whole = absurd (omega (arith, within))
folded_more_one zero old (y ∷ ys) d new f within one whole =
    subst (λ (ls : List Log). FoldedUpTo 1 ls (new ∷ ys)) f (one, whole, refl)
folded_more_one (suc n) [] [] d new f within one whole = absurd (omega (arith, within))
folded_more_one (suc n) [] (y ∷ ys) d new f within one whole = absurd f
folded_more_one (suc n) (x ∷ xs) [] d new f within one whole = absurd f
folded_more_one (suc n) (x ∷ xs) (y ∷ ys) d new f within one whole =
    (f.0, f.1, folded_more_one n xs ys d new f.2 (omega (arith, within)) one whole)

-- one more is, wholly
pub folded_next : (n m : ℕ) (old now : List Log) (d new : Log) → FoldedUpTo n old now → n < length now → m ≡ suc n
    → IsFoldedLog (get_or now n d) new → IsWhollyFolded new → FoldedUpTo m old (set now n new)
folded_next n m old now d new f within next one whole =
    subst (λ k. FoldedUpTo k old (set now n new)) (sym next) (folded_more_one n old now d new f within one whole)

-- one more is, as far as memory goes
pub folded_cut : (n : ℕ) (old now : List Log) (d new : Log) → FoldedUpTo n old now → n < length now
    → IsFoldedLog (get_or now n d) new → AreFolded old (set now n new)
folded_cut zero old [] d new f within one = absurd (omega (arith, within))
folded_cut zero old (y ∷ ys) d new f within one =
    subst (λ (ls : List Log). AreFolded ls (new ∷ ys)) f (one, all_unfolded ys)
folded_cut (suc n) [] [] d new f within one = absurd (omega (arith, within))
folded_cut (suc n) [] (y ∷ ys) d new f within one = absurd f
folded_cut (suc n) (x ∷ xs) [] d new f within one = absurd f
folded_cut (suc n) (x ∷ xs) (y ∷ ys) d new f within one =
    (f.0, folded_cut n xs ys d new f.2 (omega (arith, within)) one)

-- as many are as there are
pub all_folded : (n : ℕ) (old now : List Log) → FoldedUpTo n old now → length now ≤ n → AreFolded old now × AreWhollyFolded now
all_folded zero old [] f long = subst (λ (ls : List Log). AreFolded ls [] × AreWhollyFolded []) f (tt, tt)
all_folded zero old (y ∷ ys) f long = absurd (omega (arith, long))
all_folded (suc n) [] [] f long = (tt, tt)
all_folded (suc n) [] (y ∷ ys) f long = absurd f
all_folded (suc n) (x ∷ xs) [] f long = absurd f
all_folded (suc n) (x ∷ xs) (y ∷ ys) f long =
    let rest = all_folded n xs ys f.2 (omega (arith, long)) in
    ((f.0, rest.0), (f.1, rest.1))

-- A volume that was folded is as short.

shown_from : (len : ℕ) (ws : List Write) → len ≤ length_over len ws
shown_from len ws = omega (arith, over_from len ws)

shown_short : (len : ℕ) (ws : List Write) (most : ℕ) → len ≤ most → ((w : Write) → IsIn w ws → end_of w ≤ most) → length_over len ws ≤ most
shown_short len [] most short each = short
shown_short len (w ∷ ws) most short each =
    let e = each w (inl refl) in
    shown_short (max len (end_of w)) ws most (omega (arith, short, e)) (λ v among. each v (inr among))

in_named : (n : ℕ) (ws : List Write) (w : Write) → IsIn w (named n ws) → IsIn w ws
in_named n ws w among = of_filter (λ (v : Write). v.number == n) w ws among

ended_issued : (h : volume.History) (w : Write) → IsIn w (ended h) → IsIn w (writes h)
ended_issued [] w among = among
ended_issued (WriteIssued v ∷ earlier) w among = inr (ended_issued earlier w among)
ended_issued (WriteEnded n ∷ earlier) w among = elim (in_either w (ended earlier) (named n (issued earlier)) among) [
  | inl old ↦ ended_issued earlier w old
  | inr new ↦ of_issued earlier w (in_named n (issued earlier) w new)
]
ended_issued (e ∷ earlier) w among = ended_issued earlier w among

pub folded_short : (old new : Volume) → IsFoldedFrom old new → IsShort old → IsShort new
folded_short old new f s =
    let all = shown_short (length old.first) (ended old.history) max_len s.first (λ w among. s.writes w (ended_issued old.history w among)) in
    let one = shown_from (length new.first) (ended new.history) in
    record {
      first = omega (arith, one, f.shown, all);
      writes = λ w among. s.writes w (f.none_new w among);
    }

-- And one with a write more that ends no later than a file may.
pub short_written : (off : ℕ) (bytes : List ℕ) (v : Volume) → off + length bytes ≤ max_len → IsShort v → IsShort (with_write off bytes v)
short_written off bytes v within s =
    let x : Write = record { number = v.next; off = off; bytes = bytes } in
    let end : end_of x ≤ max_len = elim (cases_Bool (length bytes == 0)) [
      | inl none ↦ omega (arith, cond-true (length bytes == 0) 0 (off + length bytes) none, within)
      | inr some ↦ omega (arith, cond-false (length bytes == 0) 0 (off + length bytes) some, within)
    ] in
    record {
      first = s.first;
      writes = λ w among. elim among [
        | inl mine ↦ subst (λ (y : Write). end_of y ≤ max_len) (sym mine) end
        | inr old ↦ s.writes w old
      ];
    }
