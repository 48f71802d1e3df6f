-- What a read of the volume shows is the file of the machine.
use Rattle.std.proofs.Common.{◌≡◌, ◌&&◌, ℕ, zero, suc, ℤ, Bool, true, false, cond, List, [], ◌∷◌, ◌++◌, length, take, Option, Some, None, refl, sym, subst, ap, ◌∙◌, inl, inr}
use Rattle.uring_crash_machine.proofs.Common.{Answer, Change, EndsOn, Epoch, FileContents, IsLawful, IsLawfulFrom, IsNoFinish, IsOutcome, IsShown, Log, Op, Requests, Setup, Step, SyncEnded, SyncFailed, Volume, WriteEnded, WritesOver, after, and_from, begun_of, both_ways, bytes_after, cases_Bool, change_begun, change_by, change_ended, cond-false, cond-true, empty_file, empty_files, ended, entry_of, file_asked, file_at, file_changed, file_of, files_after, files_from, files_of, finished_of, is_on, is_one_of, is_running, length_over, log_from, log_of, log_on, logged, negsuc, number_of, operation_of, operation_running, overwritten, pos, replicate, requests_of, running_syncs, running_writes, shown_length, slice_get, sync_with, with_event, with_sync, with_write, world, write_ended}
use Rattle.uring_files.specs.declared.change.Change.TheVariants.{Nothing, Put, Sync}
use Rattle.std.specs.Option.{option_map_or}
use Rattle.std.specs.Ordering.{int_eq}
use Rattle.std.proofs.lemmas.Option.{get_or_from_slice_get}
use Rattle.std.proofs.lemmas.Bool.Decides.{Decides-int_eq}
use Rattle.uring_files.proofs.Changes.{there_before, changes_tell_bytes, changes_are_asked}
use Rattle.uring_volume.specs.declared.event.SyncRange.TheVariants.{Whole}
use Rattle.uring_linux.specs.LinuxRequests.{LinuxRequests}
use Rattle.uring_core.specs.Histories as core
use Rattle.uring_core.specs.declared.step.Step.TheVariants as step
use Rattle.uring_core.specs.declared.answer.Answer.TheVariants as answer
use Rattle.uring_core.proofs.FileHistory.{files_ended, files_kept_from}
use Rattle.uring_core.proofs.Moves.{Move, stays, accepts, starts, ends_doomed, ends_cancel, ends_run, move_of}
use Rattle.uring_crash_machine.proofs.LawfulFrom.{lawful_new, apart_from}
use Rattle.uring_crash_machine.proofs.LogBytes.{shown_more, shown_same}
use Rattle.uring_crash_machine.proofs.EpochCrashes.{from_keeps}
use Rattle.uring_crash_machine.proofs.LogStands.{Stands, change_of, stands_from, quiet}

-- what the log shows of the file of its descriptor, if there is one
abbrev Shows : List ℕ → ℤ → List FileContents → Log → Type 0
Shows first fd files log = (file : FileContents) → file_of files fd ≡ Some file
    → IsShown first log.volume.history file.bytes

-- At first.

first_file : (count k : ℕ) (file : FileContents)
    → slice_get (replicate count empty_file) k ≡ Some file → file.bytes ≡ []
first_file zero k file is = let e : None ≡ Some file = is in absurd cc
first_file (suc count) zero file is =
    let e : Some empty_file ≡ Some file = is in
    let same : empty_file ≡ file = cc in
    ap (λ (f : FileContents). f.bytes) (sym same)
first_file (suc count) (suc k) file is = first_file count k file is

first_of : (count : ℕ) (fd : ℤ) (file : FileContents) → file_of (empty_files count) fd ≡ Some file
    → file.bytes ≡ []
first_of count (pos k) file is = first_file count k file is
first_of count (negsuc below) file is = let e : None ≡ Some file = is in absurd cc

shows_first : (first bytes : List ℕ) → bytes ≡ first → IsShown first [] bytes
shows_first first bytes same =
    subst (λ (bs : List ℕ). IsShown first [] bs) (sym same) (record { len = refl; bytes = λ k within. refl })

-- What ends no write shows the same.

shows_same : (first : List ℕ) (fd : ℤ) (files : List FileContents) (log now : Log)
    → ended now.volume.history ≡ ended log.volume.history → Shows first fd files log → Shows first fd files now
shows_same first fd files log now same shows = λ file is. shown_same first log.volume.history now.volume.history file.bytes same (shows file is)

begun_same : (n : ℕ) (c : Change) (log : Log)
    → ended (change_begun n c log).volume.history ≡ ended log.volume.history
begun_same n (Put own off len bytes given) log =
    let test : Bool = int_eq log.fd own in
    let more : Log = record log { volume = with_write off (take len bytes) log.volume; requests = n ∷ log.requests } in
    elim (cases_Bool test) [
      | inl sure ↦ ap (λ (l : Log). ended l.volume.history) (cond-true test more log sure)
      | inr fails ↦ ap (λ (l : Log). ended l.volume.history) (cond-false test more log fails)
    ]
begun_same n (Sync own) log =
    let test : Bool = int_eq log.fd own in
    let more : Log = record log { volume = with_sync Whole log.volume; requests = n ∷ log.requests } in
    elim (cases_Bool test) [
      | inl sure ↦ ap (λ (l : Log). ended l.volume.history) (cond-true test more log sure)
      | inr fails ↦ ap (λ (l : Log). ended l.volume.history) (cond-false test more log fails)
    ]
begun_same n Nothing log = refl

begun_of_same : (n : ℕ) (op : Option Op) (log : Log)
    → ended (begun_of n op log).volume.history ≡ ended log.volume.history
begun_of_same n None log = refl
begun_of_same n (Some op) log = begun_same n (change_by op (shown_length log.volume)) log

sync_same : (res : ℤ) (k : ℕ) (v : Volume) (good runs : Bool)
    → ended (cond runs (with_event (cond good (SyncEnded k) (SyncFailed k)) v) v).history ≡ ended v.history
sync_same res k v true true = refl
sync_same res k v false true = refl
sync_same res k v good false = refl

-- A change that ended.

-- bytes that were put
put_shown : WritesOver → (first : List ℕ) (fd : ℤ) (r : Requests) (n : ℕ) (log : Log) (off len : ℕ) (put : List ℕ) (given res : ℤ) (old : List ℕ)
    → Stands fd r log → is_running r n ≡ true → change_of r n log ≡ Put fd off len put given
    → IsShown first log.volume.history old
    → IsShown first (change_ended n (Put fd off len put given) res log).volume.history (bytes_after (Put fd off len put given) res old)
put_shown over first fd r n log off len put given res old s running is shown =
    let k : ℕ = number_of n log.requests in
    let on : int_eq log.fd fd ≡ true = (Decides-int_eq log.fd fd).1 s.file in
    let test : Bool = int_eq log.fd fd && int_eq res given in
    let more : Log = record log { volume = write_ended k log.volume } in
    let left : List ℕ = overwritten old off (take len put) in
    elim (cases_Bool (int_eq res given)) [
      | inl good ↦
          let passed : test ≡ true = and_from (int_eq log.fd fd) (int_eq res given) on good in
          let runs = s.writes n fd off len put given running is on in
          let ends : write_ended k log.volume ≡ with_event (WriteEnded k) log.volume = cond-true (is_one_of k (running_writes log.volume.history)) (with_event (WriteEnded k) log.volume) log.volume runs.running in
          let last : ended (with_event (WriteEnded k) log.volume).history ≡ ended log.volume.history ++ record { number = k; off = off; bytes = take len put } ∷ [] = ap (λ ws. ended log.volume.history ++ ws) runs.is in
          subst (λ (l : Log). IsShown first l.volume.history (cond (int_eq res given) left old)) (sym (cond-true test more log passed))
          (subst (λ (bs : List ℕ). IsShown first more.volume.history bs) (sym (cond-true (int_eq res given) left old good))
          (subst (λ (v : Volume). IsShown first v.history left) (sym ends)
          (shown_more over first log.volume.history (with_event (WriteEnded k) log.volume).history old (take len put) k off last shown)))
      | inr bad ↦
          let failed : test ≡ false = ap (λ (b : Bool). b && int_eq res given) on ∙ bad in
          subst (λ (l : Log). IsShown first l.volume.history (cond (int_eq res given) left old)) (sym (cond-false test more log failed))
          (subst (λ (bs : List ℕ). IsShown first log.volume.history bs) (sym (cond-false (int_eq res given) left old bad)) shown)
    ]

-- bytes that were put into another file
put_apart : (n : ℕ) (log : Log) (own : ℤ) (off len : ℕ) (put : List ℕ) (given res : ℤ)
    → int_eq log.fd own ≡ false → change_ended n (Put own off len put given) res log ≡ log
put_apart n log own off len put given res other =
    cond-false (int_eq log.fd own && int_eq res given) (record log { volume = write_ended (number_of n log.requests) log.volume }) log (ap (λ (b : Bool). b && int_eq res given) other)

-- a sync puts none
sync_shown : (n : ℕ) (own res : ℤ) (log : Log)
    → ended (change_ended n (Sync own) res log).volume.history ≡ ended log.volume.history
sync_shown n own res log =
    let k : ℕ = number_of n log.requests in
    let test : Bool = int_eq log.fd own in
    elim (cases_Bool test) [
      | inl sure ↦
          ap (λ (l : Log). ended l.volume.history) (cond-true test (record log { volume = sync_with res k log.volume }) log sure)
          ∙ sync_same res k log.volume (int_eq res (pos 0)) (is_one_of k (running_syncs log.volume.history))
      | inr fails ↦ ap (λ (l : Log). ended l.volume.history) (cond-false test (record log { volume = sync_with res k log.volume }) log fails)
    ]

-- the bytes of a file, whether the operation is on it or not, if it puts none
unput : (on : Bool) (old now : List ℕ) → now ≡ (cond on old old) → now ≡ old
unput true old now is = is
unput false old now is = is

-- what a change leaves of the file of the log
change_shown : WritesOver → (first : List ℕ) (fd : ℤ) (r : Requests) (n : ℕ) (log : Log) (op : Op) (c : Change) (res : ℤ) (old now : List ℕ)
    → Stands fd r log → is_running r n ≡ true → change_of r n log ≡ c → change_by op (shown_length log.volume) ≡ c
    → now ≡ cond (is_on fd op) (bytes_after c res old) old
    → IsShown first log.volume.history old
    → IsShown first (change_ended n c res log).volume.history now
change_shown over first fd r n log op (Put own off len put given) res old now s running is by left shown =
    let asked : file_asked op ≡ Some own = changes_are_asked op (shown_length log.volume) own (ap file_changed by) in
    let here : is_on fd op ≡ int_eq fd own = ap (λ o. option_map_or (int_eq fd) o false) asked in
    let put_all : List ℕ = bytes_after (Put own off len put given) res old in
    elim (cases_Bool (int_eq fd own)) [
      | inl on ↦
          let at : fd ≡ own = (Decides-int_eq fd own).0 on in
          let same : now ≡ put_all = left ∙ cond-true (is_on fd op) put_all old (here ∙ on) in
          subst (λ (bs : List ℕ). IsShown first (change_ended n (Put own off len put given) res log).volume.history bs) (sym same)
          (subst (λ (k : ℤ). IsShown first (change_ended n (Put k off len put given) res log).volume.history (bytes_after (Put k off len put given) res old)) at
          (put_shown over first fd r n log off len put given res old s running (is ∙ ap (λ (k : ℤ). Put k off len put given) (sym at)) shown))
      | inr other ↦
          let apart : int_eq log.fd own ≡ false = ap (λ (k : ℤ). int_eq k own) s.file ∙ other in
          let same : now ≡ old = left ∙ cond-false (is_on fd op) put_all old (here ∙ other) in
          subst (λ (l : Log). IsShown first l.volume.history now) (sym (put_apart n log own off len put given res apart))
          (subst (λ (bs : List ℕ). IsShown first log.volume.history bs) (sym same) shown)
    ]
change_shown over first fd r n log op (Sync own) res old now s running is by left shown =
    shown_same first log.volume.history (change_ended n (Sync own) res log).volume.history now (sync_shown n own res log)
    (subst (λ (bs : List ℕ). IsShown first log.volume.history bs) (sym (unput (is_on fd op) old now left)) shown)
change_shown over first fd r n log op Nothing res old now s running is by left shown =
    subst (λ (bs : List ℕ). IsShown first log.volume.history bs) (sym (unput (is_on fd op) old now left)) shown

shows_finished : WritesOver → (first : List ℕ) (fd : ℤ) (r : Requests) (n : ℕ) (files : List FileContents) (log : Log) (op : Op) (res : ℤ) (bytes : List ℕ)
    → Stands fd r log → is_running r n ≡ true → operation_of (entry_of r n) ≡ op
    → IsOutcome files op (record { res = res; bytes = bytes }) → log.volume.first ≡ first → Shows first fd files log
    → Shows first fd (after files op res) (finished_of n (Some op) res log)
shows_finished over first fd r n files log op res bytes s running is called begins shows = λ now there.
    let was = there_before files op res fd now there in
    let old : List ℕ = was.0.bytes in
    let long : length old ≡ shown_length log.volume = (shows was.0 was.1).len ∙ ap (λ (bs : List ℕ). length_over (length bs) (ended log.volume.history)) (sym begins) in
    let left = changes_tell_bytes files op (record { res = res; bytes = bytes }) fd was.0 now called was.1 there in
    change_shown over first fd r n log op (change_by op (shown_length log.volume)) res old now.bytes s running (ap (λ (o : Op). change_by o (shown_length log.volume)) is) refl
    (left ∙ ap (λ (l : ℕ). cond (is_on fd op) (bytes_after (change_by op l) res old) old) long)
    (shows was.0 was.1)

-- An event.

ends_called : (files : List FileContents) (r : Requests) (n : ℕ) (runs : Bool) (res : ℤ) (bytes : List ℕ) → runs ≡ true
    → EndsOn files r n runs (answer.Ended res bytes)
    → IsOutcome files (operation_of (entry_of r n)) (record { res = res; bytes = bytes })
ends_called files r n true res bytes is called = called
ends_called files r n false res bytes is called = absurd (both_ways false refl is)

-- the files of requests, if these were there at first
abbrev files_by : List FileContents → Requests → List FileContents
files_by firsts r = files_after r firsts r.ended

shows_move : WritesOver → (firsts : List FileContents) (first : List ℕ) (fd : ℤ) (linux : Bool) (l : LinuxRequests) (q : Requests) (s : Step) (a : Answer) (log : Log)
    → Move linux l s a q
    → ((n : ℕ) → s ≡ step.Finish n → EndsOn (files_by firsts l.requests) l.requests n (is_running l.requests n) a)
    → (IsNoFinish s → files_by firsts q ≡ files_by firsts l.requests) → Stands fd l.requests log
    → log.volume.first ≡ first
    → Shows first fd (files_by firsts l.requests) log
    → Shows first fd (files_by firsts q) (logged l.requests q s a log)
shows_move over firsts first fd linux l q s a log (stays _ _ no_start no_end) called kept st begins shows =
    subst (Shows first fd (files_by firsts l.requests)) (sym (quiet l.requests l.requests s a log no_start no_end)) shows
shows_move over firsts first fd linux l q s a log (accepts accepted missed head entries) called kept st begins shows =
    subst (λ fs. Shows first fd fs log) (sym (kept tt)) shows
shows_move over firsts first fd linux l q s a log (starts n outstanding idle spared ready no_cancel) called kept st begins shows =
    subst (λ fs. Shows first fd fs (begun_of n (operation_running q n) log)) (sym (kept tt))
    (shows_same first fd (files_by firsts l.requests) log (begun_of n (operation_running q n) log) (begun_of_same n (operation_running q n) log) shows)
shows_move over firsts first fd linux l q s a log (ends_doomed n outstanding) called kept st begins shows =
    subst (λ fs. Shows first fd fs log) (sym (kept tt)) shows
shows_move over firsts first fd linux l q s a log (ends_cancel n outstanding spared ready cancel) called kept st begins shows =
    subst (λ fs. Shows first fd fs log) (sym (kept tt)) shows
shows_move over firsts first fd linux l q s a log (ends_run n res bytes running) called kept st begins shows =
    let op : Op = operation_of (entry_of l.requests n) in
    subst (λ fs. Shows first fd fs (finished_of n (operation_running l.requests n) res log)) (sym (files_ended l.requests n res bytes firsts))
    (subst (λ (o : Option Op). Shows first fd (after (files_by firsts l.requests) op res) (finished_of n o res log)) (sym (cond-true (is_running l.requests n) (Some op) None running))
    (shows_finished over first fd l.requests n (files_by firsts l.requests) log op res bytes st running refl (ends_called (files_by firsts l.requests) l.requests n (is_running l.requests n) res bytes running (called n refl)) begins shows))

-- a Finish is called for
finish_called : (firsts : List FileContents) (g : Setup) (s : Step) (a : Answer) (before : core.History) → IsLawfulFrom firsts g ((s, a) ∷ before)
    → (n : ℕ) → s ≡ step.Finish n
    → EndsOn (files_from firsts (world g before)) (world g before).requests n (is_running (world g before).requests n) a
finish_called firsts g s a before lawful n is =
    (subst (λ (k : Step). IsLawfulFrom firsts g ((k, a) ∷ before)) is lawful).0

-- what a read of the volume shows, if the file had these bytes at first
pub shows_from : WritesOver → (unit : ℕ) (firsts : List FileContents) (first : List ℕ) (g : Setup) (fd : ℤ) (h : core.History)
    → ((file : FileContents) → file_of firsts fd ≡ Some file → file.bytes ≡ first)
    → IsLawfulFrom firsts g h
    → Shows first fd (files_from firsts (world g h)) (log_from (log_on unit first fd) g h)
shows_from over unit firsts first g fd [] start lawful = λ file is. shows_first first file.bytes (start file is)
shows_from over unit firsts first g fd ((s, a) ∷ before) start lawful =
    let apart = apart_from firsts g ((s, a) ∷ before) lawful in
    shows_move over firsts first fd g.linux (requests_of (world g before)) (world g ((s, a) ∷ before)).requests s a (log_from (log_on unit first fd) g before)
    (move_of g s a before apart) (finish_called firsts g s a before lawful) (files_kept_from firsts g s a before apart)
    (stands_from unit first g fd before apart.1) (from_keeps (log_on unit first fd) g before).1 (shows_from over unit firsts first g fd before start lawful.1)

-- the same of a file that was empty
pub shows_of : WritesOver → (unit : ℕ) (g : Setup) (fd : ℤ) (h : core.History) → IsLawful g h
    → Shows [] fd (files_of g (world g h)) (log_of unit g fd h)
shows_of over unit g fd h lawful =
    shows_from over unit (empty_files g.files) [] g fd h (first_of g.files fd) (lawful_new g h lawful)

-- the same of the file at a place
pub shows_at : WritesOver → (unit : ℕ) (g : Setup) (e : Epoch) (place : ℕ) → IsLawfulFrom e.first g e.history
    → Shows (file_at e.first place).bytes (pos place) (files_from e.first (world g e.history)) (log_from (log_on unit (file_at e.first place).bytes (pos place)) g e.history)
shows_at over unit g e place lawful =
    shows_from over unit e.first (file_at e.first place).bytes g (pos place) e.history
    (λ file is. ap (λ (f : FileContents). f.bytes) (sym (get_or_from_slice_get e.first place file empty_file is))) lawful
