-- That what a crash leaves may be left, and that the next epoch goes on from it.
use Rattle.std.proofs.Common.{◌≡◌, ℕ, zero, suc, false, ◌<◌, ◌≤◌, List, [], ◌∷◌, ◌++◌, length, map, get_or, length-append, inl, inr, Option, Some, None, Result, Ok, Err, refl, sym, subst, ◌∙◌, ap, arith}
use Rattle.uring_crash_machine.proofs.Common.{Answer, AreImages, AreLeft, Change, CrashMachine, Epoch, FileContents, FitsApart, FitsRun, History, IfOk, IsImage, IsImageBy, IsLeftAt, IsLeftBy, IsRun, Log, Op, Requests, Setup, Step, begun_on, change_by, change_ended, empty_files, file_at, file_of_bytes, finished, finished_of, first_files, get_or-append_right, get_or-eq_default, get_or_append_left, log_from, log_on, logged, logs_of, logs_on, max_len, pos, shown_length, slice_get, volume_of, ℤ}
use Rattle.std.specs.declared.alloc.AllocError.{AllocError}
use Rattle.std.specs.Option.{option_map}
use Rattle.std.proofs.lemmas.Option.{slice_get-map, slice_get_within, get_or_from_slice_get}
use Rattle.uring_volume.proofs.Painting.{below_or_from}
use Rattle.uring_crash_machine.specs.Logs.{AreFolded, IsFoldedLog}
use Rattle.uring_crash_machine.proofs.Noted.{map_same, first_many, first_empty, first_at, logs_at}
use Rattle.uring_crash_machine.proofs.FoldedLogs.{all_unfolded, folded_at, sound_from}

-- a log keeps its unit and its first bytes
abbrev pub Keeps : Log → Log → Type 0
Keeps old new = (new.volume.unit ≡ old.volume.unit) × (new.volume.first ≡ old.volume.first)

change_ended_keeps : (n : ℕ) (c : Change) (res : ℤ) (log : Log) → Keeps log (change_ended n c res log)
change_ended_keeps n c res log = grind arith

pub finished_keeps : (n : ℕ) (op : Op) (res : ℤ) (log : Log) → Keeps log (finished n op res log)
finished_keeps n op res log = change_ended_keeps n (change_by op (shown_length log.volume)) res log

finished_of_keeps : (n : ℕ) (op : Option Op) (res : ℤ) (log : Log) → Keeps log (finished_of n op res log)
finished_of_keeps n None res log = (refl, refl)
finished_of_keeps n (Some op) res log = finished_keeps n op res log

logged_keeps : (r q : Requests) (s : Step) (a : Answer) (log : Log) → Keeps log (logged r q s a log)
logged_keeps r q s a log = grind (arith, finished_of_keeps)

pub from_keeps : (start : Log) (g : Setup) (h : History) → Keeps start (log_from start g h)
from_keeps start g [] = (refl, refl)
from_keeps start g ((s, a) ∷ before) = grind (arith, logged_keeps, log_from, (from_keeps start g before))

-- Images of the first files, one after the other.
pub record ImagesUpTo (logs : List Log) (choices images : List (List ℕ)) (n : ℕ) : Type 0 where
  pub many : length images ≡ n
  pub each : (place : ℕ) (log : Log) → place < n → slice_get logs place ≡ Some log
      → IsImageBy log (get_or choices place []) (get_or images place [])

pub images_more : (logs : List Log) (choices images : List (List ℕ)) (n : ℕ) (log : Log) (now : List ℕ)
    → slice_get logs n ≡ Some log → IsImageBy log (get_or choices n []) now → ImagesUpTo logs choices images n
    → ImagesUpTo logs choices (images ++ now ∷ []) (suc n)
images_more logs choices images n log now here by so = record {
  many = length-append images (now ∷ []) ∙ omega (arith, so.many);
  each = λ place other below is. elim (below_or_from place n) [
    | inl before ↦
        let inside : place < length images = omega (arith, before, so.many) in
        subst (λ (bs : List ℕ). IsImageBy other (get_or choices place []) bs) (sym (get_or_append_left images (now ∷ []) [] place inside)) (so.each place other before is)
    | inr from ↦ grind (arith, (get_or (images ++ now ∷ []) place), (get_or-append_right images (now ∷ []) n place), (get_or choices place))
  ];
}

pub images_all : (logs : List Log) (choices images : List (List ℕ)) (n : ℕ) → length logs ≡ n
    → ImagesUpTo logs choices images n → AreImages logs choices images
images_all logs choices images n many so = record {
  many = so.many ∙ sym many;
  each = λ place log is. so.each place log (let within = slice_get_within logs place log is in omega (arith, within, many)) is;
}

-- the log of the file at a place, as the epoch has made it
log_of_place : (unit : ℕ) (g : Setup) (e : Epoch) (place : ℕ) → place < length e.first
    → slice_get (logs_of unit g e) place ≡ Some (log_from (log_on unit (file_at e.first place).bytes (pos place)) g e.history)
log_of_place unit g e place within =
    slice_get-map (λ log. log_from log g e.history) (logs_on unit 0 e.first) place
    ∙ ap (λ (o : Option Log). option_map (λ log. log_from log g e.history) o) (logs_at unit e.first place within)

-- an image of a log that was folded is one of the epoch's
image_before : (unit : ℕ) (first : List ℕ) (fd : ℤ) (g : Setup) (h : History) (log : Log) (now : List ℕ) → 0 < unit
    → IsFoldedLog (log_from (log_on unit first fd) g h) log → IsImage log.volume.unit log.volume.first log.volume.history now
    → IsImage unit first (log_from (log_on unit first fd) g h).volume.history now
image_before unit first fd g h log now some folded image =
    let start : Log = log_on unit first fd in
    let old : Log = log_from start g h in
    let keeps = from_keeps start g h in
    let before = (folded.volume.images [] now (sound_from unit first fd g h some).lawful).1 image in
    subst (λ (bs : List ℕ). IsImage unit bs old.volume.history now) keeps.1 (subst (λ (u : ℕ). IsImage u old.volume.first old.volume.history now) keeps.0 before)

-- what is left of the file at a place
image_at : (m : CrashMachine) (e : Epoch) (earlier : List Epoch) (choices images : List (List ℕ)) → 0 < m.unit
    → FitsRun m e earlier → AreImages m.logs choices images → (place : ℕ) → place < length e.first
    → IsImage m.unit (file_at e.first place).bytes (volume_of m.unit m.core.setup e place).history (get_or images place [])
image_at m e earlier choices images some f are place within =
    let at = folded_at (logs_of m.unit m.core.setup e) m.logs place (log_from (log_on m.unit (file_at e.first place).bytes (pos place)) m.core.setup e.history) f.logs (log_of_place m.unit m.core.setup e place within) in
    image_before m.unit (file_at e.first place).bytes (pos place) m.core.setup e.history at.0 (get_or images place []) some at.2 (are.each place at.0 at.1).image

-- and by which choice, if no log was folded
left_at : (m : CrashMachine) (e : Epoch) (earlier : List Epoch) (choices images : List (List ℕ)) → m.is_folded ≡ false
    → FitsRun m e earlier → AreImages m.logs choices images → (place : ℕ) → place < length e.first
    → IsLeftAt m.unit m.core.setup e place (get_or choices place []) (get_or images place [])
left_at m e earlier choices images whole f are place within =
    let start : Log = log_on m.unit (file_at e.first place).bytes (pos place) in
    let log : Log = log_from start m.core.setup e.history in
    let at : slice_get m.logs place ≡ Some log = ap (λ (ls : List Log). slice_get ls place) (f.unfolded whole) ∙ log_of_place m.unit m.core.setup e place within in
    let by : IsImageBy log (get_or choices place []) (get_or images place []) = are.each place log at in
    let keeps = from_keeps start m.core.setup e.history in
    let h = log.volume.history in
    subst (λ (bs : List ℕ). IsLeftBy m.unit bs h (get_or choices place []) (get_or images place [])) keeps.1 (subst (λ (u : ℕ). IsLeftBy u log.volume.first h (get_or choices place []) (get_or images place [])) keeps.0 by.chosen)

bytes_at : (n : ℕ) (images : List (List ℕ)) (place : ℕ) → place < n
    → (file_at (first_files n images) place).bytes ≡ get_or images place []
bytes_at n images place within = ap (λ (f : FileContents). f.bytes) (first_at n images place within)

images_left : (m : CrashMachine) (e : Epoch) (earlier : List Epoch) (choices images : List (List ℕ)) → 0 < m.unit
    → FitsRun m e earlier → AreImages m.logs choices images
    → AreLeft m.unit m.core.setup e (first_files m.core.setup.files images)
images_left m e earlier choices images some f are =
    let n : ℕ = m.core.setup.files in
    let many : length (first_files n images) ≡ n = first_many n images in
    record {
      many = many ∙ sym f.many;
      image = λ place within.
          subst (λ (bs : List ℕ). IsImage m.unit (file_at e.first place).bytes (volume_of m.unit m.core.setup e place).history bs) (sym (bytes_at n images place (omega (arith, within, many))))
          (image_at m e earlier choices images some f are place (omega (arith, within, many, f.many)));
      uncounted = λ place within.
          let is = first_at n images place (omega (arith, within, many)) in
          is ∙ ap file_of_bytes (ap (λ (f : FileContents). f.bytes) (sym is));
    }

-- the next epoch
pub crash_fits : (m next : CrashMachine) (choices images : List (List ℕ)) (e : Epoch) (earlier : List Epoch) → 0 < m.unit
    → next.core.setup ≡ m.core.setup → next.unit ≡ m.unit
    → FitsRun next (begun_on (first_files m.core.setup.files images)) []
    → AreImages m.logs choices images → FitsRun m e earlier
    → FitsRun next (begun_on next.files) (e ∷ earlier)
crash_fits m next choices images e earlier some same units fresh are f =
    let n : ℕ = m.core.setup.files in
    let files : next.files ≡ first_files n images = fresh.files in
    let begins = subst (λ (u : ℕ). AreLeft u next.core.setup e (first_files n images)) (sym units) (subst (λ (g : Setup). AreLeft m.unit g e (first_files n images)) (sym same) (images_left m e earlier choices images some f are)) in
    let before = subst (λ (u : ℕ). IsRun u next.core.setup (e ∷ earlier)) (sym units) (subst (λ (g : Setup). IsRun m.unit g (e ∷ earlier)) (sym same) f.run) in
    subst (λ (fs : List FileContents). FitsRun next (begun_on fs) (e ∷ earlier)) (sym files)
    (record { core = fresh.core; files = fresh.files; logs = fresh.logs; unfolded = fresh.unfolded; many = fresh.many; run = (fresh.run.0, begins, before) })

pub crash_chosen : (m next : CrashMachine) (choices images : List (List ℕ)) (e : Epoch) (earlier : List Epoch) → m.is_folded ≡ false
    → FitsRun next (begun_on (first_files m.core.setup.files images)) []
    → AreImages m.logs choices images → FitsRun m e earlier
    → (place : ℕ) → place < length next.files
    → IsLeftAt m.unit m.core.setup e place (get_or choices place []) (file_at next.files place).bytes
crash_chosen m next choices images e earlier whole fresh are f place within =
    let n : ℕ = m.core.setup.files in
    let first : List FileContents = first_files n images in
    let many : length first ≡ n = first_many n images in
    let inside : place < n = omega (arith, within, many, ap (λ (fs : List FileContents). length fs) fresh.files) in
    subst (λ (fs : List FileContents). IsLeftAt m.unit m.core.setup e place (get_or choices place []) (file_at fs place).bytes) (sym fresh.files)
    (subst (λ (bs : List ℕ). IsLeftAt m.unit m.core.setup e place (get_or choices place []) bs) (sym (bytes_at n images place inside))
    (left_at m e earlier choices images whole f are place (omega (arith, inside, f.many))))

-- a machine on empty files
pub new_fits : (m : CrashMachine) (n : ℕ) → FitsRun m (begun_on (first_files n [])) []
    → FitsRun m (begun_on (empty_files n)) []
new_fits m n f = subst (λ (fs : List FileContents). FitsRun m (begun_on fs) []) (sym (first_empty n)) f

-- a machine on which nothing has happened
pub on_fits : (m : CrashMachine) (images : List (List ℕ)) (files : ℕ)
    → FitsApart m.core [] → m.core.setup.files ≡ files → m.files ≡ first_files files images
    → m.logs ≡ logs_on m.unit 0 (first_files files images)
    → FitsRun m (begun_on (first_files files images)) []
on_fits m images files fits same these logs =
    let first : List FileContents = first_files files images in
    let are : m.logs ≡ logs_of m.unit m.core.setup (begun_on first) = logs ∙ map_same (λ log. log) (logs_on m.unit 0 first) (λ log. refl) in
    record {
      core = fits;
      files = these;
      logs = subst (λ (ls : List Log). AreFolded ls m.logs) are (all_unfolded m.logs);
      unfolded = λ none. are;
      many = first_many files images ∙ sym same;
      run = (tt, tt, tt);
    }

-- the images of all files are what is left
bytes_of_first : (n : ℕ) (images : List (List ℕ)) → length images ≡ n → map (λ (f : FileContents). f.bytes) (first_files n images) ≡ images
bytes_of_first zero [] many = refl
bytes_of_first zero (b ∷ later) many = absurd (omega (arith, many))
bytes_of_first (suc n) [] many = absurd (omega (arith, many))
bytes_of_first (suc n) (b ∷ later) many = ap (λ (bs : List (List ℕ)). b ∷ bs) (bytes_of_first n later (omega (arith, many)))

pub crash_left : (m next : CrashMachine) (n : ℕ) (choices images : List (List ℕ)) → length m.logs ≡ n
    → FitsRun next (begun_on (first_files n images)) [] → AreImages m.logs choices images
    → AreImages m.logs choices (map (λ file. file.bytes) next.files)
crash_left m next n choices images many fresh are =
    subst (λ (bs : List (List ℕ)). AreImages m.logs choices bs) (sym (ap (λ (fs : List FileContents). map (λ file. file.bytes) fs) fresh.files ∙ bytes_of_first n images (are.many ∙ many))) are

-- What a call that makes the next machine says of it.

pub crash_result_fits : (r : Result CrashMachine AllocError) (m : CrashMachine) (g : Setup) (choices images : List (List ℕ)) → 0 < m.unit
    → g ≡ m.core.setup → IfOk r (λ next. next.core.setup ≡ g) → IfOk r (λ next. next.unit ≡ m.unit)
    → IfOk r (λ next. FitsRun next (begun_on (first_files g.files images)) [])
    → AreImages m.logs choices images
    → IfOk r (λ next. (e : Epoch) (earlier : List Epoch) → FitsRun m e earlier → FitsRun next (begun_on next.files) (e ∷ earlier))
crash_result_fits (Ok next) m g choices images some is same units fresh are = λ e earlier f.
    crash_fits m next choices images e earlier some (same ∙ is) units (subst (λ (k : Setup). FitsRun next (begun_on (first_files k.files images)) []) is fresh) are f
crash_result_fits (Err e) m g choices images some is same units fresh are = tt

pub crash_result_left : (r : Result CrashMachine AllocError) (m : CrashMachine) (g : Setup) (choices images : List (List ℕ))
    → length m.logs ≡ g.files → IfOk r (λ next. FitsRun next (begun_on (first_files g.files images)) [])
    → AreImages m.logs choices images
    → IfOk r (λ next. AreImages m.logs choices (map (λ file. file.bytes) next.files))
crash_result_left (Ok next) m g choices images many fresh are = crash_left m next g.files choices images many fresh are
crash_result_left (Err e) m g choices images many fresh are = tt

pub crash_result_chosen : (r : Result CrashMachine AllocError) (m : CrashMachine) (g : Setup) (choices images : List (List ℕ)) → m.is_folded ≡ false
    → g ≡ m.core.setup → IfOk r (λ next. FitsRun next (begun_on (first_files g.files images)) [])
    → AreImages m.logs choices images
    → IfOk r (λ next. (e : Epoch) (earlier : List Epoch) → FitsRun m e earlier → (place : ℕ) → place < length next.files
    → IsLeftAt m.unit m.core.setup e place (get_or choices place []) (file_at next.files place).bytes)
crash_result_chosen (Ok next) m g choices images whole is fresh are = λ e earlier f.
    crash_chosen m next choices images e earlier whole (subst (λ (k : Setup). FitsRun next (begun_on (first_files k.files images)) []) is fresh) are f
crash_result_chosen (Err e) m g choices images whole is fresh are = tt

some_at : {X : Type 0} (xs : List X) (i : ℕ) → i < length xs → (x : X) × (slice_get xs i ≡ Some x)
some_at [] i within = absurd (omega (arith, within))
some_at (x ∷ xs) zero within = (x, refl)
some_at (x ∷ xs) (suc i) within = some_at xs i (omega (arith, within))

-- no image is longer than a file may be
pub images_short : (logs : List Log) (choices images : List (List ℕ)) → AreImages logs choices images
    → (place : ℕ) → length (get_or images place []) ≤ max_len
images_short logs choices images are place = elim (below_or_from place (length images)) [
  | inl within ↦
      let here = some_at logs place (omega (arith, within, are.many)) in
      (are.each place here.0 here.1).short
  | inr past ↦ subst (λ (bs : List ℕ). length bs ≤ max_len) (sym (get_or-eq_default images [] past)) (let it : 0 ≤ max_len = omega arith in it)
]

pub log_read : (logs : List Log) (i : ℕ) (log : Log) → i < length logs → log ≡ get_or logs i log
    → slice_get logs i ≡ Some log
log_read logs i log within is = grind (arith, (some_at logs i within), Log, get_or_from_slice_get)
