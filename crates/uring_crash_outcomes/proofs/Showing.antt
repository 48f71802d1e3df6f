-- What may be left of files, with one file more; and what is shown after moves, by the logs that they make.
use Rattle.std.proofs.Common.{◌≡◌, ℕ, suc, ◌+◌, ◌<◌, pos, List, [], ◌∷◌, ◌++◌, length, get_or, map, Option, Some, None, Result, Ok, Err, refl, sym, subst, ap, ◌∙◌, arith}
use Rattle.uring_crash_outcomes.proofs.Common.{AreLeftOf, AreShown, Contains, Cqe, Crash, HasMade, IfErr, IsCrowdedBy, IsErrAnd, IsImage, IsShownAfter, IsTooMany, Log, Moment, Move, Op, Setup, Shows, Sqe, Widens, empty_log, file_at, first_at, first_files, first_many, get_or_append_left, length-append, length-map, log_along, log_moved, log_on, log_past, logs_after, logs_at, logs_on, moved, option_map, slice_get, slice_index_or, spread_over, starting, with_file}
use Rattle.uring_crash_outcomes.specs.Found.{IsReason}
use Rattle.uring_crash_outcomes.specs.Faults.{fault_of_walk}
use Rattle.uring_outcomes.specs.Faults as runs
use Rattle.uring_outcomes.specs.declared.fault.WalkFault.{WalkFault}
use Rattle.uring_outcomes.specs.declared.fault.WalkFault.TheVariants as walk
use Rattle.std.proofs.Math.Seq.{get_or-append_seam}
use Rattle.std.proofs.lemmas.Option.{slice_get-map, slice_get_within, slice_get_read}
use Rattle.uring_files.specs.Contents.{FileContents}
use Rattle.uring_volume.specs.Listing.{AreTheImages}
use Rattle.uring_crash_machine.proofs.EpochCrashes.{Keeps, finished_keeps}
use Rattle.uring_outcomes.specs.declared.run.Run.{Run}
use Rattle.uring_crash_outcomes.specs.declared.fault.CrashFault.{CrashFault}
use Rattle.uring_crash_outcomes.specs.declared.fault.CrashFault.TheVariants.{Memory, Spent, Images}
use Rattle.uring_crash_outcomes.proofs.Lists.{IsGot, Before, Last, got, got_before, got_last, HasLast, has_last, contained, is_in, in_map, from_map, in_spread, from_spread}

-- No file.

none_left : (left : List (List ℕ)) → length left ≡ 0 → left ≡ []
none_left [] none = refl
none_left (b ∷ bs) none = absurd (omega (arith, none))

pub shown_first : (posted : List Cqe) → AreShown posted [] (record { posted = posted; left = [] } ∷ [])
shown_first posted = grind (arith, none_left)

-- One file more.

-- what is left of files and of one more
left_more : (logs : List Log) (log : Log) (left : List (List ℕ)) (bytes : List ℕ) → AreLeftOf logs left
    → IsImage log.volume.unit log.volume.first log.volume.history bytes
    → AreLeftOf (logs ++ log ∷ []) (left ++ bytes ∷ [])
left_more logs log left bytes are image = record {
  many = length-append left (bytes ∷ []) ∙ ap (λ n. n + 1) are.many ∙ sym (length-append logs (log ∷ []));
  each = λ place other is. at place other (got logs log place other is);
} where
  at : (place : ℕ) (other : Log) → IsGot logs log place other
      → IsImage other.volume.unit other.volume.first other.volume.history (slice_index_or (left ++ bytes ∷ []) place [])
  at place other (Before low is) =
      subst (IsImage other.volume.unit other.volume.first other.volume.history) (sym (get_or_append_left left (bytes ∷ []) [] place (omega (arith, low, are.many)))) (are.each place other is)
  at place other (Last last is) =
      let here : place ≡ length left = last ∙ sym are.many in
      let byte : slice_index_or (left ++ bytes ∷ []) place [] ≡ bytes = ap (λ k. get_or (left ++ bytes ∷ []) k []) here ∙ get_or-append_seam left bytes [] [] in
      subst (λ (l : Log). IsImage l.volume.unit l.volume.first l.volume.history (slice_index_or (left ++ bytes ∷ []) place [])) (sym is)
      (subst (IsImage log.volume.unit log.volume.first log.volume.history) (sym byte) image)

-- and the other way round
left_before : (logs : List Log) (log : Log) (left : List (List ℕ)) (bytes : List ℕ) → length left ≡ length logs
    → AreLeftOf (logs ++ log ∷ []) (left ++ bytes ∷ []) → AreLeftOf logs left
left_before logs log left bytes many are = record {
  many = many;
  each = λ place other is.
      let low : place < length logs = slice_get_within logs place other is in
      subst (IsImage other.volume.unit other.volume.first other.volume.history) (get_or_append_left left (bytes ∷ []) [] place (omega (arith, low, many)))
      (are.each place other (got_before logs (log ∷ []) place low ∙ is));
}

left_last : (logs : List Log) (log : Log) (left : List (List ℕ)) (bytes : List ℕ) → length left ≡ length logs
    → AreLeftOf (logs ++ log ∷ []) (left ++ bytes ∷ [])
    → IsImage log.volume.unit log.volume.first log.volume.history bytes
left_last logs log left bytes many are =
    let byte : slice_index_or (left ++ bytes ∷ []) (length logs) [] ≡ bytes = ap (λ k. get_or (left ++ bytes ∷ []) k []) (sym many) ∙ get_or-append_seam left bytes [] [] in
    subst (IsImage log.volume.unit log.volume.first log.volume.history) byte (are.each (length logs) log (got_last logs log))

pub shown_more : (posted : List Cqe) (logs : List Log) (log : Log) (old new : List Crash)
    → AreShown posted logs old → Widens log old new → AreShown posted (logs ++ log ∷ []) new
shown_more posted logs log old new shown w = record {
  right = λ c there.
      let s = from_spread (λ x. map (with_file x) w.images) old c (subst (λ cs. Contains cs c) w.wider there) in
      let m = from_map (with_file s.from) w.images c (is_in (map (with_file s.from) w.images) c s.has) in
      let before : Shows posted logs s.from = shown.right s.from (contained old s.from s.there) in
      subst (Shows posted (logs ++ log ∷ [])) (sym m.is) (record {
        posts = before.posts;
        left = left_more logs log s.from.left m.from before.left (w.are.sound m.from m.there);
      });
  all = λ c shows. subst (λ cs. Contains cs c) (sym w.wider) (among c shows (has_last c.left (length logs) [] (shows.left.many ∙ length-append logs (log ∷ []))));
} where
  among : (c : Crash) → Shows posted (logs ++ log ∷ []) c → HasLast c.left (length logs)
      → Contains (spread_over old w.images) c
  among c shows l =
      let before : Crash = record { posted = c.posted; left = l.before } in
      let left : AreLeftOf (logs ++ log ∷ []) (l.before ++ l.last ∷ []) = subst (AreLeftOf (logs ++ log ∷ [])) l.is shows.left in
      let there : Contains old before = shown.all before (record { posts = shows.posts; left = left_before logs log l.before l.last l.many left }) in
      let image = w.are.complete l.last (left_last logs log l.before l.last l.many left) in
      let is : c ≡ with_file before l.last = ap (λ ls. record { posted = c.posted; left = ls }) l.is in
      in_spread (λ x. map (with_file x) w.images) old before c (is_in old before there)
      (subst (Contains (map (with_file before) w.images)) (sym is) (contained (map (with_file before) w.images) (with_file before l.last) (in_map (with_file before) w.images l.last image)))

-- What is shown after moves.

moved_keeps : (m : Moment) (x : Move) (log : Log) → Keeps log (log_moved m x log)
moved_keeps m x log = grind (arith, Op, finished_keeps)

along_keeps : (moves : List Move) (m : Moment) (log : Log) → Keeps log (log_along moves m log)
along_keeps [] m log = (refl, refl)
along_keeps (first ∷ later) m log =
    by_first (moved m first) (λ next. along_keeps later next (log_moved m first log)) where
      by_first : (o : Option Moment)
          → ((next : Moment) → Keeps (log_moved m first log) (log_along later next (log_moved m first log)))
          → Keeps log (log_past (λ next. log_along later next (log_moved m first log)) log o)
      by_first None go = (refl, refl)
      by_first (Some next) go =
          let a = moved_keeps m first log in
          let b = go next in
          (b.0 ∙ a.0, b.1 ∙ a.1)

-- the log of the file at a place
pub log_after : (unit : ℕ) (g : Setup) (calls : List (List Sqe)) (moves : List Move) (place : ℕ) → place < g.files
    → slice_get (logs_after unit g calls moves) place ≡ Some (log_along moves (starting g calls) (empty_log unit (pos place)))
log_after unit g calls moves place low =
    let files = first_files g.files [] in
    let many : length files ≡ g.files = first_many g.files [] in
    let bytes : (file_at files place).bytes ≡ [] = ap (λ (f : FileContents). f.bytes) (first_at g.files [] place low) in
    slice_get-map (log_along moves (starting g calls)) (logs_on unit 0 files) place
    ∙ ap (option_map (log_along moves (starting g calls))) (logs_at unit files place (omega (arith, low, many)) ∙ ap (λ bs. Some (log_on unit bs (pos place))) bytes)

logs_many : (unit from : ℕ) (files : List FileContents) → length (logs_on unit from files) ≡ length files
logs_many unit from [] = refl
logs_many unit from (f ∷ more) = ap suc (logs_many unit (suc from) more)

pub many_logs : (unit : ℕ) (g : Setup) (calls : List (List Sqe)) (moves : List Move)
    → length (logs_after unit g calls moves) ≡ g.files
many_logs unit g calls moves = grind (arith, length-map, log_along, starting, logs_many, first_many)

module _ (unit : ℕ) (g : Setup) (calls : List (List Sqe)) (moves : List Move) (m : Moment) (c : Crash) where
  -- the log of a file is on its unit, and on no first bytes
  image_by : (place : ℕ) → (log : Log) → log ≡ log_along moves (starting g calls) (empty_log unit (pos place)) → (now : List ℕ)
      → IsImage log.volume.unit log.volume.first log.volume.history now
      → IsImage unit [] (log_along moves (starting g calls) (empty_log unit (pos place))).volume.history now
  image_by place log is now image = grind (arith, along_keeps, starting, empty_log)

  image_of : (place : ℕ) → (log : Log) → log ≡ log_along moves (starting g calls) (empty_log unit (pos place)) → (now : List ℕ)
      → IsImage unit [] (log_along moves (starting g calls) (empty_log unit (pos place))).volume.history now
      → IsImage log.volume.unit log.volume.first log.volume.history now
  image_of place log is now image = grind (arith, along_keeps, starting, empty_log)

  pub shown_after : Shows m.posted (logs_after unit g calls moves) c → IsShownAfter unit g calls moves m c
  shown_after shows = record {
    posts = shows.posts;
    left = record {
      many = shows.left.many ∙ many_logs unit g calls moves;
      each = λ place low. image_by place _ refl (slice_index_or c.left place []) (shows.left.each place _ (log_after unit g calls moves place low));
    };
  }

  pub shows_after : IsShownAfter unit g calls moves m c → Shows m.posted (logs_after unit g calls moves) c
  shows_after shown = record {
    posts = shown.posts;
    left = record {
      many = shown.left.many ∙ sym (many_logs unit g calls moves);
      each = λ place log is.
          let within : place < length (logs_after unit g calls moves) = slice_get_within (logs_after unit g calls moves) place log is in
          let many : length (logs_after unit g calls moves) ≡ g.files = many_logs unit g calls moves in
          let low : place < g.files = omega (arith, within, many) in
          let same : Some log ≡ Some (log_along moves (starting g calls) (empty_log unit (pos place))) = sym is ∙ log_after unit g calls moves place low in
          image_of place log (let e : log ≡ log_along moves (starting g calls) (empty_log unit (pos place)) = cc in e) (slice_index_or c.left place []) (shown.left.each place low);
    };
  }

-- Too many images.

pub crowded : (logs : List Log) (k : ℕ) (log : Log) (most : ℕ) (e : CrashFault) → k < length logs → log ≡ get_or logs k log
    → IsTooMany log most e → IsCrowdedBy logs most e
crowded logs k log most e low is many = grind (arith, slice_get_read)

pub err_told : {T E : Type 0} (r : Result T E) (P : E → Type 0) (e : E) → IsErrAnd r (λ x. x ≡ e) → P e → IfErr r P
err_told r P e is p = grind arith

pub not_told : {T E : Type 0} (r : Result T E) (e other : E) → IsErrAnd r (λ x. x ≡ e) → (e ≡ other → ⊥)
    → r ≡ Err other → ⊥
not_told (Ok x) e other is not same = absurd cc
not_told (Err x) e other is not same = not (let there : x ≡ other = cc in sym is ∙ there)

-- what keeps a run from its end has its reason, and none is that memory was refused if all that may be asked for is granted
pub walk_reason : (grants : ℕ → Type 0) (unit : ℕ) (g : Setup) (calls : List (List Sqe)) (most : ℕ) (e : WalkFault)
    → runs.IsReason grants calls e → IsReason unit g calls most (fault_of_walk e)
walk_reason grants unit g calls most walk.Memory reason = tt
walk_reason grants unit g calls most walk.Spent reason = reason
walk_reason grants unit g calls most walk.Paths reason = tt

pub walk_granted : (grants : ℕ → Type 0) (calls : List (List Sqe)) (e : WalkFault) → runs.IsReason grants calls e
    → ((n : ℕ) → grants n) → fault_of_walk e ≡ Memory → ⊥
walk_granted grants calls walk.Memory reason all is = reason all
walk_granted grants calls walk.Spent reason all is = absurd cc
walk_granted grants calls walk.Paths reason all is = reason

-- the reason, by the logs after moves
pub reason_of : (unit : ℕ) (g : Setup) (calls : List (List Sqe)) (moves : List Move) (run : Run) (logs : List Log) (most : ℕ) (e : CrashFault)
    → HasMade unit g calls moves run logs → IsCrowdedBy logs most e → IsReason unit g calls most e
reason_of unit g calls moves run logs most Memory h many = tt
reason_of unit g calls moves run logs most Spent h many = absurd many
reason_of unit g calls moves run logs most Images h (place, (log, (is, (ways, are_many)))) =
    let got : slice_get (logs_after unit g calls moves) place ≡ Some log = sym (ap (λ (ls : List Log). slice_get ls place) h.are) ∙ is in
    let within : place < length (logs_after unit g calls moves) = slice_get_within (logs_after unit g calls moves) place log got in
    let count : length (logs_after unit g calls moves) ≡ g.files = many_logs unit g calls moves in
    let low : place < g.files = omega (arith, within, count) in
    let along : Log = log_along moves (starting g calls) (empty_log unit (pos place)) in
    let both : Some log ≡ Some along = sym got ∙ log_after unit g calls moves place low in
    let same : log ≡ along = cc in
    let k = along_keeps moves (starting g calls) (empty_log unit (pos place)) in
    let there : AreTheImages along.volume.unit along.volume.first along.volume.history ways = subst (λ (l : Log). AreTheImages l.volume.unit l.volume.first l.volume.history ways) same are_many.0 in
    record {
      moves = moves;
      last = h.last;
      leads = h.leads;
      fd = place;
      there = low;
      ways = ways;
      are = subst (λ u. AreTheImages u [] along.volume.history ways) k.0 (subst (λ bs. AreTheImages along.volume.unit bs along.volume.history ways) k.1 there);
      many = are_many.1;
    }
