-- What a volume keeps when a write is folded.
use Rattle.std.proofs.Common.{◌≡◌, ◌==◌, ℕ, Bool, true, false, not, List, [], ◌∷◌, ◌++◌, ◌⊎◌, refl, sym, subst, ◌∙◌, inl, inr, arith}
use Rattle.uring_volume.proofs.Common.{Err, History, IsFoldable, IsFoldedFrom, IsHeld, IsIn, IsLawful, IsOneFolded, IsOver, IsSound, Ok, Result, Volume, Write, WriteEnded, WriteFailed, WriteIssued, append-nil, both_ways, but, can_fold, cases_Bool, cond_both, eqb-false, eqb-true, false_from_ne_true, filter, has_ended, is_before, is_done, is_safe, is_one_of, issued, list_any, running_syncs, running_writes, without_write, writes}
use Rattle.std.specs.declared.alloc.AllocError.{AllocError}
use Rattle.std.proofs.lemmas.List.Elements.{filter-append}
use Rattle.uring_volume.proofs.Chosen.{in_issued, one_number}
use Rattle.uring_volume.proofs.Numbers.{runs_still}
use Rattle.uring_volume.proofs.Puts.{is_any}
use Rattle.uring_volume.proofs.Folding.{fold_changes_none, letting_go_changes_none}
use Rattle.uring_volume.proofs.Fitting.{ended_done, safe_ended}
use Rattle.uring_volume.proofs.Lengths.{before_done}
use Rattle.uring_volume.proofs.ShownLength.{shown_folded, shown_let_go}
use Rattle.uring_volume.specs.Folds.{IsOneLetGo, IsUnderSafe}
use Rattle.uring_volume.proofs.Without.{same_later, but_later}
use Rattle.uring_volume.proofs.Foldable.{foldable_by, can_fold_it, under_by}

-- Lists of numbers.

filter_twice : (p : ℕ → Bool) (ns : List ℕ) → filter p (filter p ns) ≡ filter p ns
filter_twice p [] = refl
filter_twice p (n ∷ ns) = grind (arith, (filter_twice p ns))

filter_swap : (p q : ℕ → Bool) (ns : List ℕ) → filter p (filter q ns) ≡ filter q (filter p ns)
filter_swap p q [] = refl
filter_swap p q (n ∷ ns) = grind (arith, (filter_swap p q ns))

but_none : (n : ℕ) (ns : List ℕ) → is_one_of n ns ≡ false → but n ns ≡ ns
but_none n [] none = refl
but_none n (m ∷ ns) none = grind (arith, (but_none n ns))

-- What runs.

running_without : (n : ℕ) (h : History) → running_writes (without_write n h) ≡ but n (running_writes h)
running_without n [] = refl
running_without n (WriteIssued w ∷ earlier) = grind (arith, filter-append, append-nil, (running_without n earlier))
running_without n (WriteEnded k ∷ earlier) = grind (arith, (running_without n earlier), filter_twice, filter_swap)
running_without n (WriteFailed k ∷ earlier) = grind (arith, (running_without n earlier), filter_twice, filter_swap)
running_without n (e ∷ earlier) = running_without n earlier

syncs_without : (n : ℕ) (h : History) → running_syncs (without_write n h) ≡ running_syncs h
syncs_without n [] = refl
syncs_without n (e ∷ earlier) = grind (arith, (syncs_without n earlier))

-- One write folded.

pub done_of : (n m : ℕ) (h : History) → is_done (without_write n h) m ≡ true → is_done h m ≡ true
done_of n m [] is = is
done_of n m (WriteIssued w ∷ earlier) is = grind (arith, (done_of n m earlier))
done_of n m (WriteEnded k ∷ earlier) is = grind (arith, (done_of n m earlier))
done_of n m (WriteFailed k ∷ earlier) is = grind (arith, (done_of n m earlier))
done_of n m (e ∷ earlier) is = done_of n m earlier is

not_done : (n m : ℕ) (h : History) → is_done h m ≡ false → is_done (without_write n h) m ≡ false
not_done n m h out = false_from_ne_true (is_done (without_write n h) m) (λ is. both_ways (is_done h m) out (done_of n m h is))

writes_of : (n : ℕ) (h : History) (x : Write) → IsIn x (writes (without_write n h)) → IsIn x (writes h)
writes_of n [] x among = among
writes_of n (WriteIssued w ∷ earlier) x among = grind (arith, (writes_of n earlier x))
writes_of n (WriteEnded k ∷ earlier) x among = grind (arith, (writes_of n earlier x))
writes_of n (WriteFailed k ∷ earlier) x among = grind (arith, (writes_of n earlier x))
writes_of n (e ∷ earlier) x among = writes_of n earlier x among

lawful_without : (n : ℕ) (h : History) → IsLawful h → IsLawful (without_write n h)
lawful_without n [] l = l
lawful_without n (WriteIssued w ∷ earlier) l =
    cond_both (not (w.number == n)) (WriteIssued w ∷ without_write n earlier) (without_write n earlier) (λ g. IsLawful g)
    (λ _. (λ v among same. l.0 v (writes_of n earlier v among) same, not_done n w.number earlier l.1, lawful_without n earlier l.2))
    (λ _. lawful_without n earlier l.2)
lawful_without n (WriteEnded k ∷ earlier) l =
    cond_both (not (k == n)) (WriteEnded k ∷ without_write n earlier) (without_write n earlier) (λ g. IsLawful g)
    (λ _. (not_done n k earlier l.0, lawful_without n earlier l.1))
    (λ _. lawful_without n earlier l.1)
lawful_without n (WriteFailed k ∷ earlier) l =
    cond_both (not (k == n)) (WriteFailed k ∷ without_write n earlier) (without_write n earlier) (λ g. IsLawful g)
    (λ _. (not_done n k earlier l.0, lawful_without n earlier l.1))
    (λ _. lawful_without n earlier l.1)
lawful_without n (e ∷ earlier) l = lawful_without n earlier l

done_later : (n m : ℕ) (later h : History) → is_done (later ++ without_write n h) m ≡ true
    → is_done (later ++ h) m ≡ true
done_later n m [] h is = done_of n m h is
done_later n m (WriteEnded k ∷ later) h is = grind (arith, (done_later n m later h))
done_later n m (WriteFailed k ∷ later) h is = grind (arith, (done_later n m later h))
done_later n m (e ∷ later) h is = done_later n m later h is

not_done_later : (n m : ℕ) (later h : History) → is_done (later ++ h) m ≡ false
    → is_done (later ++ without_write n h) m ≡ false
not_done_later n m later h out = false_from_ne_true (is_done (later ++ without_write n h) m) (λ is. both_ways (is_done (later ++ h) m) out (done_later n m later h is))

lawful_later : (later h : History) (w : Write) → IsIn w (writes h) → IsLawful (later ++ h)
    → IsLawful (later ++ without_write w.number h)
lawful_later [] h w among l = lawful_without w.number h l
lawful_later (WriteIssued v ∷ later) h w among l = (
  λ x is_in same. l.0 x ((but_later later h w l.2 among).of x is_in).0 same,
  not_done_later w.number v.number later h l.1,
  lawful_later later h w among l.2,
)
lawful_later (WriteEnded k ∷ later) h w among l = (not_done_later w.number k later h l.0, lawful_later later h w among l.1)
lawful_later (WriteFailed k ∷ later) h w among l = (not_done_later w.number k later h l.0, lawful_later later h w among l.1)
lawful_later (e ∷ later) h w among l = lawful_later later h w among l

-- a volume with a write folded
abbrev pub with_folded : ℕ → List ℕ → Volume → Volume
with_folded n over v = record v { first = over; history = without_write n v.history }

running_same : (v : Volume) (n : ℕ) → IsSound v → is_done v.history n ≡ true
    → running_writes (without_write n v.history) ≡ running_writes v.history
running_same v n sound done =
    grind (arith, (running_without n v.history), done, but_none, false_from_ne_true, both_ways, runs_still)

pub held_folded : (v : Volume) (n : ℕ) (over write_list sync_list : List ℕ)
    → IsHeld v write_list sync_list → is_done v.history n ≡ true
    → IsHeld (with_folded n over v) write_list sync_list
held_folded v n over write_list sync_list held gone = record {
  sound = record {
    unit = held.sound.unit;
    lawful = lawful_without n v.history held.sound.lawful;
    numbered = record {
      some = held.sound.numbered.some;
      positive = λ x among. held.sound.numbered.positive x (writes_of n v.history x among);
      issued = λ x among. held.sound.numbered.issued x (writes_of n v.history x among);
      done = λ m is. held.sound.numbered.done m (done_of n m v.history is);
      running = λ m is. held.sound.numbered.running m (subst (λ ns. is_one_of m ns ≡ true) (running_same v n held.sound gone) is);
    };
  };
  writes = held.writes ∙ sym (running_same v n held.sound gone);
  syncs = held.syncs ∙ sym (syncs_without n v.history);
}

before_same : (v : Volume) (w m x : Write) → IsSound v → IsIn w (writes v.history)
    → IsIn m (writes (without_write w.number v.history)) → IsIn x (writes (without_write w.number v.history))
    → is_before (without_write w.number v.history) m.number x.number ≡ is_before v.history m.number x.number
before_same v w m x sound issued am ax =
    let but_it = but_later [] v.history w sound.lawful issued in
    (same_later w.number [] v.history).before m.number x.number (but_it.of m am).1 (but_it.of x ax).1

ended_same : (v : Volume) (w x : Write) → IsSound v → IsIn w (writes v.history)
    → IsIn x (writes (without_write w.number v.history))
    → has_ended (without_write w.number v.history) x.number ≡ has_ended v.history x.number
ended_same v w x sound issued among =
    (same_later w.number [] v.history).ended x.number ((but_later [] v.history w sound.lawful issued).of x among).1

done_same : (v : Volume) (w x : Write) → IsSound v → IsIn w (writes v.history)
    → IsIn x (writes (without_write w.number v.history))
    → is_done (without_write w.number v.history) x.number ≡ is_done v.history x.number
done_same v w x sound issued among =
    (same_later w.number [] v.history).done x.number ((but_later [] v.history w sound.lawful issued).of x among).1

-- a write is gone, or it is the one that was left out
gone_or_it : (v : Volume) (w x : Write) → IsSound v → IsIn w (writes v.history) → IsIn x (writes v.history)
    → IsIn x (writes (without_write w.number v.history)) ⊎ (x ≡ w)
gone_or_it v w x sound issued among = elim (cases_Bool (x.number == w.number)) [
  | inl named ↦ inr (one_number v.history x w sound.lawful among issued (eqb-true x.number w.number named))
  | inr other ↦ inl ((but_later [] v.history w sound.lawful issued).into x among (eqb-false x.number w.number other))
]

pub folded_one : (v : Volume) (w : Write) (over : List ℕ) → IsSound v → IsFoldable v.history w
    → IsOver v.first w over → IsFoldedFrom v (with_folded w.number over v)
folded_one v w over sound f is = record {
  unit = refl;
  next = refl;
  images = λ later now l. fold_changes_none v.unit v.first over later v.history w now sound.unit l f is;
  safe = λ later x l among. (same_later w.number later v.history).safe x ((but_later later v.history w l f.issued).of x among).1;
  lawful = λ later l. lawful_later later v.history w f.issued l;
  before = λ m x am ax. before_same v w m x sound f.issued am ax;
  have_ended = λ x among. ended_same v w x sound f.issued among;
  are_done = λ x among. done_same v w x sound f.issued among;
  none_new = λ x among. writes_of w.number v.history x among;
  gone = λ x among. elim (gone_or_it v w x sound f.issued among) [
    | inl there ↦ inl there
    | inr it ↦ inr (inl (subst (λ y. is_safe v.history y ≡ true) (sym it) f.safe))
  ];
  writes_run = running_same v w.number sound (ended_done v.history w.number (safe_ended v.history w f.safe));
  syncs_run = syncs_without w.number v.history;
  shown = shown_folded v.first over v.history w sound.lawful f is;
}

pub one_let_go : (v : Volume) (w : Write) → IsSound v → IsUnderSafe v.history w
    → IsFoldedFrom v (with_folded w.number v.first v)
one_let_go v w sound s = record {
  unit = refl;
  next = refl;
  images = λ later now l. letting_go_changes_none v.unit v.first later v.history w now sound.unit l s;
  safe = λ later x l among. (same_later w.number later v.history).safe x ((but_later later v.history w l s.issued).of x among).1;
  lawful = λ later l. lawful_later later v.history w s.issued l;
  before = λ m x am ax. before_same v w m x sound s.issued am ax;
  have_ended = λ x among. ended_same v w x sound s.issued among;
  are_done = λ x among. done_same v w x sound s.issued among;
  none_new = λ x among. writes_of w.number v.history x among;
  gone = λ x among. elim (gone_or_it v w x sound s.issued among) [
    | inl there ↦ inl there
    | inr it ↦ inr (inr (subst (λ y. IsUnderSafe v.history y) (sym it) s))
  ];
  writes_run = running_same v w.number sound (before_done v.history w.number s.over.number s.before);
  syncs_run = syncs_without w.number v.history;
  shown = shown_let_go v.first v.history w sound.lawful (lawful_without w.number v.history sound.lawful) s;
}

-- Several writes folded.

kept_later : (later g h : History) → ((w : Write) → IsIn w (writes h) → IsIn w (writes g))
    → (w : Write) → IsIn w (writes (later ++ h)) → IsIn w (writes (later ++ g))
kept_later [] g h f w among = f w among
kept_later (WriteIssued v ∷ later) g h f w among = grind (arith, (kept_later later g h f w))
kept_later (e ∷ later) g h f w among = kept_later later g h f w among

-- what lies under a safe one of those that are there did so before
pub under_back : (old new : Volume) (w : Write) → IsLawful old.history → IsFoldedFrom old new
    → IsUnderSafe new.history w → IsUnderSafe old.history w
under_back old new w l a s = record {
  issued = a.none_new w s.issued;
  over = s.over;
  over_issued = a.none_new s.over s.over_issued;
  safe = sym (a.safe [] s.over l s.over_issued) ∙ s.safe;
  before = sym (a.before w s.over s.issued s.over_issued) ∙ s.before;
  from = s.from;
  to = s.to;
}

pub folded_more : (old mid new : Volume) → IsLawful old.history → IsFoldedFrom old mid
    → IsFoldedFrom mid new → IsFoldedFrom old new
folded_more old mid new l a b = record {
  unit = b.unit ∙ a.unit;
  next = b.next ∙ a.next;
  images = λ later now law.
      let one = a.images later now law in
      let two = b.images later now (a.lawful later law) in
      (λ i. two.0 (one.0 i), λ i. one.1 (two.1 i));
  safe = λ later w law among.
      b.safe later w (a.lawful later law) among ∙ a.safe later w law (kept_later later mid.history new.history b.none_new w among);
  lawful = λ later law. b.lawful later (a.lawful later law);
  none_new = λ w among. a.none_new w (b.none_new w among);
  before = λ m w am aw. b.before m w am aw ∙ a.before m w (b.none_new m am) (b.none_new w aw);
  have_ended = λ w among. b.have_ended w among ∙ a.have_ended w (b.none_new w among);
  are_done = λ w among. b.are_done w among ∙ a.are_done w (b.none_new w among);
  gone = λ w among. elim (a.gone w among) [
    | inl there ↦ elim (b.gone w there) as (λ _. IsIn w (writes new.history) ⊎ ((is_safe old.history w ≡ true) ⊎ IsUnderSafe old.history w)) [
      | inl still ↦ inl still
      | inr out ↦ elim out as (λ _. IsIn w (writes new.history) ⊎ ((is_safe old.history w ≡ true) ⊎ IsUnderSafe old.history w)) [
        | inl safe ↦ inr (inl (sym (a.safe [] w l there) ∙ safe))
        | inr under ↦ inr (inr (under_back old mid w l a under))
      ]
    ]
    | inr out ↦ inr out
  ];
  writes_run = b.writes_run ∙ a.writes_run;
  syncs_run = b.syncs_run ∙ a.syncs_run;
  shown = b.shown ∙ a.shown;
}

-- What a call that folds one write, or none, makes of a volume.

-- the same volume with these first bytes and this history
abbrev pub made_of : List ℕ → History → Volume → Volume
made_of first h v = record v { first = first; history = h }

pub record IsResult (v : Volume) (r : Result Bool AllocError) (first : List ℕ) (h : History) : Type 0 where
  pub folded : r ≡ Ok true → IsOneFolded v.first first v.history h
  pub none : r ≡ Ok false → list_any (λ w. can_fold v.history w) (issued v.history) ≡ false
  pub kept : (r ≡ Ok true → ⊥) → (first ≡ v.first) × (h ≡ v.history)

held_by : (v : Volume) (r : Result Bool AllocError) (first : List ℕ) (h : History)
    (write_list sync_list : List ℕ) → IsHeld v write_list sync_list → IsResult v r first h
    → IsHeld (made_of first h v) write_list sync_list × IsFoldedFrom v (made_of first h v)
held_by v (Ok true) first h write_list sync_list held is =
    let one = is.folded refl in
    let f = foldable_by v.history one.write held.sound.lawful one.issued one.can in (
      subst (λ g. IsHeld (made_of first g v) write_list sync_list) (sym one.without) (held_folded v one.write.number first write_list sync_list held (ended_done v.history one.write.number (safe_ended v.history one.write f.safe))),
      subst (λ g. IsFoldedFrom v (made_of first g v)) (sym one.without) (folded_one v one.write first held.sound f one.over),
    )
held_by v (Ok false) first h write_list sync_list held is = grind arith
held_by v (Err e) first h write_list sync_list held is = grind arith

pub folded_result : (v : Volume) (r : Result Bool AllocError) (first : List ℕ) (h : History)
    (write_list sync_list : List ℕ) → IsHeld v write_list sync_list → IsResult v r first h
    → IsFoldedFrom v (made_of first h v)
folded_result v r first h write_list sync_list held is = (held_by v r first h write_list sync_list held is).1

pub none_result : (v : Volume) (r : Result Bool AllocError) (first : List ℕ) (h : History)
    → IsResult v r first h → r ≡ Ok false → (w : Write) → IsFoldable h w → ⊥
none_result v r first h is none w foldable = grind (arith, both_ways, is_any, in_issued, can_fold_it)

-- a volume is folded from itself
pub folded_none : (v : Volume) → IsFoldedFrom v v
folded_none v = record {
  unit = refl;
  next = refl;
  images = λ later now l. (λ i. i, λ i. i);
  safe = λ later w l among. refl;
  lawful = λ later l. l;
  before = λ m w am aw. refl;
  have_ended = λ w among. refl;
  are_done = λ w among. refl;
  none_new = λ w among. among;
  gone = λ w among. inl among;
  writes_run = refl;
  syncs_run = refl;
  shown = refl;
}

-- What a call that lets one write go, or none, makes of a volume.
pub let_go_by : (v : Volume) (b : Bool) (h : History) (next : ℕ) → IsSound v
    → (b ≡ true → IsOneLetGo v.history h) → (b ≡ false → h ≡ v.history) → next ≡ v.next
    → IsFoldedFrom v (record { unit = v.unit; first = v.first; history = h; next = next })
let_go_by v true h next sound one none same =
    let is = one refl in
    subst (λ n. IsFoldedFrom v (record { unit = v.unit; first = v.first; history = h; next = n })) (sym same)
    (subst (λ g. IsFoldedFrom v (record v { history = g })) (sym is.without) (one_let_go v is.write sound (under_by v.history is.write is.issued is.can)))
let_go_by v false h next sound one none same =
    subst (λ n. IsFoldedFrom v (record { unit = v.unit; first = v.first; history = h; next = n })) (sym same)
    (subst (λ g. IsFoldedFrom v (record v { history = g })) (sym (none refl)) (folded_none v))
