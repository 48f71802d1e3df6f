-- Which history allows no image that another doesn't: the laws of syncs and of the events that change none.
use Rattle.std.proofs.Common.{◌≡◌, ℕ, Bool, true, List, [], ◌∷◌, ◌++◌, refl, sym, arith}
use Rattle.uring_volume.proofs.Common.{ChangesNone, FailedIsNeverSafe, FailedLiesUnder, History, IsImage, IsInOrder, MayBeLeft, SyncAddsNone, SyncEnded, SyncFailed, SyncIssued, Write, WriteEnded, WriteFailed, WriteIssued, eq-eqb, goes_along, has_ended, is_before, is_covered, is_done, is_given_up, is_reached, is_safe, writes}
use Rattle.uring_volume.specs.declared.event.SyncRange.{SyncRange}

-- The history g has the writes of h, in the same order, and each write that is safe in g is safe in h.
pub record IsNoTighter (g h : History) : Type 0 where
  pub writes : writes g ≡ writes h
  pub before : (m n : ℕ) → is_before g m n ≡ is_before h m n
  pub along : (m n : ℕ) → goes_along g m n ≡ goes_along h m n
  pub safe : (w : Write) → is_safe g w ≡ true → is_safe h w ≡ true

order_in : (g h : History) (order : List Write) → IsNoTighter g h → IsInOrder h order
    → IsInOrder g order
order_in g h [] t o = tt
order_in g h (w ∷ later) t o = grind (arith, (order_in g h later t))

left_in : (g h : History) (touches : Write → Bool) (order : List Write) → IsNoTighter g h
    → MayBeLeft h touches order → MayBeLeft g touches order
left_in g h touches order t l = grind (arith, order_in)

pub image_in : (g h : History) (u : ℕ) (first now : List ℕ) → IsNoTighter g h
    → IsImage u first h now → IsImage u first g now
image_in g h u first now t image = record {
  units = λ i. record {
    order = (image.units i).order;
    left = left_in g h _ (image.units i).order t (image.units i).left;
    bytes = (image.units i).bytes;
  };
  len = record {
    order = image.len.order;
    left = left_in g h _ image.len.order t image.len.left;
    len = image.len.len;
  };
}

-- What a sync's end leaves as it was.

writes_same : (later earlier : History) (s : ℕ)
    → writes (later ++ SyncEnded s ∷ earlier) ≡ writes (later ++ earlier)
writes_same [] earlier s = refl
writes_same (WriteIssued w ∷ later) earlier s = grind (arith, (writes_same later earlier s))
writes_same (e ∷ later) earlier s = writes_same later earlier s

ended_same : (later earlier : History) (s n : ℕ)
    → has_ended (later ++ SyncEnded s ∷ earlier) n ≡ has_ended (later ++ earlier) n
ended_same [] earlier s n = refl
ended_same (WriteEnded m ∷ later) earlier s n = grind (arith, (ended_same later earlier s n))
ended_same (e ∷ later) earlier s n = ended_same later earlier s n

done_same : (later earlier : History) (s n : ℕ)
    → is_done (later ++ SyncEnded s ∷ earlier) n ≡ is_done (later ++ earlier) n
done_same [] earlier s n = refl
done_same (WriteEnded m ∷ later) earlier s n = grind (arith, (done_same later earlier s n))
done_same (WriteFailed m ∷ later) earlier s n = grind (arith, (done_same later earlier s n))
done_same (e ∷ later) earlier s n = done_same later earlier s n

along_same : (later earlier : History) (s m n : ℕ)
    → goes_along (later ++ SyncEnded s ∷ earlier) m n ≡ goes_along (later ++ earlier) m n
along_same [] earlier s m n = refl
along_same (WriteIssued w ∷ later) earlier s m n = grind (arith, ended_same, (along_same later earlier s m n))
along_same (e ∷ later) earlier s m n = along_same later earlier s m n

before_same : (later earlier : History) (s m n : ℕ)
    → is_before (later ++ SyncEnded s ∷ earlier) m n ≡ is_before (later ++ earlier) m n
before_same [] earlier s m n = refl
before_same (WriteIssued w ∷ later) earlier s m n = grind (arith, done_same, (before_same later earlier s m n))
before_same (e ∷ later) earlier s m n = before_same later earlier s m n

covered_same : (later earlier : History) (s t : ℕ) (w : Write)
    → is_covered (later ++ SyncEnded s ∷ earlier) t w ≡ is_covered (later ++ earlier) t w
covered_same [] earlier s t w = refl
covered_same (SyncIssued r range ∷ later) earlier s t w = grind (arith, ended_same, (covered_same later earlier s t w))
covered_same (e ∷ later) earlier s t w = covered_same later earlier s t w

reached_same : (later earlier : History) (s t : ℕ) (w : Write)
    → is_reached (later ++ SyncEnded s ∷ earlier) t w ≡ is_reached (later ++ earlier) t w
reached_same [] earlier s t w = refl
reached_same (SyncIssued r range ∷ later) earlier s t w = grind (arith, ended_same, (reached_same later earlier s t w))
reached_same (e ∷ later) earlier s t w = reached_same later earlier s t w

given_up_same : (later earlier : History) (s : ℕ) (w : Write)
    → is_given_up (later ++ SyncEnded s ∷ earlier) w ≡ is_given_up (later ++ earlier) w
given_up_same [] earlier s w = refl
given_up_same (SyncFailed t ∷ later) earlier s w = grind (arith, reached_same, (given_up_same later earlier s w))
given_up_same (e ∷ later) earlier s w = given_up_same later earlier s w

safe_stays : (later earlier : History) (s : ℕ) (w : Write) → is_safe (later ++ earlier) w ≡ true
    → is_safe (later ++ SyncEnded s ∷ earlier) w ≡ true
safe_stays [] earlier s w e = grind arith
safe_stays (SyncEnded t ∷ later) earlier s w e = grind (arith, covered_same, given_up_same, (safe_stays later earlier s w))
safe_stays (e ∷ later) earlier s w h = safe_stays later earlier s w h

pub sync_adds_none : SyncAddsNone
sync_adds_none u first later earlier s now image =
    image_in (later ++ earlier) (later ++ SyncEnded s ∷ earlier) u first now (record {
      writes = sym (writes_same later earlier s);
      before = λ m n. sym (before_same later earlier s m n);
      along = λ m n. sym (along_same later earlier s m n);
      safe = λ w. safe_stays later earlier s w;
    }) image

-- The events that change no image.

pub end_changes_none : (n : ℕ) → ChangesNone (WriteEnded n)
end_changes_none n u first h now =
    (image_in h (WriteEnded n ∷ h) u first now (record { writes = refl; before = λ m k. refl; along = λ m k. refl; safe = λ k e. e }), image_in (WriteEnded n ∷ h) h u first now (record { writes = refl; before = λ m k. refl; along = λ m k. refl; safe = λ k e. e }))

pub issue_changes_none : (s : ℕ) (range : SyncRange) → ChangesNone (SyncIssued s range)
issue_changes_none s range u first h now =
    (image_in h (SyncIssued s range ∷ h) u first now (record { writes = refl; before = λ m k. refl; along = λ m k. refl; safe = λ k e. e }), image_in (SyncIssued s range ∷ h) h u first now (record { writes = refl; before = λ m k. refl; along = λ m k. refl; safe = λ k e. e }))

pub failure_changes_none : (s : ℕ) → ChangesNone (SyncFailed s)
failure_changes_none s u first h now =
    (image_in h (SyncFailed s ∷ h) u first now (record { writes = refl; before = λ m k. refl; along = λ m k. refl; safe = λ k e. e }), image_in (SyncFailed s ∷ h) h u first now (record { writes = refl; before = λ m k. refl; along = λ m k. refl; safe = λ k e. e }))

-- A sync that fails.

given_up_stays : (later earlier : History) (s : ℕ) (w : Write) → is_reached earlier s w ≡ true
    → is_given_up (later ++ SyncFailed s ∷ earlier) w ≡ true
given_up_stays [] earlier s w c = grind arith
given_up_stays (SyncFailed t ∷ later) earlier s w c = grind (arith, (given_up_stays later earlier s w c))
given_up_stays (e ∷ later) earlier s w c = given_up_stays later earlier s w c

pub never_safe : FailedIsNeverSafe
never_safe [] earlier s w c f = f
never_safe (SyncEnded t ∷ later) earlier s w c f = grind (arith, given_up_stays, (never_safe later earlier s w c f))
never_safe (e ∷ later) earlier s w c f = never_safe later earlier s w c f

pub write_failure_changes_none : (n : ℕ) → ChangesNone (WriteFailed n)
write_failure_changes_none n u first h now =
    (image_in h (WriteFailed n ∷ h) u first now (record { writes = refl; before = λ m k. refl; along = λ m k. refl; safe = λ k e. e }), image_in (WriteFailed n ∷ h) h u first now (record { writes = refl; before = λ m k. refl; along = λ m k. refl; safe = λ k e. e }))

-- A write that fails.

pub lies_under : FailedLiesUnder
lies_under [] earlier w m = grind (arith, eq-eqb)
lies_under (WriteIssued v ∷ later) earlier w m = grind (arith, (lies_under later earlier w m))
lies_under (e ∷ later) earlier w m = lies_under later earlier w m
