-- A history without one of its writes tells the same of all others.
use Rattle.std.proofs.Common.{◌≡◌, ℕ, [], ◌∷◌, ◌++◌, refl, sym, ap, ◌∙◌, inl, inr, rules, arith}
use Rattle.uring_volume.proofs.Common.{Event, History, IsIn, IsLawful, Write, WriteEnded, WriteFailed, WriteIssued, filter, goes_along, has_ended, is_before, is_covered, is_done, is_given_up, is_reached, is_safe, ne_eqb, not-true, without_write, writes}
use Rattle.uring_volume.proofs.Units.{in_filter, of_filter}
use Rattle.uring_volume.proofs.Fitting.{lacks}

-- h tells the same as g of all writes but n.
pub record SameBut (n : ℕ) (g h : History) : Type 0 where
  pub ended : (m : ℕ) → (m ≡ n → ⊥) → has_ended h m ≡ has_ended g m
  pub done : (m : ℕ) → (m ≡ n → ⊥) → is_done h m ≡ is_done g m
  pub along : (a b : ℕ) → (a ≡ n → ⊥) → (b ≡ n → ⊥) → goes_along h a b ≡ goes_along g a b
  pub before : (a b : ℕ) → (a ≡ n → ⊥) → (b ≡ n → ⊥) → is_before h a b ≡ is_before g a b
  pub covered : (s : ℕ) (x : Write) → (x.number ≡ n → ⊥) → is_covered h s x ≡ is_covered g s x
  pub reached : (s : ℕ) (x : Write) → (x.number ≡ n → ⊥) → is_reached h s x ≡ is_reached g s x
  pub given_up : (x : Write) → (x.number ≡ n → ⊥) → is_given_up h x ≡ is_given_up g x
  pub safe : (x : Write) → (x.number ≡ n → ⊥) → is_safe h x ≡ is_safe g x

same_cons : (n : ℕ) (e : Event) (g h : History) → SameBut n g h → SameBut n (e ∷ g) (e ∷ h)
same_cons n e g h same = search rules

-- the write's own events say nothing of others
skip_issue : (n : ℕ) (w : Write) (g h : History) → (w.number ≡ n) → SameBut n g h
    → SameBut n (WriteIssued w ∷ g) h
skip_issue n w g h is same = search rules

skip_end : (n k : ℕ) (g h : History) → k ≡ n → SameBut n g h → SameBut n (WriteEnded k ∷ g) h
skip_end n k g h is same = search rules

skip_failure : (n k : ℕ) (g h : History) → k ≡ n → SameBut n g h → SameBut n (WriteFailed k ∷ g) h
skip_failure n k g h is same = search rules

same_without : (n : ℕ) (h : History) → SameBut n h (without_write n h)
same_without n [] = search rules
same_without n (WriteIssued w ∷ earlier) = grind (arith, skip_issue, same_cons, (same_without n earlier))
same_without n (WriteEnded k ∷ earlier) = grind (arith, skip_end, same_cons, (same_without n earlier))
same_without n (WriteFailed k ∷ earlier) = grind (arith, skip_failure, same_cons, (same_without n earlier))
same_without n (e ∷ earlier) = same_cons n e earlier (without_write n earlier) (same_without n earlier)

pub same_later : (n : ℕ) (later h : History) → SameBut n (later ++ h) (later ++ without_write n h)
same_later n [] h = same_without n h
same_later n (e ∷ later) h = same_cons n e (later ++ h) (later ++ without_write n h) (same_later n later h)

-- Its writes are the others.

pub writes_without : (n : ℕ) (h : History) → writes (without_write n h) ≡ filter (lacks n) (writes h)
writes_without n [] = refl
writes_without n (WriteIssued w ∷ earlier) = search (rules, (writes_without n earlier))
writes_without n (WriteEnded k ∷ earlier) = search (rules, (writes_without n earlier))
writes_without n (WriteFailed k ∷ earlier) = search (rules, (writes_without n earlier))
writes_without n (e ∷ earlier) = writes_without n earlier

-- the writes of one history are those of another but n
pub record WritesBut (n : ℕ) (g h : History) : Type 0 where
  pub of : (x : Write) → IsIn x (writes h) → IsIn x (writes g) × (x.number ≡ n → ⊥)
  pub into : (x : Write) → IsIn x (writes g) → (x.number ≡ n → ⊥) → IsIn x (writes h)

-- a write of an earlier history is one of the later
pub in_later : (later h : History) (w : Write) → IsIn w (writes h) → IsIn w (writes (later ++ h))
in_later [] h w among = among
in_later (WriteIssued v ∷ later) h w among = inr (in_later later h w among)
in_later (e ∷ later) h w among = in_later later h w among

pub but_without : (n : ℕ) (h : History) → WritesBut n h (without_write n h)
but_without n h = search (rules, of_filter, writes_without, not-true, in_filter, ne_eqb)

pub but_later : (later h : History) (w : Write) → IsLawful (later ++ h) → IsIn w (writes h)
    → WritesBut w.number (later ++ h) (later ++ without_write w.number h)
but_later [] h w l among = but_without w.number h
but_later (WriteIssued v ∷ later) h w l among =
    let more = but_later later h w l.2 among in
    record {
      of = λ x is. elim is [
        | inl same ↦ (inl same, λ e. l.0 w (in_later later h w among) (sym e ∙ ap (λ y. y.number) same))
        | inr rest ↦ (inr (more.of x rest).0, (more.of x rest).1)
      ];
      into = λ x is other. elim is [
        | inl same ↦ inl same
        | inr rest ↦ inr (more.into x rest other)
      ];
    }
but_later (WriteEnded k ∷ later) h w l among = assumption (but_later later h w l.1 among)
but_later (WriteFailed k ∷ later) h w l among = assumption (but_later later h w l.1 among)
but_later (e ∷ later) h w l among = assumption (but_later later h w l among)
