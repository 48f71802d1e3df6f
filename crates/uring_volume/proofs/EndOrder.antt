-- The writes that have ended, in the order of their ends.
use Rattle.std.proofs.Common.{◌≡◌, ℕ, ◌==◌, ◌<◌, ◌+◌, true, false, List, [], ◌∷◌, ◌++◌, length, take, get_or, refl, sym, subst, ◌∙◌, inl, inr, arith}
use Rattle.std.proofs.lemmas.List.Elements.{filter-append}
use Rattle.uring_volume.proofs.Common.{append_assoc, ended, append-nil, eq-eqb, take_more, named, History, IsIn, IsLawful, SyncEnded, SyncFailed, SyncIssued, Write, WriteEnded, WriteFailed, WriteIssued, both_ways, has_ended, is_done, issued, ne_eqb}
use Rattle.uring_volume.specs.Past.{end_list}
use Rattle.uring_volume.proofs.Fitting.{ended_done, in_either}

abbrev pub ends_of : List Write → List ℕ → List Write
ends_of ws [] = []
ends_of ws (n ∷ ns) = named n ws ++ ends_of ws ns

ends_append : (ws : List Write) (xs ys : List ℕ) → ends_of ws (xs ++ ys) ≡ ends_of ws xs ++ ends_of ws ys
ends_append ws [] ys = refl
ends_append ws (x ∷ xs) ys = grind (arith, (ends_append ws xs ys), append_assoc)

has_end : (h : History) (n : ℕ) → IsIn n (end_list h) → has_ended h n ≡ true
has_end [] n among = absurd among
has_end (WriteEnded k ∷ earlier) n among = elim (in_either n (end_list earlier) (k ∷ []) among) [
  | inl old ↦ grind (arith, (has_end earlier n old))
  | inr new ↦ elim new [
    | inl same ↦ grind (arith, same, eq-eqb)
    | inr none ↦ absurd none
  ]
]
has_end (WriteIssued w ∷ earlier) n among = has_end earlier n among
has_end (WriteFailed k ∷ earlier) n among = has_end earlier n among
has_end (SyncIssued s range ∷ earlier) n among = has_end earlier n among
has_end (SyncEnded s ∷ earlier) n among = has_end earlier n among
has_end (SyncFailed s ∷ earlier) n among = has_end earlier n among

ends_skip : (w : Write) (ws : List Write) (ns : List ℕ) → ((n : ℕ) → IsIn n ns → w.number == n ≡ false)
    → ends_of (ws ++ w ∷ []) ns ≡ ends_of ws ns
ends_skip w ws [] other = refl
ends_skip w ws (n ∷ ns) other =
    grind (arith, filter-append, append-nil, (other n (inl refl)), (ends_skip w ws ns (λ m among. other m (inr among))))

pub ended_is : (h : History) → IsLawful h → ended h ≡ ends_of (issued h) (end_list h)
ended_is [] l = refl
ended_is (WriteIssued w ∷ earlier) l =
    ended_is earlier l.2
    ∙ sym (ends_skip w (issued earlier) (end_list earlier) (λ n among. ne_eqb w.number n (λ same. both_ways (is_done earlier w.number) l.1 (subst (λ m. is_done earlier m ≡ true) (sym same) (ended_done earlier n (has_end earlier n among))))))
ended_is (WriteEnded k ∷ earlier) l = grind (arith, (ended_is earlier l.1), ends_append, append-nil)
ended_is (WriteFailed k ∷ earlier) l = ended_is earlier l.1
ended_is (SyncIssued s range ∷ earlier) l = ended_is earlier l
ended_is (SyncEnded s ∷ earlier) l = ended_is earlier l
ended_is (SyncFailed s ∷ earlier) l = ended_is earlier l

pub ends_more : (ws : List Write) (ns : List ℕ) (i n : ℕ) → i < length ns → n ≡ get_or ns i 0
    → ends_of ws (take (i + 1) ns) ≡ ends_of ws (take i ns) ++ named n ws
ends_more ws ns i n within is = grind (arith, (take_more ns i 0 within), (ends_append ws (take i ns) (get_or ns i 0 ∷ [])), append-nil)
