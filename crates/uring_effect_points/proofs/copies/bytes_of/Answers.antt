use Rattle.std.proofs.Common.{◌≡◌, ◌∷◌, [], length, ap, sym, vec_len, ◌∙◌, arith, rules}
use Rattle.uring_effect_points.proofs.Common.{length-append, slice_get, take_all}
use Rattle.uring_effect_points.proofs.Plain.{read_more, read_none}
use Rattle.uring_effect_points.proofs.copies.bytes_of.Goals as goal
use Rattle.uring_effect_points.proofs.copies.bytes_of.Goals.{in-Some-byte+in_ok-push-in-Some-byte, in-None}

pub loop-at-preserved : goal.loop-at-preserved
loop-at-preserved g c = elim c.match-byte.branch [
  | in-Some-byte+in_ok-push-in-Some-byte w ↦ record {
    read = λ f is.
        let got : c.byte.result ≡ slice_get f.bytes c.loop-at.at = search (rules, is) in
        read_more f.bytes c.loop-at.bytes.items _ c.loop-at.at _ (c.loop-at.invariant.read f is) (ap (λ v. v.items) w.bytes-is ∙ w.in_ok-push-in-Some-byte.ensures.items) (sym w.in-Some-byte.is ∙ got);
    few = let e = ap vec_len w.bytes-is in let l = ap length w.in_ok-push-in-Some-byte.ensures.items ∙ length-append c.loop-at.bytes.items (_ ∷ []) in let p = c.loop-at.invariant.few in omega (arith, e, l, p);
  }
  | in-None w ↦ record {
    read = λ f is.
        let got : c.byte.result ≡ slice_get f.bytes c.loop-at.at = search (rules, is) in
        ap (λ v. v.items) w.bytes-is ∙ read_none f.bytes c.loop-at.bytes.items c.loop-at.at (c.loop-at.invariant.read f is) (sym w.in-None.is ∙ got);
    few = let e = ap vec_len w.bytes-is in let p = c.loop-at.invariant.few in omega (arith, e, p);
  }
]

pub returns-clause-value : goal.returns-clause-value
returns-clause-value g c = λ f is.
    let long : c.in-Some.state.len ≡ length f.bytes = search (rules, is) in
    let past = c.loop-at-test.false in
    c.loop-at.invariant.read f is ∙ take_all c.loop-at.at f.bytes (omega (arith, long, past))
