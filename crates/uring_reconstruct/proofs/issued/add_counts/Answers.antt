use Rattle.std.proofs.Common.{◌≡◌, ℤ, false, subst, rules, arith, None}
use Rattle.uring_reconstruct.proofs.Common.{Contains, posts, to_z-of_z, w32, world}
use Rattle.uring_reconstruct.proofs.Adding.{issued_as, adds_none, adds_then, counts_next}
use Rattle.uring_reconstruct.proofs.issued.add_counts.Goals as goal

pub loop-below-init : goal.loop-below-init
loop-below-init g c = record {
  adds = λ wanted. adds_none c.args.core.now wanted c.args.next.now.items;
  some = λ j low. absurd (omega (arith, low));
}

pub loop-below-preserved : goal.loop-below-preserved
loop-below-preserved g c =
    let same = to_z-of_z w32 c.count_of.result (search rules) in record {
      adds = λ wanted. adds_then c.args.core.now wanted c.args.next.now.items c.loop-below.next.items c.add_quiet.new.next.items (c.loop-below.invariant.adds wanted) (c.in_ok-add_quiet.ensures.adds wanted);
      some = λ j low h fits there quiet.
          let Q : ℤ → Type 0 = λ x. posts c.args.core.now.setup.linux (world c.args.core.now.setup h).requests c.args.number x ≡ false in
          counts_next Q c.args.number c.loop-below.next.items c.add_quiet.new.next.items c.loop-below.below c.count_of.result c.count_of.ensures
          (c.in_ok-add_quiet.ensures.adds None).kept
          (λ k less so. c.loop-below.invariant.some k less h fits there so)
          (subst (λ x. Q x → Contains c.add_quiet.new.next.items (issued_as c.args.number x)) same (c.in_ok-add_quiet.ensures.added h fits there))
          j low quiet;
    }

pub returns-clause-adds : goal.returns-clause-adds
returns-clause-adds g c = c.loop-below.invariant.adds

pub returns-clause-some : goal.returns-clause-some
returns-clause-some g c = λ manual all below low. c.loop-below.invariant.some below (omega arith)
