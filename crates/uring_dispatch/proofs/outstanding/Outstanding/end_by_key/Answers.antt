use Rattle.std.proofs.Common.{arith, None, refl, sym, ◌∙◌}
use Rattle.uring_dispatch.proofs.WaitingLemmas.{running_absent, tell_outstanding, tell_kept, keeps_both, idle_listed, forgotten_keeps, end_listed}
use Rattle.uring_dispatch.proofs.ByData.{found_on, found_dropped, goes_ended}
use Rattle.uring_dispatch.proofs.outstanding.Outstanding.end_by_key.Goals as goal

pub end-requires : goal.end-requires
end-requires c =
    let listed = c.args.self.now.told.told c.args.n in
    record {
      tell = tell_outstanding _ _ _ c.args.n c.args.self.now.told c.take_out-others.ensures.there;
      heads = λ runs. (running_absent _ _ _ c.args.n listed (sym c.take_out-others.ensures.ran ∙ runs)).0;
      doomed = λ runs. (running_absent _ _ _ c.args.n listed (sym c.take_out-others.ensures.ran ∙ runs)).1;
    }

pub relist_other-requires : goal.relist_other-requires
relist_other-requires c =
    let own = idle_listed _ c.take_out-others.new.self.groups _ _ c.args.n None c.take_out-others.ensures.gone.here refl refl c.end.ensures.heads c.end.ensures.doomed in
    record {
      tell = tell_kept _ _ _ _ _ (tell_outstanding _ _ _ c.take_out-others.result.head c.args.self.now.told c.take_out-others.ensures.head) (forgotten_keeps _ _ _ _ c.args.n own c.end.ensures.heads c.end.ensures.doomed);
      told = λ same. rw same own;
    }

pub invariant_of-self-2 : goal.invariant_of-self-2
invariant_of-self-2 c =
    let gone = c.take_out-others.ensures.gone in
    let own = idle_listed _ c.take_out-others.new.self.groups _ _ c.args.n None gone.here refl refl c.end.ensures.heads c.end.ensures.doomed in
    let a = forgotten_keeps _ _ _ _ c.args.n own c.end.ensures.heads c.end.ensures.doomed in
    let b = c.relist_other.ensures in
    let d = c.relist_range.ensures in
    record {
      told =
          end_listed _ _ _ _ _ _ _ c.args.n c.take_out-others.result.head c.take_out-others.result.doomed_end c.first-first.result c.args.self.now.told gone c.take_out-others.ensures.counts.end c.take_out-others.ensures.others
          (keeps_both _ _ _ _ _ (keeps_both _ _ _ _ _ a b.keeps) d.keeps) (d.keeps.told c.args.n (b.keeps.told c.args.n own)) (d.keeps.told c.take_out-others.result.head b.here) d.here c.drop_before.ensures.heads c.drop_before.ensures.doomed c.first-first.ensures.within c.first-first.ensures.before;
      found =
          let e = c.drop_before-2.ensures in
          let end = c.take_out-others.ensures.counts.end in
          found_dropped _ _ _ c.first-first.result (found_on _ _ _ c.args.self.now.found (goes_ended gone end) (omega (arith, end, c.args.self.now.found.places))) c.first-first.ensures.within c.first-first.ensures.before e.up e.no_more e.ends;
    }
