use Rattle.std.proofs.Common.{◌≡◌, Bool, true, false, Some, None, if◌then◌else◌, sym, ap, ◌∙◌, rules}
use Rattle.uring_outcomes.proofs.Common.{Sqe, among, entry_of, is_outstanding, not-false, not-true, user_data_of}
use Rattle.uring_outcomes.proofs.next.is_quiet.Goals as goal

-- what is there is the entry
told : (there : Bool) (x y : Sqe) → Some x ≡ (if there then Some y else None) → x ≡ y
told true x y is = cc
told false x y is = absurd cc

pub returns-in-Some : goal.returns-in-Some
returns-in-Some c = λ calls m at quiet.
    let runs : c.runs.result ≡ true = search (rules, not-false) in
    let entry : c.in-Some.entry ≡ entry_of m.requests c.args.number = told (is_outstanding m.requests c.args.number) c.in-Some.entry (entry_of m.requests c.args.number) (c.in-Some.ensures m.requests at.requests) in
    record {
      runs = sym (c.runs.ensures calls m at) ∙ runs;
      unnamed = ap (λ e. among c.args.names.now (user_data_of e)) (sym entry) ∙ (ap (among c.args.names.now) (sym c.user_data.ensures) ∙ (sym c.contains.ensures.value ∙ not-true c.contains.result quiet));
    }
