-- The laws of completions that were posted.
use Rattle.std.proofs.Common.{◌≡◌, ◌≤◌, true, ◌==◌, length, drop, Some, None, List, [], ◌∷◌, ◌++◌, refl, sym, ap, ◌∙◌, arith}
use Rattle.std.specs.Ordering.{int_eq}
use Rattle.uring_enter.proofs.Common.{and_parts, drop-append-le, drop-drop, drop-map, length-append, length-drop, map-append}
use Rattle.std.proofs.lemmas.Bool.Decides.{Decides-eqb, Decides-int_eq}
use Rattle.uring_enter.specs.declared.completions.posted.Posted.{Posted}
use Rattle.uring_enter.specs.declared.completions.posted.Completion.{Completion}
use Rattle.uring_enter.specs.Completions.Postings.{Posting, Ended, Reaped, is_of, unreaped}
use Rattle.uring_enter.specs.Completions.PostingLaws.{IsPosting, cores, core_of, ShowsTheCores, all, gone, ShowsEachOnce}

-- the core's completion of an end is what the core knows of it
core_is : (end : Posted) (c : Completion) → is_of end c ≡ true → core_of end ≡ c
core_is end c is i = record {
  user_data = sym ((Decides-eqb c.user_data end.token).0 (and_parts (c.user_data == end.token) (int_eq c.res end.told) is).0) i;
  res = sym ((Decides-int_eq c.res end.told).0 (and_parts (c.user_data == end.token) (int_eq c.res end.told) is).1) i;
}

pub shows_the_cores : ShowsTheCores
shows_the_cores [] run = refl
shows_the_cores (Ended end None ∷ earlier) run = shows_the_cores earlier run
shows_the_cores (Ended end (Some c) ∷ earlier) run =
    map-append core_of (unreaped earlier) (end ∷ [])
    ∙ ap (λ l. l ++ core_of end ∷ []) (shows_the_cores earlier run.0)
    ∙ ap (λ v. cores earlier ++ v ∷ []) (core_is end c run.1)
shows_the_cores (Reaped count ∷ earlier) run = grind (arith, drop-map, (shows_the_cores earlier run.0))

record IsInOrder (log : List Posting) : Type 0 where
  pub rest : unreaped log ≡ drop (gone log) (all log)
  pub within : gone log ≤ length (all log)

in_order : (log : List Posting) → IsPosting log → IsInOrder log
in_order [] run = record { rest = refl; within = omega arith }
in_order (Ended end None ∷ earlier) run = grind (arith, (in_order earlier run))
in_order (Ended end (Some c) ∷ earlier) run = grind (arith, (in_order earlier run.0), length-append, drop-append-le)
in_order (Reaped count ∷ earlier) run = grind (arith, (in_order earlier run.0), length-drop, drop-drop)

pub shows_each_once : ShowsEachOnce
shows_each_once log run = (in_order log run).rest
