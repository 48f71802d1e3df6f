use Rattle.uring_laws.proofs.ReadOff.{own_submission, own_requests, own_completions, own_posted}
use Rattle.uring_laws.proofs.Chosen.{chosen_in, chosen_stays}
use Rattle.uring_laws.proofs.Common.{History, IsLawfulApart, OwnCancelled, OwnPosted, of_manual}
use Rattle.uring_laws.proofs.lists_are_the_historys_own.Goals as goal

pub returns : goal.returns
returns c =
    record {
      submission = λ g h setup lawful. own_submission g h lawful;
      requests = λ g h setup lawful. own_requests g h lawful;
      completions = λ g h setup lawful. own_completions g h lawful;
      posted = λ g manual h setup lawful. of_manual (λ g. (h : History) → IsLawfulApart g h → OwnPosted g h) own_posted g manual h lawful;
      cancelled = λ g manual h setup lawful. of_manual (λ g. (h : History) → IsLawfulApart g h → OwnCancelled g h) (λ g h lawful m. (chosen_in g h lawful m, chosen_stays g h lawful m)) g manual h lawful;
    }
