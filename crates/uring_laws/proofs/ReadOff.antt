-- The lists of a world are its history's own.
use Rattle.std.proofs.Common.{sym, ap, ◌∙◌, arith}
use Rattle.uring_laws.proofs.Common.{History, IsLawfulApart, OwnCompletions, OwnPosted, OwnRequests, OwnSubmission, Setup, before_last, by_manual, completion_of, filter_map, is_load_cq_tail, world}
use Rattle.uring_laws.proofs.DirectSubmission.{direct_submission, call_direct}
use Rattle.uring_laws.proofs.DirectCompletions.{direct_completions}
use Rattle.uring_laws.proofs.DirectPut.{direct_put, posted_told, lawful_last}
use Rattle.uring_laws.proofs.DirectRequests.{direct_requests, direct_posted}
use Rattle.uring_laws.proofs.DirectPlaces.{direct_places}
use Rattle.uring_laws.proofs.ToldRequests.{tells_requests}

pub own_submission : (g : Setup) (h : History) → IsLawfulApart g h → OwnSubmission g h
own_submission g h lawful =
    grind (arith, (direct_submission g h lawful), (direct_places g h lawful), call_direct, (direct_requests g h lawful))

pub own_requests : (g : Setup) (h : History) → IsLawfulApart g h → OwnRequests g h
own_requests g h lawful =
    grind (arith, (tells_requests g h lawful), (direct_requests g h lawful))

pub own_completions : (g : Setup) (h : History) → IsLawfulApart g h → OwnCompletions g h
own_completions g h lawful =
    grind (arith, (direct_completions g h lawful), (direct_put g (before_last is_load_cq_tail h) (lawful_last g is_load_cq_tail h lawful)), (posted_told g h lawful), (direct_put g h lawful))

-- by the manual pages' rules
pub own_posted : (g : Setup) (h : History) → IsLawfulApart (by_manual g) h
    → OwnPosted (by_manual g) h
own_posted g h lawful = direct_posted g h lawful ∙ ap (filter_map (completion_of (world (by_manual g) h).requests.accepted)) (sym (tells_requests (by_manual g) h lawful).ended)
