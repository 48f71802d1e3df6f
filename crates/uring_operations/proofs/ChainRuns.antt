-- The laws of chains.
use Rattle.std.proofs.Common.{[], ◌∷◌, refl, arith}
use Rattle.std.proofs.lemmas.Bool.{and_parts}
use Rattle.uring_operations.specs.Chains.ChainLaws.{LimitsTheOneBefore, LimitsOneAtMost, all_link, ChainsHold, ChainsEnd}

pub limits_the_one_before : LimitsTheOneBefore
limits_the_one_before first entry before earlier = grind arith

pub limits_one_at_most : LimitsOneAtMost
limits_one_at_most timeout one other is also = grind arith

pub chains_hold : ChainsHold
chains_hold first [] earlier all = refl
chains_hold first (e ∷ newer) earlier all =
    grind (arith, (chains_hold first newer earlier (and_parts e.links (all_link newer) all).1))

pub chains_end : ChainsEnd
chains_end first before earlier is = grind arith
