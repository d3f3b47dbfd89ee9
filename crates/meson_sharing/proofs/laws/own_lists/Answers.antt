use Rattle.meson_sharing.proofs.ApartReads.{others_read_nothing, reach_no_other}
use Rattle.meson_sharing.proofs.Sharing.{own_is_unshared, own_spreads, unshared_spreads}
use Rattle.meson_sharing.proofs.ToldTargets.{not_shared_is_own, own_is_not_shared}
use Rattle.meson_sharing.proofs.laws.own_lists.Goals as goal

pub returns-clause-own_are_read_for_one : goal.returns-clause-own_are_read_for_one
returns-clause-own_are_read_for_one c = own_spreads

pub returns-clause-unshared_are_read_for_one : goal.returns-clause-unshared_are_read_for_one
returns-clause-unshared_are_read_for_one c = unshared_spreads

pub returns-clause-own_are_unshared : goal.returns-clause-own_are_unshared
returns-clause-own_are_unshared c = own_is_unshared

pub returns-clause-own_are_not_shared : goal.returns-clause-own_are_not_shared
returns-clause-own_are_not_shared c = own_is_not_shared

pub returns-clause-not_shared_are_own : goal.returns-clause-not_shared_are_own
returns-clause-not_shared_are_own c = not_shared_is_own

pub returns-clause-others_read_nothing : goal.returns-clause-others_read_nothing
returns-clause-others_read_nothing c = others_read_nothing

pub returns-clause-own_reach_no_other : goal.returns-clause-own_reach_no_other
returns-clause-own_reach_no_other c = reach_no_other
