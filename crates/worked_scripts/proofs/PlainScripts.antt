-- What frames without a seal cost, and what other ones do: computed.
use Rattle.std.proofs.Common.{refl}
use Rattle.worked_scripts.proofs.ComputedScripts.{computed}
use Rattle.worked_scripts.specs.PlainScripts.{ARightTagCostsMore, ASealCostsMore, TheFirstFramesHaveNoSeal}

pub the_first_frames_have_no_seal : TheFirstFramesHaveNoSeal
unfolding computed TheFirstFramesHaveNoSeal
the_first_frames_have_no_seal = (refl, tt, refl, refl, refl, tt, refl, refl)

pub a_right_tag_costs_more : ARightTagCostsMore
unfolding computed ARightTagCostsMore
a_right_tag_costs_more = (tt, refl, refl, refl, tt, refl, refl, refl)

pub a_seal_costs_more : ASealCostsMore
unfolding computed ASealCostsMore
a_seal_costs_more = (refl, refl, refl, refl, refl, refl, refl, refl)
