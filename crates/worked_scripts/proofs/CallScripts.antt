-- What refuses the calls of the line, and which lines of a script are bad: the runs are computed.
use Rattle.std.proofs.Common.{refl}
use Rattle.worked_scripts.proofs.ComputedScripts.{computed}
use Rattle.worked_scripts.specs.CallScripts.{HaltedNodesDoNothing, CallsNeedAddresses, EightRandomValuesAreHeld, TheBookHasRoom, BadLinesHaveTheirReasons}
use Rattle.worked_scripts.specs.CallScripts.{SixtyFourAreNear}

pub halted_nodes_do_nothing : HaltedNodesDoNothing
unfolding computed HaltedNodesDoNothing
halted_nodes_do_nothing = (refl, refl, refl, refl)

pub calls_need_addresses : CallsNeedAddresses
unfolding computed CallsNeedAddresses
calls_need_addresses = refl

pub eight_random_values_are_held : EightRandomValuesAreHeld
unfolding computed EightRandomValuesAreHeld
eight_random_values_are_held = (refl, refl, refl)

pub the_book_has_room : TheBookHasRoom
unfolding computed TheBookHasRoom
the_book_has_room = (refl, refl, refl)

pub bad_lines_have_their_reasons : BadLinesHaveTheirReasons
unfolding computed BadLinesHaveTheirReasons
bad_lines_have_their_reasons =
    (refl, refl, refl, refl, refl, refl, refl, refl, refl, refl, refl, refl, refl, refl, refl, refl, refl, refl, refl, refl, refl, refl, refl)

pub sixty_four_are_near : SixtyFourAreNear
unfolding computed SixtyFourAreNear
sixty_four_are_near = (refl, refl, refl)
