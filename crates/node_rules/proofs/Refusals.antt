-- What refuses changes nothing.
use Rattle.node_rules.specs.Laws.{AFrameRefusedChangesNothing, ADropChangesNothing, AMetersDropChangesNothing, ACoordinatorsDropChangesNothing}
use Rattle.node_rules.specs.Laws.{ASendRefusedChangesNothing, AJoinRefusedChangesNothing, AnOrderRefusedChangesNothing}
use Rattle.std.proofs.Common.{[]}
use Rattle.node_rules.proofs.Shapes.{refuses_cleanly}
use Rattle.node_rules.proofs.TablePuts.{AnyMembership}
use Rattle.node_rules.proofs.HearingShapes.{hear_shape}
use Rattle.node_rules.proofs.CallShapes.{accept_shape, accepts_cleanly, send_shape, send_command_shape}
use Rattle.node_rules.proofs.MeterShapes.{meter_shape, joins_shape, leaves_shape}
use Rattle.node_rules.specs.Ciphers.{network}
use Rattle.node_rules.proofs.CoordinatorShapes.{coordinator_shape, allow_shape, depot_shape, rekey_shape, activate_self_shape, challenge_shape, activate_shape}
use Rattle.node_rules.proofs.CoordinatorShapes.{kick_shape}

pub frames_refused : AFrameRefusedChangesNothing
frames_refused l own a = accepts_cleanly l _ (accept_shape l own a)

pub drops : ADropChangesNothing
drops l got cost note now = refuses_cleanly _ _ l _ _ (hear_shape AnyMembership [] l got cost note now)

pub meters_drops : AMetersDropChangesNothing
meters_drops x m got cost note now = refuses_cleanly _ _ m _ _ (meter_shape x m got cost note now)

pub coordinators_drops : ACoordinatorsDropChangesNothing
coordinators_drops own m got cost note now = refuses_cleanly _ _ m _ _ (coordinator_shape own m got cost note now)

pub sends_refused : ASendRefusedChangesNothing
sends_refused l to octets note now = (
  refuses_cleanly _ _ l _ _ (send_shape AnyMembership [] l to octets note now),
  refuses_cleanly _ _ l _ _ (send_command_shape AnyMembership [] l to octets now),
)

pub joins_refused : AJoinRefusedChangesNothing
joins_refused x m agent now = (refuses_cleanly _ _ m _ _ (joins_shape x m agent now), refuses_cleanly _ _ m _ _ (leaves_shape x m))

pub orders_refused : AnOrderRefusedChangesNothing
orders_refused own m eui key index now = (
  refuses_cleanly _ _ m _ _ (allow_shape (record { eui = own; ciphers = network }) m eui key),
  refuses_cleanly _ _ m _ _ (depot_shape (record { eui = own; ciphers = network }) m eui key),
  refuses_cleanly _ _ m _ _ (rekey_shape (record { eui = own; ciphers = network }) m index key),
  refuses_cleanly _ _ m _ _ (activate_self_shape (record { eui = own; ciphers = network }) m index),
  refuses_cleanly _ _ m _ _ (challenge_shape (record { eui = own; ciphers = network }) m eui now),
  refuses_cleanly _ _ m _ _ (activate_shape (record { eui = own; ciphers = network }) m eui index now),
  refuses_cleanly _ _ m _ _ (kick_shape (record { eui = own; ciphers = network }) m eui),
)
