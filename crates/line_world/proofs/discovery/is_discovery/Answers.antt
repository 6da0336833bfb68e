-- Whether octets are heard as discovery.
use Rattle.std.proofs.Common.{length, sym}
use Rattle.std.proofs.lemmas.Bool.{eqb-false}
use Rattle.line_world.proofs.Discoveries.{first_type, other_type}
use Rattle.line_world.proofs.discovery.is_discovery.Goals as goal

pub returns-then-frame_type-eq0 : goal.returns-then-frame_type-eq0
returns-then-frame_type-eq0 c =
    first_type c.args.octets.now (eqb-false (length c.args.octets.now) 0 (sym c.if-is_empty.ensures)) c.if-frame_type-eq0.true

pub returns-else-frame_type-eq0 : goal.returns-else-frame_type-eq0
returns-else-frame_type-eq0 c =
    other_type c.args.octets.now (eqb-false (length c.args.octets.now) 0 (sym c.if-is_empty.ensures)) c.if-frame_type-eq0.false
