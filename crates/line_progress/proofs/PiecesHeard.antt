-- What becomes of what is gathered where a frame is heard.
use Rattle.std.proofs.Common.{ℕ, Option, ap}
use Rattle.mesh_header.specs.declared.unit.Unit.{Unit as MeshUnit}
use Rattle.mesh_header.specs.Reader.{unit_in}
use Rattle.node_rules.specs.declared.heard.Path.{Path}
use Rattle.node_rules.specs.HearingRules.{Hearing}
use Rattle.node_rules.specs.Memory.{StationMemory}
use Rattle.node_rules.specs.Plans.{resting}
use Rattle.line_progress.specs.PieceFates.{KeepsPieces, Same, Gathers, HearingKeepsPieces}
use Rattle.line_progress.proofs.HeardDatagrams.{Made, Quietly, HandsUp, Takes, Heards, Quiet, ByFrame, heard_so}

by_unit : (l : StationMemory) (own : ℕ) (u : MeshUnit) (note now : ℕ) (p : Hearing) → Made l own u note now p → KeepsPieces l p
unfolding resting
by_unit l own u note now p (Quietly quiet) = Same quiet.same
by_unit l own u note now p (HandsUp mesh octets is to e) = Same (ap (λ (q : Hearing). q.memory.reassemblies) e)
by_unit l own u note now p (Takes mesh piece is to e) = Gathers mesh.origin piece note now e

by_frame : (l : StationMemory) (path : Path) (o : Option MeshUnit) (note now : ℕ) (p : Hearing) → Heards l path o note now p → KeepsPieces l p
by_frame l path o note now p (Quiet quiet) = Same quiet.same
by_frame l path o note now p (ByFrame own from key u is read here made) = by_unit l own u note now p made

pub hearing_keeps : HearingKeepsPieces
hearing_keeps l got cost note now = by_frame l got.path (unit_in got.payload) note now _ (heard_so l got cost note now)
