use Rattle.line_readings.proofs.Tabling.{no_link}
use Rattle.line_readings.proofs.links.link_table.Goals as goal

pub loop-place-init : goal.loop-place-init
loop-place-init c = no_link _ c.in_ok-out.ensures.items
