-- Lines of each kind as examples and rows have them, computed by the definitions themselves, so that a wrong definition does not check.
use Rattle.std.proofs.Common.{◌≡◌, [], ◌∷◌, Some, None, refl}
use Rattle.std.specs.Fmt.{digits}
use Rattle.std.specs.Prelude.{codes}
use Rattle.hex.specs.Hex.{encode_with}
use Rattle.line_events.specs.declared.event.Answer.TheVariants.{Store, Took as TookGrant}
use Rattle.line_script.specs.declared.report.Reason.TheVariants as reasons
use Rattle.text_laws.specs.ReportLines.{Verdict, Forged, Up, Bup, Agent, Path, Grant, Took, Done, Halted, Head, Key, Route, Floor, Peer, Fly, Bad, End}
use Rattle.text_laws.specs.ReportLines.{line_text, report_text}

-- of an event
pub event_lines : report_text (Verdict 20 TookGrant ∷ Forged 20 ∷ Up 0 1 (0x60 ∷ 0 ∷ []) ∷ Grant 2 2 ∷ Took 2 ∷ Done 2 ∷ Fly 9 2 (0x61 ∷ 0xD8 ∷ []) ∷ [])
    ≡ codes "20 ok Took\nforged 20\nup 0 1 6000\ngrant 2 0002\ntook 2\ndone 2\nfly 9 2 61d8\n"
unfolding line_text report_text encode_with digits
event_lines = refl

-- of an event with further reach
pub further_lines : report_text (Bup 2 0xFFFD 4294967294 (0xBB ∷ 0xCC ∷ []) ∷ Agent 2 1 2 ∷ Path 0 (0 ∷ 1 ∷ 2 ∷ []) ∷ [])
    ≡ codes "bup 2 fffd 4294967294 bbcc\nagent 2 0001 2\npath 0 0000 0001 0002\n"
unfolding line_text report_text encode_with digits
further_lines = refl

-- of a node that is shown
pub node_lines : report_text (Halted 1 ∷ Head 2 None None 0 1 ∷ Head 1 (Some 1) (Some 0) 1024 33 ∷ Key 0 (0 ∷ 1 ∷ 0x0F ∷ []) ∷ Route 2 1 3 None
    ∷ Route 0x45 5 54 (Some 3) ∷ Floor 1 5 ∷ Peer 3 64 ∷ [])
    ≡ codes "node 1 halted\nnode 2 - - 0 1\nnode 1 0001 0 1024 33\nkey 0 00010f\nroute 0002 1 3 -\nroute 0045 5 54 0003\nfloor 1 5\npeer 0003 64\n"
unfolding line_text report_text encode_with digits
node_lines = refl

-- of a refusal and of the two ends
pub other_lines : report_text (Verdict 11 Store ∷ Bad 96 reasons.Long ∷ End 75 43 2 1 0 ∷ []) ≡ codes "11 no Store\nbad 96 long\nend 75 43 2 1 0\n"
unfolding line_text report_text digits
other_lines = refl
