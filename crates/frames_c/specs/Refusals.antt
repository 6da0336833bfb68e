-- The numbers by which C is told why a call did nothing.
use Rattle.std.specs.Prelude.{ℕ}
use Rattle.mac_frames.specs.declared.fault.FrameFaultKind.{FrameFaultKind}
use Rattle.mac_frames.specs.declared.fault.FrameFaultKind.TheVariants.{Short, Kind, Mode, Level, Long, Address}
use Rattle.frames_c.specs.declared.refusal.Refusal.{Refusal}
use Rattle.frames_c.specs.declared.refusal.Refusal.TheVariants.{Key, Head, Payload, Room, NotSealed, Tag}

abbrev pub refusal_number : Refusal → ℕ
refusal_number Key = 1
refusal_number Head = 2
refusal_number Payload = 3
refusal_number Room = 4
refusal_number NotSealed = 5
refusal_number Tag = 6

abbrev pub fault_number : FrameFaultKind → ℕ
fault_number Short = 16
fault_number Kind = 17
fault_number Mode = 18
fault_number Level = 19
fault_number Long = 20
fault_number Address = 21
