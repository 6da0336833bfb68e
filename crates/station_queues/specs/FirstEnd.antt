-- When the first of what is gathered and of what waits ends.
use Rattle.std.specs.Prelude.{ℕ, ◌+◌, ◌≤◌, fold}
use Rattle.std.specs.List.{All}
use Rattle.plc_base.specs.Times.{earlier_end}
use Rattle.fragment_buffers.specs.FirstEnd as pieces
use Rattle.station_queues.specs.Bodies.{Held, Slot}
use Rattle.fragment_buffers.specs.declared.times.TheConstants.{REASSEMBLY_TIME, WAITING_TIME}

-- the earlier of a time and of when a body has waited for too long
abbrev pub end_by : ℕ → Slot → ℕ
end_by time w = earlier_end WAITING_TIME time w.since

-- when the first of what is held ends, 2^64 - 1 where nothing is
unfoldable pub first_end : Held → ℕ
first_end h =
    fold (λ time b. earlier_end WAITING_TIME time b.since) (fold (λ time r. earlier_end REASSEMBLY_TIME time r.since) 18446744073709551615 h.reassemblies)
    h.waiting

-- Neither a reassembly nor a body that waits ends before a time.
pub record IsStill (time : ℕ) (h : Held) : Type 0 where
  pub gathered : pieces.IsStill time h.reassemblies
  pub waiting : All (λ b. time ≤ b.since + WAITING_TIME) h.waiting
