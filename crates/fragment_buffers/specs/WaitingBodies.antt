-- Bodies that wait for a route.
use Rattle.std.specs.Prelude.{ℕ, ◌+◌, Bool, true, ◌==◌, nat_lt, if◌then◌else◌, List, length, refl}
use Rattle.std.specs.List.{filter, flat_map, list_any, sum_by}
use Rattle.std.specs.Coded.{Coded, code_by, coded×, coded_ℕ}
use Rattle.plc_base.specs.Times.{is_within}
use Rattle.fragment_buffers.specs.PieceIntake.{blocks}
use Rattle.fragment_buffers.specs.Loads.{Load, load_octets, load_code, UnsealedUnit, units_of, units_in, all_go}
use Rattle.fragment_buffers.specs.declared.times.TheConstants.{WAITING_TIME}

-- A body that waits for a route to an address, from a time on.
pub record Body : Type 0 where
  pub to : ℕ
  pub note : ℕ
  pub since : ℕ
  pub load : Load

-- a body is kept as the tuple of its fields
abbrev pub body_code : Coded Body
body_code =
    code_by (ℕ × (ℕ × (ℕ × Load))) (coded× coded_ℕ (coded× coded_ℕ (coded× coded_ℕ load_code)))
    (λ b. (b.to, (b.note, (b.since, b.load))))
    (λ p. record { to = p.0; note = p.1.0; since = p.1.1.0; load = p.1.1.1 }) (λ _. refl)

-- whether a body waits for an address
abbrev pub waits_for : ℕ → Body → Bool
waits_for dest b = b.to == dest

-- whether one of the bodies does
abbrev pub is_awaited_in : List Body → ℕ → Bool
is_awaited_in bodies dest = list_any (waits_for dest) bodies

-- # Room

-- how many blocks of 64 octets they fill
abbrev pub waiting_blocks : List Body → ℕ
waiting_blocks bodies = sum_by (λ (b : Body). blocks (length (load_octets b.load))) bodies

-- whether a body of this many octets more can't wait: 8 bodies wait, or their blocks pass 80
abbrev pub no_room_in : List Body → ℕ → Bool
no_room_in bodies octets = if nat_lt (length bodies) 8 then nat_lt 80 (waiting_blocks bodies + blocks octets) else true

-- # Time

-- the bodies that have not waited for the whole time
abbrev pub still_waiting : ℕ → List Body → List Body
still_waiting now bodies = filter (λ (b : Body). is_within WAITING_TIME now b.since) bodies

-- # Leaving

-- the units of a body for a next hop
abbrev pub units_by : ℕ → ℕ → Body → List UnsealedUnit
units_by own hop b = all_go hop b.note (units_of own b.to b.load)

-- those of the bodies that wait for an address, in their order
unfoldable pub leaving : ℕ → ℕ → ℕ → List Body → List UnsealedUnit
leaving own dest hop bodies = flat_map (units_by own hop) (filter (waits_for dest) bodies)

-- how many units the bodies are
abbrev pub pending_in : List Body → ℕ
pending_in bodies = sum_by (λ b. units_in b.load) bodies
