-- What is set of the air.
use Rattle.std.specs.Prelude.{List, codes, ℕ, nat_lt, true, false, if◌then◌else◌, Option, None, Some, Result, Ok, Err}
use Rattle.std.specs.Str.{bytes_eq}
use Rattle.std.specs.Option.{option_and_then}
use Rattle.toml.specs.Data.{Data, as_str}
use Rattle.plan_tables.specs.declared.keys.Key.TheVariants as keys
use Rattle.plan_tables.specs.declared.fault.Wanted.TheVariants as wanted
use Rattle.plan_tables.specs.declared.fault.WrongValue.{WrongValue}
use Rattle.plan_tables.specs.declared.air_plan.PlannedRate.{PlannedRate}
use Rattle.plan_tables.specs.declared.air_plan.PlannedRate.TheVariants as rates
use Rattle.plan_tables.specs.declared.air_plan.Limits.{Limits}
use Rattle.plan_tables.specs.declared.air_plan.Waits.{Waits}
use Rattle.plan_tables.specs.declared.air_plan.Choices.{Choices}
use Rattle.plan_tables.specs.declared.air_plan.AirPlan.{AirPlan}
use Rattle.plan_tables.specs.Faults.{TableAt, ◌>>=◌, wrong_at, value_at, number_at, flag_at}

abbrev pub rate_named : List ℕ → Option PlannedRate
rate_named word =
    if bytes_eq word (codes "robo") then Some rates.Robo
    else if bytes_eq word (codes "dbpsk") then Some rates.Dbpsk
    else if bytes_eq word (codes "dqpsk") then Some rates.Dqpsk
    else if bytes_eq word (codes "d8psk") then Some rates.D8psk
    else None

unfoldable pub rate_in : Data → Option PlannedRate
rate_in d = option_and_then rate_named (as_str d)

abbrev pub rate_at : TableAt → Result PlannedRate WrongValue
rate_at table = value_at table keys.Rate wanted.Word rate_in rates.Robo

-- how often a frame is tried
unfoldable pub limits_at : TableAt → Result Limits WrongValue
limits_at table = do
  repeats ← number_at table keys.Repeats 5 1000
  break_after ← number_at table keys.BreakAfter 3 1000
  backoffs ← number_at table keys.Backoffs 50 1000
  Ok (record { repeats = repeats; break_after = break_after; backoffs = backoffs })

-- how long a frame waits, where the first exponent is at most the last
unfoldable pub waits_at : TableAt → Result Waits WrongValue
waits_at table = do
  min_be ← number_at table keys.MinBe 3 16
  max_be ← number_at table keys.MaxBe 8 16
  jitter_ms ← number_at table keys.JitterMs 300 60000
  ack_loss ← number_at table keys.AckLoss 25 100
  if nat_lt max_be min_be then Err (wrong_at table keys.MinBe (wanted.UpTo max_be))
      else Ok (record { min_be = min_be; max_be = max_be; jitter_ms = jitter_ms; ack_loss = ack_loss })

-- what else is modelled
unfoldable pub choices_at : TableAt → Result Choices WrongValue
choices_at table = do
  duplicates ← flag_at table keys.Duplicates true
  overhear ← flag_at table keys.Overhear false
  collisions ← flag_at table keys.Collisions true
  Ok (record { duplicates = duplicates; overhear = overhear; collisions = collisions })

unfoldable pub air_at : TableAt → Result AirPlan WrongValue
air_at table = do
  rate ← rate_at table
  limits ← limits_at table
  waits ← waits_at table
  choices ← choices_at table
  Ok (record { rate = rate; limits = limits; waits = waits; choices = choices })
