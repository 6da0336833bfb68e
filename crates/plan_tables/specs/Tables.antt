-- What nodes and their owner do, as the tables say it.
use Rattle.std.specs.Prelude.{ℕ, List, codes, Bool, true, false, ltb, if◌then◌else◌, Option, None, Some, Result, Ok}
use Rattle.std.specs.Str.{bytes_eq}
use Rattle.std.specs.Option.{option_and_then}
use Rattle.toml.specs.Data.{Data, as_str}
use Rattle.plan_tables.specs.declared.keys.Key.TheVariants as keys
use Rattle.plan_tables.specs.declared.fault.Wanted.TheVariants as wanted
use Rattle.plan_tables.specs.declared.fault.WrongValue.{WrongValue}
use Rattle.plan_tables.specs.declared.tables.Joining.{Joining}
use Rattle.plan_tables.specs.declared.tables.Way.{Way}
use Rattle.plan_tables.specs.declared.tables.Way.TheVariants as ways
use Rattle.plan_tables.specs.declared.tables.Readings.{Readings}
use Rattle.plan_tables.specs.declared.tables.Order.{Order}
use Rattle.plan_tables.specs.declared.tables.Order.TheVariants as orders
use Rattle.plan_tables.specs.declared.tables.Rotation.{Rotation}
use Rattle.plan_tables.specs.declared.tables.Care.{Care}
use Rattle.plan_tables.specs.declared.tables.Times.{Times}
use Rattle.plan_tables.specs.declared.tables.Content.{Content}
use Rattle.plan_tables.specs.declared.tables.Retries.{Retries}
use Rattle.plan_tables.specs.Faults.{TableAt, ◌>>=◌, value_at, number_at, seconds_at, flag_at}

-- the most of anything that is counted
abbrev pub most : ℕ
most = 1000000

-- # [joining]

-- whether the meters join in the workshop
abbrev pub how_named : List ℕ → Option Bool
how_named word =
    if bytes_eq word (codes "air") then Some false
    else if bytes_eq word (codes "depot") then Some true
    else None

unfoldable pub how_in : Data → Option Bool
how_in d = option_and_then how_named (as_str d)

abbrev pub how_at : TableAt → Result Bool WrongValue
how_at table = value_at table keys.How wanted.Word how_in false

unfoldable pub joining_at : TableAt → Result Joining WrongValue
joining_at table = do
  depot ← how_at table
  from ← seconds_at table keys.From 0
  within ← seconds_at table keys.Within 600
  retry ← seconds_at table keys.Retry 60
  tries ← number_at table keys.Tries 20 most
  Ok (record { depot = depot; from = from; within = within; retry = retry; tries = tries })

-- # [readings]

abbrev pub way_named : List ℕ → Option Way
way_named word =
    if bytes_eq word (codes "push") then Some ways.Push
    else if bytes_eq word (codes "poll") then Some ways.Poll
    else None

unfoldable pub way_in : Data → Option Way
way_in d = option_and_then way_named (as_str d)

abbrev pub way_at : TableAt → Result Way WrongValue
way_at table = value_at table keys.Way wanted.Word way_in ways.Push

-- when meters are read
unfoldable pub times_at : TableAt → Result Times WrongValue
times_at table = do
  from ← seconds_at table keys.From 7200
  every ← seconds_at table keys.Every 86400
  within ← seconds_at table keys.Within 3600
  retry ← seconds_at table keys.Retry 40
  Ok (record { from = from; every = every; within = within; retry = retry })

-- what a reading is; that routes are given anew after some time says that they are given
unfoldable pub content_at : TableAt → Result Content WrongValue
content_at table = do
  way ← way_at table
  octets ← number_at table keys.Octets 40 1024
  answered ← flag_at table keys.Answered true
  refresh_every ← seconds_at table keys.RefreshEvery 0
  refresh ← flag_at table keys.Refresh (ltb 0 refresh_every)
  Ok (record { way = way; octets = octets; answered = answered; refresh = refresh; refresh_every = refresh_every })

unfoldable pub readings_at : TableAt → Result Readings WrongValue
readings_at table = do
  times ← times_at table
  content ← content_at table
  tries ← number_at table keys.Tries 4 most
  at_once ← number_at table keys.AtOnce 1 most
  rounds ← number_at table keys.Times 1000 most
  Ok (record {
    from = times.from;
    every = times.every;
    within = times.within;
    way = content.way;
    octets = content.octets;
    answered = content.answered;
    tries = tries;
    retry = times.retry;
    refresh = content.refresh;
    refresh_every = content.refresh_every;
    at_once = at_once;
    times = rounds;
  })

-- # [rotation]

abbrev pub order_named : List ℕ → Option Order
order_named word =
    if bytes_eq word (codes "coordinator last") then Some orders.CoordinatorLast
    else if bytes_eq word (codes "coordinator first") then Some orders.CoordinatorFirst
    else if bytes_eq word (codes "meter by meter") then Some orders.MeterByMeter
    else None

unfoldable pub order_in : Data → Option Order
order_in d = option_and_then order_named (as_str d)

abbrev pub order_at : TableAt → Result Order WrongValue
order_at table = value_at table keys.Order wanted.Word order_in orders.CoordinatorLast

-- how often things of a change of the key are done
unfoldable pub retries_at : TableAt → Result Retries WrongValue
retries_at table = do
  at_once ← number_at table keys.AtOnce 1 most
  tries ← number_at table keys.Tries 5 most
  orders ← number_at table keys.Orders 2 most
  Ok (record { at_once = at_once; tries = tries; orders = orders })

unfoldable pub rotation_at : TableAt → Result Rotation WrongValue
rotation_at table = do
  retries ← retries_at table
  retry ← seconds_at table keys.Retry 60
  gap ← seconds_at table keys.Gap 5
  order ← order_at table
  Ok (record { at_once = retries.at_once; retry = retry; tries = retries.tries; orders = retries.orders; gap = gap; order = order })

-- # [care]

unfoldable pub care_at : TableAt → Result Care WrongValue
care_at table = do
  rejoin_after ← number_at table keys.RejoinAfter 0 most
  Ok (record { rejoin_after = rejoin_after })
