-- The puts of a keeper that lists them.
use Rattle.plc_base.specs.Keeper.{Write}
use Rattle.host_calls.specs.declared.outbox.ListedPut.{ListedPut}

-- a put of the list, as rules write it
abbrev pub write_of : ListedPut → Write
write_of put = record { slot = put.slot; octets = put.octets }
