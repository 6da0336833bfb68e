-- What a contract sees of the reassemblies of a node.
use Rattle.std.specs.Prelude.{◌≡◌, List}
use Rattle.fragment_buffers.specs.Entries.{Entry, IsBounded, blocks_used}
use Rattle.fragment_buffers.specs.declared.reassembly.Reassembly.TheInside.{Inside}

abbrev pub entries_of : Inside → List Entry
entries_of r = r.buffers

pub record IsHolding (r : Inside) : Type 0 where
  pub blocks : r.blocks ≡ blocks_used (entries_of r)
  pub bounded : IsBounded (entries_of r)
