-- The numbers and octets that name nodes.
use Rattle.std.specs.Prelude.{◌<◌, ℕ, Bool, nat_lt}
use Rattle.byteorder.specs.Endian.{big_number}
use Rattle.plc_base.specs.declared.address.Eui.{Eui}

-- one node's short address: any number of 16 bits but FFFE and FFFF
abbrev pub IsAddress : ℕ → Type 0
IsAddress a = a < 0xFFFE

-- whether a number of 16 bits is one
abbrev pub is_address : ℕ → Bool
is_address a = nat_lt a 0xFFFE

-- the number that an EUI is
abbrev pub eui_number : Eui → ℕ
eui_number eui = big_number 8 eui.0
