use Rattle.std.proofs.Common.{sym, subst}
use Rattle.std.specs.Str.{IsAscii}
use Rattle.std.proofs.lemmas.Str.{IsUtf8-from_ascii}
use Rattle.hex.specs.Hex.{lower_digits}
use Rattle.hex.proofs.HexLemmas.{IsAscii-encode_with}
use Rattle.line_script.proofs.HexLanes.{ascii}
use Rattle.line_script.proofs.digits.push_few.Goals as goal

pub from_utf8_unchecked-requires : goal.from_utf8_unchecked-requires
from_utf8_unchecked-requires c =
    IsUtf8-from_ascii _ (subst IsAscii (sym c.in-Ok.ensures.written) (IsAscii-encode_with lower_digits c.args.octets.now ascii))
