use Rattle.std.proofs.Common.{◌≡◌, length, arith}
use Rattle.group_keys.proofs.Books.{entry_in-entry_octets}
use Rattle.group_keys.proofs.key_book.BookEntrySlotEntry.record.Goals as goal

pub returns-clause-reads_back : goal.returns-clause-reads_back
returns-clause-reads_back c =
    let e = c.args.self.now in
    let eight : length e.eui.0 ≡ 8 = omega arith in
    let sixteen : length e.psk.0 ≡ 16 = omega arith in
    entry_in-entry_octets c.args.place e c.requires.place eight sixteen c.push_held.ensures.held_len c.push_held-2.ensures.held_len
