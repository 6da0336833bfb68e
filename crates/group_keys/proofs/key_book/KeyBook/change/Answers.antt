use Rattle.std.proofs.Common.{◌≡◌, true, Some, set, refl, sym, ap, subst, ◌∙◌}
use Rattle.store_tables.specs.SlotTables as slots
use Rattle.group_keys.specs.KeyBook.{Book, entries, place_of, same_entry, with_entry, address_of}
use Rattle.group_keys.proofs.Books.{entry_same, address_kept}
use Rattle.group_keys.proofs.key_book.KeyBook.change.Goals as goal

pub returns-then-eq-clause-book : goal.returns-then-eq-clause-book
returns-then-eq-clause-book g c =
    let items = c.self.inside.table in
    let at : place_of items c.args.entry.eui ≡ Some c.in-Some.place = ap (slots.place_of entries items) (sym c.number.ensures) ∙ sym c.in-Some.ensures.place in
    let same : same_entry c.get.result c.args.entry ≡ true = sym c.if-eq.ensures in
    sym c.self.view_is ∙ sym (entry_same items c.args.entry c.get.result c.in-Some.place at c.get.ensures same)
    ∙ ap (λ (b : Book). with_entry b c.args.entry) c.self.view_is

pub returns-in_ok-set_stored-in-Some-clause-addresses : goal.returns-in_ok-set_stored-in-Some-clause-addresses
returns-in_ok-set_stored-in-Some-clause-addresses g c meter address had =
    let items = c.self.inside.table in
    let entry = c.args.entry in
    let at : place_of items entry.eui ≡ Some c.in-Some.place = ap (slots.place_of entries items) (sym c.number.ensures) ∙ sym c.in-Some.ensures.place in
    let after : with_entry items entry ≡ set items c.in-Some.place entry = rw at refl in
    let new : with_entry items entry ≡ c.set_stored.new.self = after ∙ sym c.in_ok-set_stored-in-Some.ensures.table in
    let was : address_of items meter ≡ Some address = ap (λ (b : Book). address_of b meter) c.self.view_is ∙ had in
    subst (λ (b : Book). address_of b meter ≡ Some address) new (address_kept items entry meter address was)
