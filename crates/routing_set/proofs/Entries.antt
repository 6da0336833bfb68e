-- What the record of an entry gives.
use Rattle.std.proofs.Common.{◌≡◌, ℕ, ◌^◌, ◌<◌, ◌≤◌, true, false, [], ◌++◌, Some, None, refl, ap, ◌∙◌, arith}
use Rattle.std.specs.Prelude.{◌==◌, nat_lt}
use Rattle.std.proofs.lemmas.Bool.Decides.{nat_tests}
use Rattle.byteorder.specs.Endian.{big_number, big_bytes}
use Rattle.byteorder.specs.Numbers.{big_number-reads_back}
use Rattle.routing_set.specs.declared.entry.RoutingEntry.{RoutingEntry}
use Rattle.routing_set.specs.RoutingSet.{entry_in, ranked, octets_of, without_route}

ranked-valid : (address number cost : ℕ) → address < 0xFFFE → 1 ≤ number
    → ranked address number cost ≡ Some (record { address = address; rank = record { number = number; cost = cost }; route = None })
ranked-valid address number cost short low =
    let valid : nat_lt address 0xFFFE ≡ true = grind (arith, nat_tests) in
    let other : (number == 0) ≡ false = grind (arith, nat_tests) in
    rw (valid, other) refl

-- a record that is written is read back
pub entry_in-octets_of : (e : RoutingEntry) → e.address < 0xFFFE → 1 ≤ e.rank.number → e.rank.number < 2 ^ 16 → e.rank.cost < 2 ^ 16
    → entry_in (octets_of e) ≡ Some (without_route e)
entry_in-octets_of e short low number cost =
    let first : big_number 2 (octets_of e)
    ≡ e.address = big_number-reads_back 2 e.address (big_bytes 2 e.rank.number ++ big_bytes 2 e.rank.cost) (omega arith) in
    let second : big_number 2 (big_bytes 2 e.rank.number ++ big_bytes 2 e.rank.cost)
    ≡ e.rank.number = big_number-reads_back 2 e.rank.number (big_bytes 2 e.rank.cost) (omega arith) in
    let third : big_number 2 (big_bytes 2 e.rank.cost) ≡ e.rank.cost = big_number-reads_back 2 e.rank.cost [] (omega arith) in
    ap (λ a. ranked a (big_number 2 (big_bytes 2 e.rank.number ++ big_bytes 2 e.rank.cost)) (big_number 2 (big_bytes 2 e.rank.cost))) first
    ∙ ap (λ n. ranked e.address n (big_number 2 (big_bytes 2 e.rank.cost))) second
    ∙ ap (ranked e.address e.rank.number) third
    ∙ ranked-valid e.address e.rank.number e.rank.cost short low
