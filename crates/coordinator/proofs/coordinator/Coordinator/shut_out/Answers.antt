use Rattle.std.proofs.Common.{true, false, ap}
use Rattle.group_keys.specs.declared.key_book.BookEntry.{BookEntry}
use Rattle.node_rules.specs.MemoryDrafts.{with_memory_by}
use Rattle.node_rules.specs.Drafts.{empty_draft}
use Rattle.node_rules.specs.Coordinators.{without_session, with_book_entry}
use Rattle.plc_station.proofs.CarriedPlans.{if_some, at_some}
use Rattle.coordinator.specs.CoordinatorStates.{node_of}
use Rattle.coordinator.proofs.BookEntries.{remembered, remembered_stop, does_by}
use Rattle.coordinator.proofs.coordinator.Coordinator.shut_out.Goals as goal

pub returns-in_default-clause-does : goal.returns-in_default-clause-does
returns-in_default-clause-does g c =
    if_some (node_of c.args.self.now).memory _ (λ m running. does_by _ _ _ _ false
    (ap (λ (x : BookEntry). with_memory_by (without_session c.args.entry.now.eui) (with_book_entry x (empty_draft m))) c.kicked.ensures)
    (remembered_stop (node_of c.args.self.now) _ (with_book_entry c.kicked.result (empty_draft m)) (without_session c.args.entry.now.eui)
    (at_some (node_of c.args.self.now).memory _ m running c.in_default.ensures.does)))

pub returns-clause-does : goal.returns-clause-does
returns-clause-does g c =
    if_some (node_of c.args.self.now).memory _ (λ m running. does_by _ _ _ _ true
    (ap (λ (x : BookEntry). with_memory_by (without_session c.args.entry.now.eui) (with_book_entry x (empty_draft m))) c.kicked.ensures)
    (remembered (node_of c.args.self.now) _ _ (with_book_entry c.kicked.result (empty_draft m)) (without_session c.args.entry.now.eui)
    (at_some (node_of c.args.self.now).memory _ m running c.in-Ok.ensures.does) c.end_session.ensures.state))
