use Rattle.std.proofs.Common.{true, false}
use Rattle.plc_station.proofs.CarriedPlans.{if_some, at_some}
use Rattle.node_rules.specs.Coordinators.{without_session, with_book_entry}
use Rattle.node_rules.specs.Drafts.{empty_draft}
use Rattle.coordinator.specs.CoordinatorStates.{node_of}
use Rattle.coordinator.proofs.BookEntries.{remembered, remembered_stop, does_by, held_same, held_other}
use Rattle.coordinator.proofs.coordinator.Coordinator.enter.Goals as goal

pub returns-then-has_entry-clause-does : goal.returns-then-has_entry-clause-does
returns-then-has_entry-clause-does g c =
    if_some (node_of c.args.self.now).memory _ (λ m running. does_by _ _ _ _ _
    (held_same m c.args.entry (at_some (node_of c.args.self.now).memory _ m running c.if-has_entry.ensures))
    (at_some (node_of c.args.self.now).memory _ m running c.keep_entry.ensures.does))

pub returns-clause-does : goal.returns-clause-does
returns-clause-does g c =
    if_some (node_of c.args.self.now).memory _
    (λ m running. does_by _ _ _ _ true (held_other m c.args.entry (at_some (node_of c.args.self.now).memory _ m running c.if-has_entry.ensures))
    (remembered (node_of c.args.self.now) _ _ (with_book_entry c.args.entry (empty_draft m)) (without_session c.args.entry.eui)
    (at_some (node_of c.args.self.now).memory _ m running c.in-Ok.ensures.does) c.end_session.ensures.state))

pub returns-in_default-clause-does : goal.returns-in_default-clause-does
returns-in_default-clause-does g c =
    if_some (node_of c.args.self.now).memory _
    (λ m running. does_by _ _ _ _ false (held_other m c.args.entry (at_some (node_of c.args.self.now).memory _ m running c.if-has_entry.ensures))
    (remembered_stop (node_of c.args.self.now) _ (with_book_entry c.args.entry (empty_draft m)) (without_session c.args.entry.eui)
    (at_some (node_of c.args.self.now).memory _ m running c.in_default.ensures.does)))
