use Rattle.std.proofs.Common.{◌≡◌, ℕ, suc, ◌+◌, List, [], ◌∷◌, ◌++◌, length, map, take, Some, sym, ap, ◌∙◌, arith}
use Rattle.std.specs.Prelude.{slice_get}
use Rattle.std.proofs.lemmas.List.{take_all}
use Rattle.std.proofs.lemmas.Option.{slice_get-get_or}
use Rattle.frame_counters.specs.PeerMarks.{PeerMark}
use Rattle.frame_counters.specs.PeerMarks.{peers}
use Rattle.node_rules.specs.ShownNodes.{ordered_by, shown_peer}
use Rattle.plc_station.proofs.Shows.{is_there, shown_suc, as_many}
use Rattle.plc_station.proofs.showing.show_sorted_peers.Goals as goal

pub peer_shown-requires : goal.peer_shown-requires
peer_shown-requires c = record {
  held = is_there peers shown_peer c.args.marks.now c.senders-senders.result.items c.loop-from.from-index c.from-item.result
      c.entries-entries.ensures.table c.senders-senders.ensures.same c.senders-senders.ensures.sorted
      (ap (λ (xs : List ℕ). slice_get xs c.loop-from.from-index) (sym c.as_slice-from-items.ensures.value)
      ∙ slice_get-get_or c.as_slice-from-items.result.now c.loop-from.from-index c.from-item.result (omega (arith, c.loop-from-test.true))
      ∙ ap Some (sym c.from-item.is));
}

pub loop-from-preserved : goal.loop-from-preserved
loop-from-preserved c =
    let next : suc c.loop-from.from-index ≡ c.loop-from.from-index + 1 = omega arith in
    c.push.ensures
    ∙ ap (λ os. os ++ c.peer_shown.result ∷ []) c.loop-from.invariant
    ∙ sym (shown_suc peers shown_peer c.args.marks.now c.senders-senders.result.items c.loop-from.from-index c.from-item.result c.peer_shown.result
    c.entries-entries.ensures.table c.senders-senders.ensures.same c.senders-senders.ensures.sorted
    (ap (λ (xs : List ℕ). slice_get xs c.loop-from.from-index) (sym c.as_slice-from-items.ensures.value)
    ∙ slice_get-get_or c.as_slice-from-items.result.now c.loop-from.from-index c.from-item.result (omega (arith, c.loop-from-test.true))
    ∙ ap Some (sym c.from-item.is)) c.peer_shown.ensures)
    ∙ ap (λ n. map shown_peer (take n (ordered_by (λ (e : PeerMark). e.address) c.args.marks.now))) next

pub returns : goal.returns
returns c =
    c.loop-from.invariant
    ∙ ap (map shown_peer) (take_all c.loop-from.from-index (ordered_by (λ (e : PeerMark). e.address) c.args.marks.now)
    (omega (
      arith,
      c.loop-from-test.false,
      ap (λ (xs : List ℕ). length xs) c.as_slice-from-items.ensures.value,
      as_many peers shown_peer c.args.marks.now c.senders-senders.result.items c.entries-entries.ensures.table c.senders-senders.ensures.same
          c.senders-senders.ensures.sorted,
    )))
