-- What a script is computed with: each word that is shut in the definitions below, crate by crate, and one word that opens them all.
use Rattle.plc_base.specs.Faults as fields_faults
use Rattle.plc_base.specs.Fields as fields_fields
use Rattle.mesh_header.specs.Faults as units_faults
use Rattle.mesh_header.specs.Grammar as units_grammar
use Rattle.mesh_header.specs.Reader as units_reader
use Rattle.loadng_messages.specs.Faults as messages_faults
use Rattle.loadng_messages.specs.Reader as messages_reader
use Rattle.routing_set.specs.RoutingSet as routes_routing_set
use Rattle.fragment_buffers.specs.PieceIntake as pieces_piece_intake
use Rattle.neighbour_checks.specs.Acks as commands_acks
use Rattle.broadcast_log.specs.Grammar as commands_grammar
use Rattle.broadcast_log.specs.Reader as commands_reader
use Rattle.path_requests.specs.Reader as commands_paths
use Rattle.pan_discovery.specs.Reader as commands_discovery
use Rattle.node_rules.specs.Acceptance as rules_acceptance
use Rattle.node_rules.specs.Drafts as rules_drafts
use Rattle.node_rules.specs.HearingRules as rules_hearing_rules
use Rattle.node_rules.specs.MemoryDrafts as rules_memory_drafts
use Rattle.node_rules.specs.Memory as rules_memory
use Rattle.node_rules.specs.Plans as rules_plans
use Rattle.node_rules.specs.Replies as rules_replies
use Rattle.reach_rules.specs.ReachingNodes as reach_nodes
use Rattle.reach_rules.specs.Broadcasts as reach_broadcasts

-- fields
unfoldable pub fields : Unit {0}
unfolding fields_faults.cut_off fields_faults.address_fault fields_fields.after fields_fields.octet fields_fields.two
    fields_fields.four fields_fields.little_two fields_fields.little_four fields_fields.part
fields = tt

-- units over the mesh
unfoldable pub units : Unit {0}
unfolding units_faults.tag_fault units_faults.octet_fault units_faults.origin_at units_faults.hops_fault
    units_faults.data_fault units_faults.size_fault units_faults.octets_fault units_faults.first_piece_fault
    units_faults.later_piece_fault units_faults.carried_fault units_faults.local_fault units_faults.load_fault
    units_faults.header_fault units_grammar.hops_then units_grammar.piece_spelling units_reader.unit_in
units = tt

-- route messages, ranks and routes, and what time ends
unfoldable pub routes : Unit {0}
unfolding messages_faults.number_fault messages_faults.long messages_reader.message_in routes_routing_set.floors_of
    routes_routing_set.floors_in routes_routing_set.rank_of routes_routing_set.route_of routes_routing_set.held
    routes_routing_set.first_to_go routes_routing_set.is_full routes_routing_set.forgotten
    routes_routing_set.entry_writes routes_routing_set.half_entered routes_routing_set.entered
    pieces_piece_intake.unexpired
routes = tt

-- commands for the neighbours, and discovery
unfoldable pub commands : Unit {0}
unfolding commands_acks.ack_in commands_grammar.hops_stand commands_grammar.origin_stands
    commands_grammar.sequence_stands commands_grammar.has_length commands_grammar.is_body commands_reader.broadcast_in
    commands_paths.is_ask commands_paths.is_tell commands_paths.path_in commands_discovery.is_request
    commands_discovery.is_beacon commands_discovery.discovery_in
commands = tt

-- the rules of a node
unfoldable pub rules : Unit {0}
unfolding rules_acceptance.marking rules_drafts.empty_draft rules_drafts.with_rank rules_drafts.with_own_number
    rules_drafts.with_next_tag rules_drafts.with_ring rules_drafts.with_routing_by rules_drafts.goes
    rules_drafts.body_goes rules_drafts.waits rules_drafts.seeks_once rules_drafts.leave rules_drafts.lack
    rules_drafts.sealed rules_drafts.checked rules_drafts.choose rules_hearing_rules.rank_fault rules_hearing_rules.gathered
    rules_memory_drafts.with_memory_by rules_memory_drafts.goes_up rules_memory.next_hop rules_plans.resting
    rules_replies.reply_of reach_nodes.adds_local reach_broadcasts.with_broadcast_mark
    reach_broadcasts.with_broadcast_number reach_broadcasts.broadcast_fault reach_broadcasts.goes_further
    reach_broadcasts.datagram_fault
rules = tt

-- all of them: a script is computed where this word is open
unfoldable pub computed : Unit {0}
unfolding fields units routes commands rules
computed = tt
