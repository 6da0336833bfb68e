-- What a script is computed with: each word that is shut in the definitions below, crate by crate, and one word that opens them all.

use Rattle.plc_base.specs.Faults as fields_faults
use Rattle.plc_base.specs.Fields as fields_fields
use Rattle.plc_base.specs.Cells as fields_cells
use Rattle.store_tables.specs.SlotTables as fields_slot_tables
use Rattle.mac_frames.specs.Faults as frames_faults
use Rattle.mac_frames.specs.Reader as frames_reader
use Rattle.mac_frames.specs.SealedFrames as frames_sealed_frames
use Rattle.mesh_header.specs.Faults as units_faults
use Rattle.mesh_header.specs.Grammar as units_grammar
use Rattle.mesh_header.specs.Reader as units_reader
use Rattle.loadng_messages.specs.Faults as messages_faults
use Rattle.loadng_messages.specs.Reader as messages_reader
use Rattle.joining_messages.specs.Faults as joining_faults
use Rattle.joining_messages.specs.Grants as joining_grants
use Rattle.joining_messages.specs.Reader as joining_reader
use Rattle.eap_psk.specs.Faults as packets_faults
use Rattle.eap_psk.specs.Keys as packets_keys
use Rattle.routing_set.specs.RoutingSet as routes_routing_set
use Rattle.fragment_buffers.specs.Answers as pieces_answers
use Rattle.fragment_buffers.specs.Fragmentation as pieces_cutting
use Rattle.fragment_buffers.specs.Reassembly as pieces_reassembly
use Rattle.fragment_buffers.specs.PieceIntake as pieces_piece_intake
use Rattle.node_rules.specs.Acceptance as rules_acceptance
use Rattle.node_rules.specs.Coordinators as rules_coordinators
use Rattle.node_rules.specs.Drafts as rules_drafts
use Rattle.node_rules.specs.Frames as rules_frames
use Rattle.node_rules.specs.HearingRules as rules_hearing_rules
use Rattle.node_rules.specs.MemoryDrafts as rules_memory_drafts
use Rattle.node_rules.specs.Memory as rules_memory
use Rattle.node_rules.specs.RestartStates as rules_restart_states
use Rattle.node_rules.specs.Plans as rules_plans
use Rattle.node_rules.specs.NodeSteps as rules_node_steps
use Rattle.line_rules.specs.Steps as line_steps
use Rattle.line_rules.specs.Worlds as line_worlds
use Rattle.neighbour_checks.specs.Acks as commands_acks
use Rattle.broadcast_log.specs.Grammar as commands_grammar
use Rattle.broadcast_log.specs.Reader as commands_reader
use Rattle.path_requests.specs.Reader as commands_paths
use Rattle.pan_discovery.specs.Reader as commands_discovery
use Rattle.node_rules.specs.Replies as rules_replies
use Rattle.reach_rules.specs.ReachingNodes as reach_nodes
use Rattle.reach_rules.specs.Broadcasts as reach_broadcasts
use Rattle.line_rules.specs.Further as line_further

-- fields and slots
unfoldable pub fields : Unit {0}
unfolding fields_faults.cut_off fields_faults.address_fault fields_fields.after fields_fields.octet
    fields_fields.two fields_fields.four fields_fields.little_two fields_fields.little_four fields_fields.part
    fields_cells.slot_at fields_cells.records_in fields_slot_tables.opened_from fields_slot_tables.is_empty_from
fields = tt

-- MAC frames
unfoldable pub frames : Unit {0}
unfolding frames_faults.low_fault frames_faults.high_fault frames_faults.target_fault frames_faults.sender_fault
    frames_faults.level_fault frames_faults.index_fault frames_faults.sealed_fault frames_faults.up_fault
    frames_faults.down_fault frames_faults.fields_fault frames_reader.head_in frames_reader.body_in
    frames_sealed_frames.payload_in
frames = tt

-- units over the mesh
unfoldable pub units : Unit {0}
unfolding units_faults.tag_fault units_faults.octet_fault units_faults.origin_at units_faults.hops_fault
    units_faults.data_fault units_faults.size_fault units_faults.octets_fault units_faults.first_piece_fault
    units_faults.later_piece_fault units_faults.carried_fault units_faults.local_fault units_faults.load_fault
    units_faults.header_fault units_grammar.hops_then units_grammar.piece_spelling units_reader.unit_in
units = tt

-- route messages
unfoldable pub messages : Unit {0}
unfolding messages_faults.number_fault messages_faults.long messages_reader.message_in
messages = tt

-- joining messages
unfoldable pub joining : Unit {0}
unfolding joining_faults.code_fault joining_faults.eui_fault joining_faults.join_rest_fault
    joining_faults.challenge_rest_fault joining_faults.accept_rest_fault joining_faults.activate_rest_fault
    joining_faults.no_rest_fault joining_grants.stands joining_grants.address_stands joining_grants.index_stands
    joining_grants.sixteen_stand joining_grants.head_stands joining_grants.key_stands joining_reader.join_in
    joining_reader.grant_in
joining = tt

-- packets of EAP-PSK
unfoldable pub packets : Unit {0}
unfolding packets_faults.same packets_faults.head_stands packets_faults.is_first packets_faults.is_second
    packets_faults.is_third packets_faults.is_fourth packets_faults.is_granting packets_keys.numbered_block
    packets_keys.derived packets_keys.nonce_block packets_keys.channel
packets = tt

-- ranks and routes
unfoldable pub routes : Unit {0}
unfolding routes_routing_set.floors_of routes_routing_set.floors_in routes_routing_set.rank_of
    routes_routing_set.route_of routes_routing_set.held routes_routing_set.first_to_go routes_routing_set.is_full
    routes_routing_set.forgotten routes_routing_set.entry_writes routes_routing_set.half_entered
    routes_routing_set.entered
routes = tt

-- pieces
unfoldable pub pieces : Unit {0}
unfolding pieces_answers.settled_at pieces_answers.joined_at pieces_cutting.pieces_cut pieces_reassembly.datagram_of
    pieces_piece_intake.taken_in pieces_piece_intake.taken pieces_piece_intake.unexpired
pieces = tt

-- the rules of a node
unfoldable pub rules : Unit {0}
unfolding rules_acceptance.marking rules_coordinators.with_book_entry rules_drafts.empty_draft rules_drafts.with_rank
    rules_drafts.with_own_number rules_drafts.with_next_tag rules_drafts.with_ring rules_drafts.with_routing_by
    rules_drafts.goes rules_drafts.body_goes rules_drafts.waits rules_drafts.seeks_once rules_drafts.leave
    rules_drafts.lack rules_drafts.sealed rules_drafts.checked rules_drafts.choose rules_frames.spelled
    rules_frames.arrived rules_hearing_rules.rank_fault rules_hearing_rules.gathered rules_memory_drafts.on_station
    rules_memory_drafts.with_memory_by rules_memory_drafts.with_pair_tags rules_memory_drafts.goes_up
    rules_memory_drafts.goes_down rules_memory_drafts.is_commanded rules_memory.next_hop
    rules_restart_states.station_of rules_plans.carry_out rules_plans.resting rules_node_steps.acts
rules = tt

-- events and the world
unfoldable pub line : Unit {0}
unfolding line_steps.world_after line_steps.coordinator line_steps.meter line_steps.depot line_steps.near line_steps.allow
    line_steps.rand line_steps.join line_steps.leave line_steps.send line_steps.breaks line_steps.arrives
    line_steps.deliver line_steps.inject line_steps.lose line_steps.tick line_steps.restart line_steps.cut
    line_steps.show line_steps.rekey line_steps.challenge line_steps.activate line_steps.kick line_worlds.note_of
line = tt

-- commands for the neighbours, discovery, the rules that nodes have about them, and their events
unfoldable pub further : Unit {0}
unfolding commands_acks.ack_in commands_grammar.hops_stand commands_grammar.origin_stands commands_grammar.sequence_stands
    commands_grammar.has_length commands_grammar.is_body commands_reader.broadcast_in commands_paths.is_ask commands_paths.is_tell
    commands_paths.path_in commands_discovery.is_request commands_discovery.is_beacon commands_discovery.discovery_in
    rules_replies.reply_of reach_nodes.adds_local reach_broadcasts.with_broadcast_mark
    reach_broadcasts.with_broadcast_number reach_broadcasts.broadcast_fault reach_broadcasts.goes_further
    reach_broadcasts.datagram_fault line_further.beside_after line_further.checks line_further.bcast line_further.path
    line_further.scan line_further.choose line_further.comes line_further.delivers line_further.injects line_further.ticks
    line_further.restarts_further
further = tt

-- all of them: a script is computed where this word is open
unfoldable pub computed : Unit {0}
unfolding fields frames units messages joining packets routes pieces rules line further
computed = tt
