-- the words of a network: those of a port, and what the other crates of definitions call one thing alone

pub use Rattle.network_model.specs.port_model.Words.{Acceptance, Ack, Add, AddBranch, Addr, Answer, Answered, AreDrawn, ArePorts, Bad, Bind, Bits, BranchKind, Branches, Broken, ByController, ByInput, Cause, Chance, Channel, Checksum, Clearing, Closed, ControlProtocol, Crossbar, Cut, Delete, DeleteTree, Delivered, Desk, Done, Down, DropCause, Dropped, Encaps, End, Entry, Error, Estab, Failed, Fits, FitsChannel, FitsFields, FitsMessage, FitsParty, FitsRows, FlowFields, FlowId, FlowKind, Forged, Frame, Free, GivenOut, Grant, GrantState, GrantsFull, Greeting, Gsmp, HasNumbersLeft, Head, Heard, Hello, HelloKind, Idle, Ifmp, InRange, Instance, IsFlow, IsLeaving, IsLinkPort, IsPacket, IsSide, Journal, Label, LabelRange, LabelState, Layer, Leaving, Loss, Lost, Mark, Move, MoveBranch, Network, New, NodeId, Offered, Open, Opened, Options, Out, Packet, PacketFault, Part, Party, Peer, Place, Policy, PoolFull, PortManagement, PortNo, PortRow, Ports, Quiet, Recalled, Reclaim, ReclaimAck, Record, Redirect, Refreshed, Refusal, Refused, Reply, Request, Resets, Routed, Routes, Row, Rstack, Said, Says, Send, Session, Setup, Side, SideByInstances, Silent, Standing, State, Step, Syn, SynRcvd, SynSent, Synack, TooLong, Unbound, Unconnected, Unknown, Unnumbered, Up, Verify, VerifyTree, Version, Wired, Wiring, Work, ZeroLifetime, acceptance, acceptance_beside, acceptance_of, accepts, acknowledged, acknowledged_in, after_answer, after_row, ages, ages_found, ages_in, all_on, answer_of, answer_to, answered, answered_with, asks_for_ack, at, at_ttl, body_fault, bound, bound_in, canonical, canonical_checksum, channel_on_control, halts_if_spent, closing, control_end, counted_once, counts, counts_by, counts_flow, counts_in, cut_by_move, desk_after, desk_with, destination_of, emptied, empty_desk, end_cmp, entered, enters, enters_by_ack, enters_by_synack, error, error_comes, expects, expires, first_session, flow_at, flow_destination, flow_fault, flow_in, flow_octets, flow_of, flow_ttl, flow_type, flow_words, followed, followed_tick, freed, freed_in, fresh, given_back, given_back_in, grant_for, grant_label, grant_matching, grant_of_kind, grant_on, grants_label, greeting, greeting_of, greets, gsmp_answer, gsmp_received, halts, has_entry, has_fields, has_ports, has_room, head_fault, head_of, header_sum, heard_from, heard_in, hears, hello_at, hello_code, hello_kind, hello_of, home_of, identifier, identifier_fault, idles, ifmp_answer, ifmp_header, ifmp_packet_of, ifmp_received, in_order, instance_at, is_bound, is_branch_of, is_by_controller, is_channel_of, is_connectable, is_delete_all, is_due, is_entry, is_estab, is_frame, is_from_peer, is_good, is_in_range, is_label_channel, is_label_number, is_leaving, is_led_home, is_link_channel, is_of_type, is_on, is_on_port, is_open, is_outside, is_reset, is_spare, is_spent, joined_to, joins_label, key_le, kind_at, kind_fault, kind_of, known_of, knows_peer, label_at, label_by, label_channel_of, label_end, label_for, label_number, label_number_of, label_octets, label_range, labels_of, last_number, last_transaction, leads_home, learns, left_in, left_of, lent, lifetime_fault, losses_of, lowest_spare, message_of, most_asked, most_requests, most_grants, moves_windows, names_of, narrowed, new_branch, next_control, next_hop_of, next_instance, nobody, noted, nudges, number_of_channel, offers, on_channel_of, on_input, one_idler, one_older, op_at, op_code, opens, outcome, own_instance, packet_flow, packets_in, parted, party_in, payload_of, popped, protocol_of, put, queue_of, quits, quits_found, quits_in, quits_label, ranged, recalls, recalls_in, recalls_offered, recalls_outside, received, reclaim, reclaim_ack, reclaimed, reclaimed_in, reclaims, reclaims_in, redirect, redirection_at, refreshes, refusal, refusal_by, resets, restarts, route_on, routed, router, row, row_for, rows_octets, said, said_by, same_end, same_flow, same_mark, same_party, same_peer, sent, sent_again, serves, session_of, shows_ports, side_of, snap_header, source_of, spent_number, started, started_in, stays, step_by, stores_and, succeeded, switched, switched_on, takes, taking_back, taking_back_in, tells, tells_in, tick_by, tick_reply, ticked, ticks_found, ticks_in, ticks_label, ticks_session, tos_of, total_length_of, ttl_of, type_of, unfinished_after, unfinished_on, unjoins, unnamed, unwires, used, used_label, wires, with_checksum, with_control, with_grant, with_grants, with_instance, with_label, with_names, with_new_label, with_session, with_ttl, withdrawing, withdrawing_in, withdrawing_of, withdrawn, withdraws, without, without_grant, without_label, without_request}
pub use Rattle.network_model.specs.ipv4_forward.Best.{best, has_prefix, is_best, is_same}
pub use Rattle.network_model.specs.ipv4_forward.Change.{changed, changed_by, renewed}
pub use Rattle.network_model.specs.ipv4_forward.Hop.{hop_by, hop_of, onward}
pub use Rattle.network_model.specs.ipv4_forward.declared.change.RouteChange.{RouteChange}
pub use Rattle.network_model.specs.ipv4_forward.declared.outcome.Hop.{Hop}
pub use Rattle.network_model.specs.ipv4_forward.declared.outcome.Hop.TheVariants.{Here, On}
pub use Rattle.network_model.specs.ipv4_forward.declared.table.Next.{Next}
pub use Rattle.network_model.specs.ipv4_forward.declared.table.Next.TheVariants.{Local, Via}
pub use Rattle.network_model.specs.atm_cells.declared.cell.Cell.{Cell}
pub use Rattle.network_model.specs.flow_encaps.Default.{default_payload, llc_snap}
pub use Rattle.network_model.specs.flow_encaps.Labelled.{Carries, checksum_at_ttl_zero, checksum_fault, head_size, labelled_payload, layout_fault, left_out, rebuilt, said_length, unwrap_fault}
pub use Rattle.network_model.specs.flow_encaps.Unwrapped.{default_unwrapped, unwrapped_by}
unfoldable pub use Rattle.network_model.specs.flow_encaps.Unwrapped.{unwrapped}
pub use Rattle.network_model.specs.flow_encaps.declared.default.EncapsFault.{EncapsFault}
pub use Rattle.network_model.specs.flow_encaps.declared.default.EncapsFault.TheVariants.{BadSnap}
pub use Rattle.network_model.specs.frame_model.Frame.{Tested, frame_cells, last_mark, made, next_mark, payload_by, tested, tested_by}
unfoldable pub use Rattle.network_model.specs.frame_model.Frame.{payload_in}
pub use Rattle.network_model.specs.frame_model.Reassembly.{Reassembly, broken, cut, distinct, marks_of, most_cells, noted_all, nothing_taken, passed_over, skipping_from, too_long, without_slot}
pub use Rattle.network_model.specs.frame_model.Sending.{sent_frame}
pub use Rattle.network_model.specs.frame_model.Stretch.{IsCut, Takes, Turn, open_stretch, stretch_from}
pub use Rattle.network_model.specs.refusal_names.Names.{encaps_refusal, gsmp_refusal, ifmp_refusal, packet_refusal}
pub use Rattle.network_model.specs.port_model.declared.action.Action.{Action}
pub use Rattle.network_model.specs.port_model.declared.action.Action.TheVariants.{Ask, CutChain, Note, Say, TakeBack, Withdraw}
pub use Rattle.network_model.specs.port_model.declared.timers.Timers.{Timers}
pub use Rattle.network_model.specs.switch_model.Answers.{Handled, branch_answer, branch_of, carried_out, count_of, failure_answer, failure_code, handled, handled_asked, handled_by, refused, success_answer, told_output}
pub use Rattle.network_model.specs.controller_model.Asking.{asks, asks_next, sends_request, takes_back, withdraws_input}
pub use Rattle.world_model.specs.Beside.{StandsBesideCause, has_mark, is_broken}
pub use Rattle.world_model.specs.Causes.{HasCause, HasCauses}
pub use Rattle.network_model.specs.controller_model.Cells.{ForDefault, ForGsmp, ForLabel, counted_at, default_holds, frame_holds, ifmp_holds, label_holds, label_taker, on_link, packet_holds, port_on, reassembly_of, same_channel, taker_at, taker_of, takes_cell, with_reassembly}
pub use Rattle.network_model.specs.controller_model.Changes.{begins_change, change_comes, changed_joins, is_changed, may_take, takes_change, takes_changes, takes_each, takes_join_back}
pub use Rattle.network_model.specs.Conditions.{AreOctets, CanCome, IsEvent, IsLink, IsLinkedChange, IsLinkedNext, IsNode, IsNodeOf, IsPlace, IsPort, IsRange, IsTopology, IsWithin, table_to_be}
pub use Rattle.network_model.specs.switch_model.Conduct.{forged, gsmp_cell, is_gsmp, frame_read, replied, requested, reset, restarted, switched_cell, tick_comes}
pub use Rattle.network_model.specs.controller_model.Controller.{Controller, LabelChain, Linked, chain_key, chain_of, chain_slots, chains_with, default_channel, default_end, default_home, linked_at, port_key, port_slots, with_desk, with_linked}
pub use Rattle.network_model.specs.Events.{changes_at, changes_of, table_after}
pub use Rattle.network_model.specs.switch_model.Failures.{applies, failure_of, is_busy, is_last_session, lacks_branch, leads_elsewhere, named_ends, named_ports, names_session, used_ports}
pub use Rattle.world_model.specs.Fates.{Fate, IsDelivered, IsDropped, by_route, fate_record, has_loss_of, is_fate_of}
pub use Rattle.network_model.specs.controller_model.Gsmp.{gsmp_holds}
pub use Rattle.world_model.specs.Headline.{AreOwned, AreTrueFates, BindsNothing, BindsUnused, HasFatesOnce, HasFatesWhole, Headline, IsInHarmony, IsRun, IsTame, IsTrueFate, IsTrueToRouting, OffersNothing, WasAccepted, fates_of, is_bad, is_bind, is_disowning, is_empty, is_wild}
pub use Rattle.network_model.specs.controller_model.Joins.{end_le, enters_grant, enters_label, gives_back, inputs_at, is_offered, join_by, join_for, join_of, join_through, join_to, joins, joins_at, joins_of, label_on, may_join, parts, port_by, released_inputs, releases, releases_input, releases_join, resets_spent, tries_join, tries_joins, tries_label}
pub use Rattle.world_model.specs.Journey.{at_peer, journey, journey_within}
pub use Rattle.network_model.specs.Limits.{event_limit}
pub use Rattle.network_model.specs.Lines.{changed_at, changes_named, is_linked, line_refusal, link_refusal, node_named, of_named, routes_of, with_changed, with_line, with_link, with_route}
pub use Rattle.network_model.specs.controller_model.Meeting.{answer_comes, answers_desk, awaits_nothing, behind_delete_all, causes, causes_in_estab, clears, clears_of, clears_port, default_branches, empties, ends_meeting, has_emptied, is_clearing, is_deleting, may_clear, meets, port_of_input, takes_answer, tells_port, up_ports}
pub use Rattle.network_model.specs.controller_model.Opening.{after_opening, opens_port, opens_ports, setup_of}
pub use Rattle.world_model.specs.Owned.{HasNoReclaim, HasStored, IsClearedAs, IsNotRecalled, IsNotRecalledIn, IsSpare, IsSpareOrWired, IsWired, IsWiring, KnowsCleared, StandsForLast, WaitsAs, WasCleared, held}
pub use Rattle.network_model.specs.controller_model.Packets.{control_protocol, goes_by, goes_on, grant_by, inject_refusal, injected, is_control, refused_by, forwards_packet, sends_next}
pub use Rattle.world_model.specs.Past.{Past, bound_by, frames_of, last_bound, past_of}
pub use Rattle.network_model.specs.controller_model.Performing.{Rule, at_port, does, does_in_estab, performs, performs_in_estab, resets_as, resets_of, resets_port, works, works_as}
pub use Rattle.network_model.specs.Places.{AreShaped, IsPlaceIn, IsPlaceOf, IsShaped, IsShapedSite, place_node, places, places_of, queue_at, queue_in, queue_number, same_queue, with_port_queue, with_queue, with_queue_in, with_queue_of}
pub use Rattle.world_model.specs.Reached.{HasReached, IsFateAt, Reaches, delivered, expired, hops, sent_by, table_in, without_route}
pub use Rattle.network_model.specs.switch_model.Requests.{Changed, added, added_by, all_ended, asked_in, branch_request, branches_after, end_at, ended_by, inputs_on, is_request, managed, moved_by, moved_to, noted_cut, ports_after}
pub use Rattle.network_model.specs.controller_model.Resets.{begins, closes_by, cuts_default, cuts_default_of, cuts_gsmp, cuts_label, cuts_of, node_resets, node_restarts, port_restarts, port_restarts_as, port_restarts_of, resets_gsmp, with_work}
pub use Rattle.network_model.specs.controller_model.Routes.{differs, route_stays, same_next}
pub use Rattle.network_model.specs.Run.{next, put_away, records_of, round, run, switch_tick_of, tick_of, tick_of_all, world_after, worlds_from}
pub use Rattle.network_model.specs.controller_model.Sending.{says_gsmp, says_ifmp, sends_control}
pub use Rattle.world_model.specs.Sent.{HasArrived, HasNoneBelow, IsKnownRightly, IsNotOverdue, Numbered}
pub use Rattle.network_model.specs.Step.{arrives, arrives_at, carries_head, forges, forges_at, injects, injects_by, loses_head, step, tallied}
pub use Rattle.world_model.specs.Stretches.{Arrival, CountsAsItsFrame, OfController, OfSwitch, arrival, cell_for, cell_turn, cut_turn, has_slot, is_nothing, left_by, reassembly_at, same_reassembler, taken_at, turns_at, turns_of}
pub use Rattle.network_model.specs.switch_model.Switch.{Switch, control_port, controller_party, gsmp_channel, has_port, has_session, numbers_of, switch_party, with_branches, with_port}
pub use Rattle.network_model.specs.controller_model.Ticks.{sends_again, ticks_by, ticks_port, ticks_ports}
pub use Rattle.network_model.specs.Topology.{Link, Node, Topology, default_range, empty_topology, new_node, node_at, node_in, peer_among, peer_on, policy_of, range_among, ranges_of, same_link_end, timers_of}
pub use Rattle.world_model.specs.Users.{ByBranch, ByCell, ByGrant, ByRequest, IsOwn, IsRedirect, IsUnused, IsWay, LeadsOn, User, Uses, Way, connected, copied, from_controller, granted, leads, off_the_link, on_the_link}
pub use Rattle.world_model.specs.Ways.{answers_chain_at, chain_at, copy_by, copy_of, copy_under, grants_at, gsmp_of, gsmp_to_controller, gsmp_to_switch, gsmp_under, ifmp_in, ifmp_of, ifmp_under, linked_end, on_channel, on_default_channel, on_the_way, output_at, requests_chain_at, session_at, side_at, standing_at, to_switch}
pub use Rattle.network_model.specs.World.{Counts, Site, Tally, World, controller_acts, controller_at, empty_world, no_tally, numbers_after, opened_site, opens_each, site_at, site_key, switch_acts, with_opened, with_site}
