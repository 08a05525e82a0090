-- the words of a port: what the crates of definitions below it call one thing alone

pub use Rattle.net_types.specs.Channel.{channel_on_control}
pub use Rattle.net_types.specs.Label.{is_label_channel, is_label_number, label_channel_of, label_number_of, number_of_channel}
pub use Rattle.net_types.specs.Number.{AreDrawn, GivenOut, HasNumbersLeft, next_control, next_instance, with_control, with_instance}
pub use Rattle.net_types.specs.Prefix.{Network}
pub use Rattle.net_types.specs.declared.adjacency.Greeting.{Greeting}
pub use Rattle.net_types.specs.declared.adjacency.Hello.{Hello}
pub use Rattle.net_types.specs.declared.adjacency.HelloKind.{HelloKind}
pub use Rattle.net_types.specs.declared.adjacency.HelloKind.TheVariants.{Ack, Rstack, Syn, Synack}
pub use Rattle.net_types.specs.declared.adjacency.Party.{Party}
pub use Rattle.net_types.specs.declared.adjacency.Peer.{Peer}
pub use Rattle.net_types.specs.declared.channel.Channel.{Channel}
pub use Rattle.net_types.specs.declared.channel.End.{End}
pub use Rattle.net_types.specs.declared.node.NodeId.{NodeId}
pub use Rattle.net_types.specs.declared.node.Place.{Place}
pub use Rattle.net_types.specs.declared.node.Place.TheVariants.{Down, Out, Up}
pub use Rattle.net_types.specs.declared.node.PortNo.{PortNo}
pub use Rattle.net_types.specs.declared.number.Instance.{Instance}
pub use Rattle.net_types.specs.declared.number.Mark.{Mark}
pub use Rattle.net_types.specs.declared.prefix.Addr.{Addr}
pub use Rattle.link_model.specs.ipv4_packet.Flow.{IsFlow, at_ttl, flow_of, flow_ttl, has_ports, kind_of, next_hop_of, shows_ports}
pub use Rattle.link_model.specs.ipv4_packet.Identifier.{FitsFields, has_fields, identifier}
pub use Rattle.link_model.specs.ipv4_packet.Packet.{IsPacket, canonical, canonical_checksum, destination_of, header_sum, ifmp_header, ifmp_packet_of, protocol_of, source_of, tos_of, total_length_of, ttl_of, with_ttl}
pub use Rattle.link_model.specs.ipv4_packet.Parts.{flow_destination, same_flow}
pub use Rattle.link_model.specs.ipv4_packet.declared.flow.FlowId.{FlowId}
pub use Rattle.link_model.specs.ipv4_packet.declared.flow.FlowKind.{FlowKind}
pub use Rattle.link_model.specs.ipv4_packet.declared.validate.PacketFault.{PacketFault}
pub use Rattle.link_model.specs.ipv4_packet.declared.validate.PacketFault.TheVariants.{Checksum, Options, TooLong, Version}
pub use Rattle.ifmp_wire.specs.Fields.{flow_at, flow_in, hello_at, instance_at, redirection_at}
pub use Rattle.ifmp_wire.specs.Message.{FitsMessage, InRange, flow_octets, flow_type, flow_words, hello_code, label_octets, names_of, op_code, with_checksum, with_names}
pub use Rattle.ifmp_wire.specs.Tests.{body_fault, flow_fault, head_fault, identifier_fault, kind_at, kind_fault, lifetime_fault, op_at}
pub use Rattle.ifmp_wire.specs.declared.message.Message.TheVariants.{Error, LabelRange, Reclaim, ReclaimAck, Redirect}
pub use Rattle.ifmp_wire.specs.declared.reader.Fault.TheVariants.{FlowFields, ZeroLifetime}
pub use Rattle.gsmp_wire.specs.Fields.{hello_kind, party_in}
pub use Rattle.gsmp_wire.specs.Layout.{rows_octets, snap_header}
pub use Rattle.gsmp_wire.specs.Range.{Bits, Fits, FitsChannel, FitsParty, FitsRows}
pub use Rattle.gsmp_wire.specs.Refusal.{refusal, refusal_by, type_of}
pub use Rattle.gsmp_wire.specs.declared.message.BranchKind.{BranchKind}
pub use Rattle.gsmp_wire.specs.declared.message.BranchKind.TheVariants.{Add, Delete, Verify}
pub use Rattle.gsmp_wire.specs.declared.message.Message.TheVariants.{Move}
pub use Rattle.gsmp_wire.specs.declared.request.Request.{Request}
pub use Rattle.gsmp_wire.specs.declared.request.Request.TheVariants.{AddBranch, DeleteTree, MoveBranch, PortManagement, VerifyTree}
pub use Rattle.gsmp_wire.specs.declared.rows.PortRow.{PortRow}
pub use Rattle.keyed_lists.specs.Keyed.{at, entered, in_order, key_le, put, without}
pub use Rattle.adjacency_table.specs.Ends.{router, said_by, side_of, step_by, tick_by}
pub use Rattle.adjacency_table.specs.Greeting.{greeting_of, gsmp_answer, gsmp_received, heard_in, nobody, same_party}
pub use Rattle.adjacency_table.specs.Hello.{heard_from, hello_of, ifmp_answer, ifmp_received, next_in, same_peer}
pub use Rattle.adjacency_table.specs.Instances.{SideByInstances, after_row, enters, greeting, is_reset, row_for}
pub use Rattle.adjacency_table.specs.Side.{IsSide, Side, Step, answer_of, answer_to, followed, followed_tick, fresh, is_entry, is_estab, is_open, knows_peer, received, said, ticked}
pub use Rattle.adjacency_table.specs.Table.{Reply, Resets, Row, Says, Silent, enters_by_ack, enters_by_synack, row, silence_limit, stays, stores_and, tick_reply}
pub use Rattle.adjacency_table.specs.declared.State.{State}
pub use Rattle.adjacency_table.specs.declared.State.TheVariants.{Clearing, Estab, SynRcvd, SynSent}
pub use Rattle.adjacency_table.specs.declared.message.Answer.{Answer}
pub use Rattle.adjacency_table.specs.declared.message.Answer.TheVariants.{Open, Quiet, Send}
pub use Rattle.adjacency_table.specs.declared.message.Heard.{Heard}
pub use Rattle.adjacency_table.specs.declared.message.Said.{Said}
pub use Rattle.crossbar_model.specs.Channels.{ArePorts, IsLinkPort, end_cmp, is_channel_of, is_connectable, is_link_channel}
pub use Rattle.crossbar_model.specs.Crossbar.{Branches, Crossbar, cut_by_move, new_branch, on_channel_of, popped, queue_of, route_on, routed, same_end, sent, switched, switched_on, unfinished_after, unfinished_on}
pub use Rattle.crossbar_model.specs.declared.routed.Routed.{Routed}
pub use Rattle.link_model.specs.Ledger.{has_entry, is_frame, payload_of, same_mark}
pub use Rattle.link_model.specs.Notes.{Journal, losses_of, noted}
pub use Rattle.link_model.specs.declared.entries.Entry.{Entry}
pub use Rattle.link_model.specs.declared.frames.Frame.{Frame}
pub use Rattle.link_model.specs.declared.record.Cause.{Cause}
pub use Rattle.link_model.specs.declared.record.Cause.TheVariants.{Broken, Cut, Lost, PoolFull, Unbound, Unconnected}
pub use Rattle.link_model.specs.declared.record.DropCause.{DropCause}
pub use Rattle.link_model.specs.declared.record.Layer.{Layer}
pub use Rattle.link_model.specs.declared.record.Layer.TheVariants.{Encaps, Gsmp, Ifmp, Packet}
pub use Rattle.link_model.specs.declared.record.Record.{Record}
pub use Rattle.link_model.specs.declared.record.Record.TheVariants.{Bad, Bind, Chance, Closed, Delivered, Dropped, Forged, Free, Loss, Opened, Part, Refused, Routes}
pub use Rattle.link_model.specs.declared.record.Refusal.{Refusal}
pub use Rattle.link_model.specs.declared.record.Refusal.TheVariants.{ControlProtocol}
pub use Rattle.port_model.specs.Adjacency.{first_session, is_good, learns, opens, quits, quits_found, quits_in, quits_label, unwires}
pub use Rattle.port_model.specs.Answers.{bound, bound_in, freed, freed_in, joined_to, started, started_in}
pub use Rattle.port_model.specs.Counting.{counts, counts_by, counts_flow, counts_in, offers, packet_flow, used, used_label, wires}
pub use Rattle.port_model.specs.Counts.{counted_once, packets_in}
pub use Rattle.port_model.specs.Desk.{Desk, Standing, all_on, emptied, empty_desk, is_led_home, last_transaction, most_asked, most_requests, on_input, sent_again, withdrawn}
pub use Rattle.port_model.specs.DeskAnswers.{Answered, Done, Failed, Head, Ports, Unknown, after_answer, answered, answered_with, head_of, is_branch_of, is_of_type, outcome, succeeded, without_request}
pub use Rattle.port_model.specs.Grants.{Acceptance, ByController, ByInput, Grant, GrantState, GrantsFull, Idle, IsLeaving, Leaving, New, Refreshed, acceptance, acceptance_beside, acceptance_of, grant_for, grant_label, grant_matching, grant_of_kind, grant_on, is_by_controller, is_leaving, most_grants}
pub use Rattle.port_model.specs.Hearing.{hears, label_by}
pub use Rattle.port_model.specs.Joins.{given_back, given_back_in, joins_label, lent, parted}
pub use Rattle.port_model.specs.Labels.{Label, LabelState, Offered, Recalled, Wired, Wiring, is_bound, is_spare, label_for, label_number, lowest_spare, serves}
pub use Rattle.port_model.specs.Messages.{message_of, session_of, unnamed}
pub use Rattle.port_model.specs.Port.{Session, Work, desk_after, desk_with, halts, has_room, known_of, label_at, labels_of, with_grant, with_grants, with_label, with_new_label, with_session, without_grant, without_label}
pub use Rattle.port_model.specs.Reclaiming.{acknowledged, acknowledged_in, error_comes, is_outside, narrowed, ranged, recalls, recalls_in, recalls_offered, recalls_outside, reclaimed, reclaimed_in, reclaims, reclaims_in, unjoins}
pub use Rattle.port_model.specs.Redirection.{accepts, expects, grants_label, is_due, is_from_peer, takes}
pub use Rattle.port_model.specs.Requests.{is_delete_all, is_on, is_on_port, leads_home, withdraws}
pub use Rattle.port_model.specs.Resets.{closing, left_in, left_of, next_side, resets, restarts, taking_back, taking_back_in, withdrawing, withdrawing_in, withdrawing_of}
pub use Rattle.port_model.specs.Saying.{Unnumbered, halts_if_spent, error, greets, is_spent, label_range, last_number, own_instance, reclaim, reclaim_ack, redirect, spent_number, tells, tells_in}
pub use Rattle.port_model.specs.Setup.{Policy, Setup, control_end, home_of, is_between, is_in_range, label_end, label_numbers}
pub use Rattle.port_model.specs.Ticks.{ages, ages_found, ages_in, asks_for_ack, expires, idles, moves_windows, nudges, one_idler, one_older, refreshes, ticks_found, ticks_in, ticks_label, ticks_session}
