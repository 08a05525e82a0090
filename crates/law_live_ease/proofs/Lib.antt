pub use Rattle.law_live_counts.proofs as law_live_counts
pub use Rattle.law_live_journeys.proofs as law_live_journeys
pub use Rattle.law_live_journeys.proofs.law_causes as law_causes
pub use Rattle.law_live_journeys.proofs.law_control_places as law_control_places
pub use Rattle.law_live_journeys.proofs.law_frame_readings as law_frame_readings
pub use Rattle.law_live_journeys.proofs.law_input_steps as law_input_steps
pub use Rattle.law_live_journeys.proofs.law_live_arrivals as law_live_arrivals
pub use Rattle.law_live_journeys.proofs.law_live_asking as law_live_asking
pub use Rattle.law_live_journeys.proofs.law_live_binding_beats as law_live_binding_beats
pub use Rattle.law_live_journeys.proofs.law_live_bindings as law_live_bindings
pub use Rattle.law_live_journeys.proofs.law_live_bound as law_live_bound
pub use Rattle.law_live_journeys.proofs.law_live_brought as law_live_brought
pub use Rattle.law_live_journeys.proofs.law_live_calm_nodes as law_live_calm_nodes
pub use Rattle.law_live_journeys.proofs.law_live_carried_out as law_live_carried_out
pub use Rattle.law_live_journeys.proofs.law_live_carries as law_live_carries
pub use Rattle.law_live_journeys.proofs.law_live_control as law_live_control
pub use Rattle.law_live_journeys.proofs.law_live_control_links as law_live_control_links
pub use Rattle.law_live_journeys.proofs.law_live_desks as law_live_desks
pub use Rattle.law_live_journeys.proofs.law_live_elsewhere as law_live_elsewhere
pub use Rattle.law_live_journeys.proofs.law_live_frames as law_live_frames
pub use Rattle.law_live_journeys.proofs.law_live_going as law_live_going
pub use Rattle.law_live_journeys.proofs.law_live_greetings as law_live_greetings
pub use Rattle.law_live_journeys.proofs.law_live_hearing as law_live_hearing
pub use Rattle.law_live_journeys.proofs.law_live_joining as law_live_joining
pub use Rattle.law_live_journeys.proofs.law_live_joining_beats as law_live_joining_beats
pub use Rattle.law_live_journeys.proofs.law_live_labels as law_live_labels
pub use Rattle.law_live_journeys.proofs.law_live_lasting as law_live_lasting
pub use Rattle.law_live_journeys.proofs.law_live_mirrored_worlds as law_live_mirrored_worlds
pub use Rattle.law_live_journeys.proofs.law_live_mirrors as law_live_mirrors
pub use Rattle.law_live_journeys.proofs.law_live_nodes as law_live_nodes
pub use Rattle.law_live_journeys.proofs.law_live_numbers as law_live_numbers
pub use Rattle.law_live_journeys.proofs.law_live_orders as law_live_orders
pub use Rattle.law_live_journeys.proofs.law_live_others as law_live_others
pub use Rattle.law_live_journeys.proofs.law_live_passed_by as law_live_passed_by
pub use Rattle.law_live_journeys.proofs.law_live_peace as law_live_peace
pub use Rattle.law_live_journeys.proofs.law_live_ports as law_live_ports
pub use Rattle.law_live_journeys.proofs.law_live_unsaid as law_live_unsaid
pub use Rattle.law_live_journeys.proofs.law_live_unseen as law_live_unseen
pub use Rattle.law_live_journeys.proofs.law_live_ways as law_live_ways
pub use Rattle.law_live_journeys.proofs.law_live_worlds as law_live_worlds
pub use Rattle.law_live_journeys.proofs.law_packet_worlds as law_packet_worlds
pub use Rattle.law_live_journeys.proofs.law_passing as law_passing
pub use Rattle.law_live_journeys.proofs.law_port_facts as law_port_facts
pub use Rattle.law_live_journeys.proofs.law_rule_walks as law_rule_walks
pub use Rattle.law_live_journeys.proofs.law_run_facts as law_run_facts
pub use Rattle.law_live_journeys.proofs.law_running_worlds as law_running_worlds
pub use Rattle.law_live_journeys.proofs.law_shown_cells as law_shown_cells
pub use Rattle.law_live_journeys.proofs.law_told_tables as law_told_tables
pub use Rattle.law_live_journeys.proofs.law_true_runs as law_true_runs
pub mod AtEaseBeats
pub mod AtEaseEnds
pub mod UnlabelledNodes
pub mod UnlabelledLinks
pub mod Unlabelled
pub mod ComingOwed
pub mod ComingSteps
pub mod ComingChanges
pub mod ComingNode
pub mod ComingFree
pub mod ComingTold
pub mod ComingMessages
pub mod ComingHears
pub mod ComingMayCome
pub mod ComingPorts
pub mod ComingFrames
pub mod ComingAnswers
pub mod ComingKeepTies
pub mod NodesRows
pub mod NodesCells
pub mod NodesTies
pub mod NodesCarries
pub mod NodesSwitches
pub mod NodesPorts
pub mod NodesWaiting
pub mod NodesGoing
pub mod LinksMoments
pub mod Links
pub mod EntriesForwarding
pub mod EntriesEntering
pub mod EntriesNodes
pub mod EntriesBinding
pub mod BindingNetworks
pub mod BindingStretches
pub mod BindingBeats
pub mod TicksJoins
pub mod TicksSwitches
pub mod Ticks
pub mod TicksSteady
pub mod TicksNodes
pub mod TicksLinks
pub mod TicksBinds
pub mod SettlingResting
pub mod SettlingEntering
pub mod SettlingHeard
pub mod ServedLists
pub mod ServedWorking
pub mod ServedHearing
pub mod ServedCounting
pub mod ServedWalk
pub mod ServedFrames
pub mod ServedWorlds
pub mod ServedStretches
pub mod AgreeingBeats
pub mod Agreeing
pub mod Written
