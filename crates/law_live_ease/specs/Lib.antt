pub use Rattle.law_live_counts.specs as law_live_counts
pub use Rattle.law_live_journeys.specs as law_live_journeys
pub use Rattle.law_live_journeys.specs.law_controller as law_controller
pub use Rattle.law_live_journeys.specs.law_frame_readings as law_frame_readings
pub use Rattle.law_live_journeys.specs.law_input_steps as law_input_steps
pub use Rattle.law_live_journeys.specs.law_live_answers as law_live_answers
pub use Rattle.law_live_journeys.specs.law_live_arrivals as law_live_arrivals
pub use Rattle.law_live_journeys.specs.law_live_asking as law_live_asking
pub use Rattle.law_live_journeys.specs.law_live_binding_beats as law_live_binding_beats
pub use Rattle.law_live_journeys.specs.law_live_bindings as law_live_bindings
pub use Rattle.law_live_journeys.specs.law_live_bound as law_live_bound
pub use Rattle.law_live_journeys.specs.law_live_brought as law_live_brought
pub use Rattle.law_live_journeys.specs.law_live_calm_nodes as law_live_calm_nodes
pub use Rattle.law_live_journeys.specs.law_live_carried_out as law_live_carried_out
pub use Rattle.law_live_journeys.specs.law_live_control as law_live_control
pub use Rattle.law_live_journeys.specs.law_live_control_links as law_live_control_links
pub use Rattle.law_live_journeys.specs.law_live_desks as law_live_desks
pub use Rattle.law_live_journeys.specs.law_live_elsewhere as law_live_elsewhere
pub use Rattle.law_live_journeys.specs.law_live_going as law_live_going
pub use Rattle.law_live_journeys.specs.law_live_greetings as law_live_greetings
pub use Rattle.law_live_journeys.specs.law_live_hearing as law_live_hearing
pub use Rattle.law_live_journeys.specs.law_live_joining as law_live_joining
pub use Rattle.law_live_journeys.specs.law_live_joining_beats as law_live_joining_beats
pub use Rattle.law_live_journeys.specs.law_live_labels as law_live_labels
pub use Rattle.law_live_journeys.specs.law_live_lasting as law_live_lasting
pub use Rattle.law_live_journeys.specs.law_live_links as law_live_links
pub use Rattle.law_live_journeys.specs.law_live_mirrored_ticks as law_live_mirrored_ticks
pub use Rattle.law_live_journeys.specs.law_live_mirrored_worlds as law_live_mirrored_worlds
pub use Rattle.law_live_journeys.specs.law_live_mirrors as law_live_mirrors
pub use Rattle.law_live_journeys.specs.law_live_nodes as law_live_nodes
pub use Rattle.law_live_journeys.specs.law_live_numbers as law_live_numbers
pub use Rattle.law_live_journeys.specs.law_live_orders as law_live_orders
pub use Rattle.law_live_journeys.specs.law_live_others as law_live_others
pub use Rattle.law_live_journeys.specs.law_live_passed_by as law_live_passed_by
pub use Rattle.law_live_journeys.specs.law_live_ports as law_live_ports
pub use Rattle.law_live_journeys.specs.law_live_rests as law_live_rests
pub use Rattle.law_live_journeys.specs.law_live_saying as law_live_saying
pub use Rattle.law_live_journeys.specs.law_live_ticks as law_live_ticks
pub use Rattle.law_live_journeys.specs.law_live_unsaid as law_live_unsaid
pub use Rattle.law_live_journeys.specs.law_live_unseen as law_live_unseen
pub use Rattle.law_live_journeys.specs.law_live_ways as law_live_ways
pub use Rattle.law_live_journeys.specs.law_live_worlds as law_live_worlds
pub use Rattle.law_live_journeys.specs.law_packet_worlds as law_packet_worlds
pub use Rattle.law_live_journeys.specs.law_passing as law_passing
pub use Rattle.law_live_journeys.specs.law_port_facts as law_port_facts
pub use Rattle.law_live_journeys.specs.law_rule_walks as law_rule_walks
pub use Rattle.law_live_journeys.specs.law_run_facts as law_run_facts
pub use Rattle.law_live_journeys.specs.law_running_worlds as law_running_worlds
pub use Rattle.law_live_journeys.specs.law_told_tables as law_told_tables
pub use Rattle.law_live_journeys.specs.law_true_runs as law_true_runs
pub mod Law
pub mod Beats
pub mod AtEase
pub mod Unlabelled
pub mod Coming
pub mod Nodes
pub mod Links
pub mod Entries
pub mod Binding
pub mod Ticks
pub mod Settling
pub mod Served
pub mod Agreeing
pub mod Written
