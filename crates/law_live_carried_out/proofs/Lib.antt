pub use Rattle.law_live_joining_beats.proofs as law_live_joining_beats
pub use Rattle.law_live_joining_beats.proofs.law_causes as law_causes
pub use Rattle.law_live_joining_beats.proofs.law_control_places as law_control_places
pub use Rattle.law_live_joining_beats.proofs.law_frame_readings as law_frame_readings
pub use Rattle.law_live_joining_beats.proofs.law_input_steps as law_input_steps
pub use Rattle.law_live_joining_beats.proofs.law_live_arrivals as law_live_arrivals
pub use Rattle.law_live_joining_beats.proofs.law_live_asking as law_live_asking
pub use Rattle.law_live_joining_beats.proofs.law_live_binding_beats as law_live_binding_beats
pub use Rattle.law_live_joining_beats.proofs.law_live_bindings as law_live_bindings
pub use Rattle.law_live_joining_beats.proofs.law_live_bound as law_live_bound
pub use Rattle.law_live_joining_beats.proofs.law_live_brought as law_live_brought
pub use Rattle.law_live_joining_beats.proofs.law_live_calm_nodes as law_live_calm_nodes
pub use Rattle.law_live_joining_beats.proofs.law_live_carries as law_live_carries
pub use Rattle.law_live_joining_beats.proofs.law_live_control as law_live_control
pub use Rattle.law_live_joining_beats.proofs.law_live_control_links as law_live_control_links
pub use Rattle.law_live_joining_beats.proofs.law_live_desks as law_live_desks
pub use Rattle.law_live_joining_beats.proofs.law_live_elsewhere as law_live_elsewhere
pub use Rattle.law_live_joining_beats.proofs.law_live_frames as law_live_frames
pub use Rattle.law_live_joining_beats.proofs.law_live_going as law_live_going
pub use Rattle.law_live_joining_beats.proofs.law_live_greetings as law_live_greetings
pub use Rattle.law_live_joining_beats.proofs.law_live_hearing as law_live_hearing
pub use Rattle.law_live_joining_beats.proofs.law_live_joining as law_live_joining
pub use Rattle.law_live_joining_beats.proofs.law_live_labels as law_live_labels
pub use Rattle.law_live_joining_beats.proofs.law_live_lasting as law_live_lasting
pub use Rattle.law_live_joining_beats.proofs.law_live_mirrored_worlds as law_live_mirrored_worlds
pub use Rattle.law_live_joining_beats.proofs.law_live_mirrors as law_live_mirrors
pub use Rattle.law_live_joining_beats.proofs.law_live_nodes as law_live_nodes
pub use Rattle.law_live_joining_beats.proofs.law_live_numbers as law_live_numbers
pub use Rattle.law_live_joining_beats.proofs.law_live_orders as law_live_orders
pub use Rattle.law_live_joining_beats.proofs.law_live_others as law_live_others
pub use Rattle.law_live_joining_beats.proofs.law_live_passed_by as law_live_passed_by
pub use Rattle.law_live_joining_beats.proofs.law_live_peace as law_live_peace
pub use Rattle.law_live_joining_beats.proofs.law_live_ports as law_live_ports
pub use Rattle.law_live_joining_beats.proofs.law_live_unsaid as law_live_unsaid
pub use Rattle.law_live_joining_beats.proofs.law_live_unseen as law_live_unseen
pub use Rattle.law_live_joining_beats.proofs.law_live_ways as law_live_ways
pub use Rattle.law_live_joining_beats.proofs.law_live_worlds as law_live_worlds
pub use Rattle.law_live_joining_beats.proofs.law_passing as law_passing
pub use Rattle.law_live_joining_beats.proofs.law_port_facts as law_port_facts
pub use Rattle.law_live_joining_beats.proofs.law_run_facts as law_run_facts
pub use Rattle.law_live_joining_beats.proofs.law_running_worlds as law_running_worlds
pub use Rattle.law_live_joining_beats.proofs.law_shown_cells as law_shown_cells
pub use Rattle.law_live_joining_beats.proofs.law_true_runs as law_true_runs
pub mod Joins
pub mod Ticks
pub mod Going
pub mod Beats
pub mod Lasts
