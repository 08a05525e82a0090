pub use Rattle.law_controller.specs as law_controller
pub use Rattle.law_live_answers.specs as law_live_answers
pub use Rattle.law_live_bound.specs as law_live_bound
pub use Rattle.law_live_greetings.specs as law_live_greetings
pub use Rattle.law_live_labels.specs as law_live_labels
pub use Rattle.law_live_lasting.specs as law_live_lasting
pub use Rattle.law_live_lasting.specs.law_frame_readings as law_frame_readings
pub use Rattle.law_live_lasting.specs.law_live_arrivals as law_live_arrivals
pub use Rattle.law_live_lasting.specs.law_live_calm_nodes as law_live_calm_nodes
pub use Rattle.law_live_lasting.specs.law_live_control as law_live_control
pub use Rattle.law_live_lasting.specs.law_live_control_links as law_live_control_links
pub use Rattle.law_live_lasting.specs.law_live_desks as law_live_desks
pub use Rattle.law_live_lasting.specs.law_live_elsewhere as law_live_elsewhere
pub use Rattle.law_live_lasting.specs.law_live_going as law_live_going
pub use Rattle.law_live_lasting.specs.law_live_hearing as law_live_hearing
pub use Rattle.law_live_lasting.specs.law_live_links as law_live_links
pub use Rattle.law_live_lasting.specs.law_live_mirrored_worlds as law_live_mirrored_worlds
pub use Rattle.law_live_lasting.specs.law_live_nodes as law_live_nodes
pub use Rattle.law_live_lasting.specs.law_live_orders as law_live_orders
pub use Rattle.law_live_lasting.specs.law_live_others as law_live_others
pub use Rattle.law_live_lasting.specs.law_live_passed_by as law_live_passed_by
pub use Rattle.law_live_lasting.specs.law_live_ports as law_live_ports
pub use Rattle.law_live_lasting.specs.law_live_rests as law_live_rests
pub use Rattle.law_live_lasting.specs.law_live_saying as law_live_saying
pub use Rattle.law_live_lasting.specs.law_live_ticks as law_live_ticks
pub use Rattle.law_live_lasting.specs.law_live_unsaid as law_live_unsaid
pub use Rattle.law_live_lasting.specs.law_live_unseen as law_live_unseen
pub use Rattle.law_live_lasting.specs.law_live_ways as law_live_ways
pub use Rattle.law_live_lasting.specs.law_live_worlds as law_live_worlds
pub use Rattle.law_live_lasting.specs.law_passing as law_passing
pub use Rattle.law_live_lasting.specs.law_port_facts as law_port_facts
pub use Rattle.law_live_lasting.specs.law_run_facts as law_run_facts
pub use Rattle.law_live_lasting.specs.law_running_worlds as law_running_worlds
pub use Rattle.law_live_lasting.specs.law_true_runs as law_true_runs
pub use Rattle.law_live_mirrors.specs as law_live_mirrors
pub use Rattle.law_live_numbers.specs as law_live_numbers
pub mod Law
pub mod Frames
pub mod Carries
pub mod Peace
pub mod Stretches
pub mod Going
