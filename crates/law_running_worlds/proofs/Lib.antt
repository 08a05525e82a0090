pub use Rattle.law_frame_readings.proofs.law_port_facts as law_port_facts
pub use Rattle.law_run_facts.proofs.law_actor_pace as law_actor_pace
pub use Rattle.law_frame_readings.proofs.law_shown_cells as law_shown_cells
pub use Rattle.law_input_events.proofs.law_input_steps as law_input_steps
pub use Rattle.law_input_events.proofs.law_input_premises as law_input_premises
pub use Rattle.law_frame_readings.proofs as law_frame_readings
pub use Rattle.law_input_events.proofs as law_input_events
pub use Rattle.law_branch_shapes.proofs.law_causes as law_causes
pub use Rattle.law_run_facts.proofs as law_run_facts
pub mod Lists
pub mod Tame
pub mod Sites
pub mod Ordinary
pub mod Worlds
pub mod Cells
pub mod Greetings
pub mod Asking
pub mod Joining
pub mod Mild
pub mod Laws
pub mod Answers
pub mod Events
pub mod Switches
pub mod GsmpLaws
pub mod Making
pub mod Greeted
pub mod Still
pub mod Walk
pub mod Performed
pub mod Rules
pub mod Spent
pub mod MadeJoining
pub mod Meeting
pub mod MadeCells
pub mod Switch
pub mod Taken
pub mod Forged
pub mod Labels
pub mod MadeSites
pub mod MadeEvents
pub mod Kept
pub mod Opening
pub mod MadeTame
pub mod Made
pub mod Left
pub mod Acts
pub mod InputEvents
pub mod InputKept
pub mod InputWorlds
pub mod InputOpening
