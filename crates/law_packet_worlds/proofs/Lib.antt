pub use Rattle.law_arrival_views.proofs.law_port_facts as law_port_facts
pub use Rattle.law_run_facts.proofs as law_run_facts
pub use Rattle.law_way_words.proofs as law_way_words
pub mod Lists
pub mod Onward
pub mod Hops
pub mod Quiet
pub mod Walk
pub mod Records
pub mod Ledger
pub mod Cut
pub mod Meant
pub mod Good
pub mod Frames
pub mod Headings
pub mod Sends
pub mod Quietly
pub mod Takes
pub mod Cells
pub mod Switches
pub mod Worlds
pub mod Nets
pub mod Turns
pub mod SwitchWorlds
pub mod Events
pub mod Sites
pub mod Bound
pub mod Starts
pub mod Behind
pub mod Law
pub mod Opening
pub mod Fated
