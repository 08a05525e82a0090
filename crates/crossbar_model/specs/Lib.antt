pub use Rattle.atm_cells.specs as atm_cells
pub mod Channels
pub mod Crossbar
