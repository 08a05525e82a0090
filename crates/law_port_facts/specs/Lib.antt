pub use Rattle.port_model.specs.octet_fields as octet_fields
pub use Rattle.ordered_lists.specs as ordered_lists
pub use Rattle.port_model.specs as port_model
pub mod Port
