pub use Rattle.world_model.specs.aal5_frames as aal5_frames
pub use Rattle.law_port_views.specs.ordered_lists as ordered_lists
pub use Rattle.law_port_views.specs.law_label_line as law_label_line
pub use Rattle.law_port_views.specs as law_port_views
pub use Rattle.world_model.specs as world_model
pub mod Seen
pub mod Label
