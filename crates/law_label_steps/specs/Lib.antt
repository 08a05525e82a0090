pub use Rattle.law_port_views.specs.octet_fields as octet_fields
pub use Rattle.law_port_views.specs.ordered_lists as ordered_lists
pub use Rattle.law_port_views.specs.law_port_facts as law_port_facts
pub use Rattle.law_port_views.specs.law_label_line as law_label_line
pub use Rattle.law_port_views.specs as law_port_views
pub mod Follows
