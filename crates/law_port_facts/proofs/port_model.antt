-- what the crates above use of the lemmas of the crates that `port_model` stands on

pub mod net_types
pub mod adjacency_table
