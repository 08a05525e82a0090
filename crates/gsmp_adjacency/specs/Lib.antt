pub use Rattle.adjacency_table.specs.Greeting
pub use Rattle.adjacency_table.specs.Side
pub use Rattle.adjacency_table.specs.Table
