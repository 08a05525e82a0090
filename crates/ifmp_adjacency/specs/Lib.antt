pub use Rattle.adjacency_table.specs.Hello
pub use Rattle.adjacency_table.specs.Side
pub use Rattle.adjacency_table.specs.Table
