pub use Rattle.branch_desk.specs as branch_desk
pub mod Book
pub mod Answers
