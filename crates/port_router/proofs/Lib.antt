pub mod Done
mod Parted
