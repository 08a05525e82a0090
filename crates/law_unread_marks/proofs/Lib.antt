mod Branches
mod Switches
mod Worlds
