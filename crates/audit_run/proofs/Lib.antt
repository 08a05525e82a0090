mod Whole
mod Lines
