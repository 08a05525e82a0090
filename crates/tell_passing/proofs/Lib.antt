mod Flat
mod Reaching
mod Behind
mod Telling
mod Coming
mod Looking
