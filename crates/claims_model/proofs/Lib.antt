pub mod world_model
