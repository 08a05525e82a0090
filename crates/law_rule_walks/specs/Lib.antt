pub use Rattle.world_model.specs.aal5_frames as aal5_frames
