pub use Rattle.flow_encaps.proofs as flow_encaps
