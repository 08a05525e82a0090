pub use Rattle.trace_model.specs.Meaning as Meaning
