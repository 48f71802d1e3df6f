-- What is told of a volume.
pub mod VolumeForms
