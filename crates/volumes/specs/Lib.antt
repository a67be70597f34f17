pub mod Volumes
pub mod SoundVolume
