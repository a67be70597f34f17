pub mod SoundVolume
pub mod Laws
pub mod Fair
