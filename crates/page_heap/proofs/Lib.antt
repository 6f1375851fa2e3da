pub mod Classes
pub mod Flat
pub mod Plans
pub mod Mapped
pub mod Beginning
