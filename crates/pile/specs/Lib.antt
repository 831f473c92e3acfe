pub mod Layers
pub mod Lives
pub mod Plain
pub mod Refusals
pub mod Shown
pub mod Standing
pub mod Strikes
pub mod Trials
