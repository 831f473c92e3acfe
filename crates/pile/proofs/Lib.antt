pub mod Grown
pub mod Looked
pub mod Rising
pub mod Shows
pub mod Steps
pub mod Taken
pub mod Truly
