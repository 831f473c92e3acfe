pub mod Leads
pub mod Marks
pub mod Refusals
pub mod Searched
pub mod Trail
