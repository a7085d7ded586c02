pub mod Putting
pub mod Numbers
pub mod FewFields
pub mod Spelling
pub mod Nine
pub mod PlanLines
pub mod Faults
pub mod Leaving
