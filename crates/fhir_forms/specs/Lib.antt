pub mod Forms
pub mod Slicings
pub mod Criteria
pub mod FormTables
pub mod CriteriaSeen
