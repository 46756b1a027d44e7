pub mod CarrierLines
pub mod ContradictionLines
pub mod UnrecognizedLines
pub mod Lacking
pub mod Faultless
pub mod Report
pub mod Growing
