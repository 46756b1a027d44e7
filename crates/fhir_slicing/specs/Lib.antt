pub mod Belonging
pub mod Finding
pub mod SameCriteria
pub mod Parcels
