pub mod Gathers
pub mod Identified
pub mod Under
pub mod Blamed
pub mod RightHead
pub mod OwnFault
