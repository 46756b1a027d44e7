mod WholeNumbers
pub mod SeenCodes
pub mod FirstFound
