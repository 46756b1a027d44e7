mod Scalars
mod Wholes
mod Points
mod KindsInJson
mod Rows
mod Onward
mod Ordered
mod Pairwise
