pub mod Rootless
