-- The definitions of the machine, named together for theorems that compute.
pub mod Computes
