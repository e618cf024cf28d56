-- The laws of gates, for proofs of other crates.
pub use Rattle.iol_disk.proofs.Gates.{is_open-closed_gate, is_open-open_gate}
