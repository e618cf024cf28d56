-- The laws of disks, for proofs of other crates: images and what is read, moments, and orders of calls.
pub use Rattle.iol_disk.proofs.Images.{image-clean, image-settled, image-synced, image-wrote, reads-is_image, reads-wrote_here}
pub use Rattle.iol_disk.proofs.Images.{reads-wrote_other}
pub use Rattle.iol_disk.proofs.Moments.{and_then, each_now, leaves_same, leaves_sync, leaves_write, quiet_sync, started, then_same, weaker}
pub use Rattle.iol_disk.proofs.Moments.{wrote_some}
pub use Rattle.iol_disk.proofs.Orders.{HasOnTheWay, content_after_append, failed_first, failed_later, failed_leaves, failed_one}
pub use Rattle.iol_disk.proofs.Orders.{made_append, made_leaves, made_none, made_one, made_then_same}
