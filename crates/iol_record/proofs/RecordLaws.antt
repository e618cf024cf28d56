-- The laws of records, for proofs of other crates.
pub use Rattle.iol_record.proofs.Readers.{extended}
pub use Rattle.iol_record.proofs.RecordReaders.{command_at-record, length-command_record, length-port_octets, port_record_at-append}
pub use Rattle.iol_record.proofs.RecordReaders.{port_record_at-nothing, port_record_at-record}
pub use Rattle.iol_record.proofs.PortReaders.{IsPortIn}
pub use Rattle.iol_record.proofs.RecordReaders.{spells-command, spells-state, spells-blank}
pub use Rattle.iol_record.proofs.Memories.{memory_or_read}
