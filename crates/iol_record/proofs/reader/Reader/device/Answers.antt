use Rattle.std.proofs.Common.{rules}
use Rattle.iol_record.proofs.reader.Reader.device.Goals as goal

pub returns : goal.returns
returns c = search rules
