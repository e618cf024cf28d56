-- What a fault of reading is.
use Rattle.std.proofs.Common.{◌≡◌, Result, Err, ◌⊎◌, inl, inr, refl}
use Rattle.iol_record.specs.declared.fault.RecordFault.{RecordFault}
use Rattle.iol_record.specs.declared.fault.RecordFault.TheVariants.{Short, BadTag, BadField, Memory}
use Rattle.iol_record.specs.Reading.{IsReadFault}

-- a fault is memory, or the first one that is read
pub memory_or_read : {A B : Type 0} (begun : Result B RecordFault) (fault : RecordFault) (reading : Result A RecordFault)
    → IsReadFault begun fault reading → (fault ≡ Memory) ⊎ (reading ≡ Err fault)
memory_or_read begun Memory reading is = inl refl
memory_or_read begun Short reading is = inr is
memory_or_read begun BadTag reading is = inr is
memory_or_read begun BadField reading is = inr is
