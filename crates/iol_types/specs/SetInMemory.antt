-- Sets in memory, and the sets that they represent.
use Rattle.iol_types.specs.DataSet.{SetValue}
use Rattle.iol_types.specs.declared.data_set.DataSet.TheInside.{Inside}

-- the content of a parameter set in memory (own)
abbrev pub set_of : Inside → SetValue
set_of set = record { entries = set.entries; vendor = set.vendor; device = set.device; checksum = set.checksum }
