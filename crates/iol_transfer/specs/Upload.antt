-- What a finished upload is: a conversation with a device, and the parameter set that it read.
use Rattle.std.specs.Prelude.{◌≡◌, ℕ, ◌≤◌, List, [], ◌∷◌, ◌++◌, length, map, Ok}
use Rattle.std.specs.Int.{from_be_bytes, w32}
use Rattle.std.specs.Map.{keys_of}
use Rattle.iol_types.specs.DataSet.{Entry, SetValue, IsSet}
use Rattle.iol_types.specs.declared.key.Key.{Key}
use Rattle.iol_types.specs.declared.key.TheConstants.{DATA_STORAGE}
use Rattle.iol_types.specs.declared.data_set.TheConstants.{MOST_SET_OCTETS}
use Rattle.iol_transfer.specs.List.{reading_of, first_places}
use Rattle.iol_transfer.specs.declared.command.DsCommand.TheVariants.{UploadStart}
use Rattle.iol_transfer.specs.declared.list.Next.{Next}
use Rattle.iol_transfer.specs.declared.list.Next.TheVariants as next
use Rattle.iol_transfer.specs.declared.object.TheConstants.{DATA_STORAGE_SIZE, PARAMETER_CHECKSUM, INDEX_LIST}
use Rattle.iol_transfer.specs.Command.{commanded}
use Rattle.iol_transfer.specs.Exchanges.{Exchange, done, read_of, Follows}
use Rattle.iol_transfer.specs.declared.upload.TheConstants.{MOST_LISTS}

-- the number that four octets are, most significant octet first (standard, Data Storage object)
abbrev pub number_of : List ℕ → ℕ
number_of octets = from_be_bytes w32 octets

-- octets of a Data_Storage_Size that an upload accepts: four, with a value of at most 4,096
-- (standard, Data Storage object)
pub record IsSize (octets : List ℕ) : Type 0 where
  pub four : length octets ≡ 4
  pub fits : number_of octets ≤ MOST_SET_OCTETS

-- what follows a list: nothing if the list ends, else the reads that begin with the next list (own)
abbrev pub FollowsList : Next → Type 0 → (ℕ → Type 0) → Type 0
FollowsList next.End nothing reads = nothing
FollowsList (next.List index) nothing reads = reads index

-- these exchanges read index lists, the first at an address and each other at the Index that the one before names, up to
-- one that ends; they list these keys (standard, Data Storage object)
abbrev pub AreLists : ℕ → ℕ → List Exchange → List Key → Type 0
AreLists index subindex [] keys = ⊥
AreLists index subindex (exchange ∷ more) keys =
    (octets : List ℕ) × (listed : List Key) × (next : Next)
    × (exchange ≡ read_of index subindex octets) × (reading_of octets ≡ Ok (listed, next))
    × FollowsList next ((more ≡ []) × (keys ≡ listed))
    (λ further. (others : List Key) × AreLists further 0 more others × (keys ≡ listed ++ others))

-- the first exchanges of an upload: DS_UploadStart, the declared size, and lists (own)
abbrev pub opening : List ℕ → List Exchange → List Exchange
opening size lists = done (commanded UploadStart) ∷ read_of DATA_STORAGE DATA_STORAGE_SIZE size ∷ lists

-- the read of a parameter (own)
abbrev pub entry_read : Entry → Exchange
entry_read entry = read_of entry.0.index entry.0.subindex entry.1

-- these settled exchanges are an upload of a set: DS_UploadStart, the declared size, the index lists, each listed key,
-- at its first place, and the checksum (standard, Data Storage object)
pub record IsUpload (set : SetValue) (settled : List Exchange) : Type 0 where
  pub size : List ℕ
  pub lists : List Exchange
  pub listed : List Key
  pub checksum : List ℕ
  pub order :
      settled ≡ opening size lists ++ map entry_read set.entries ++ read_of DATA_STORAGE PARAMETER_CHECKSUM checksum ∷ []
  pub declared : IsSize size
  pub chain : AreLists DATA_STORAGE INDEX_LIST lists listed
  pub few : length lists ≤ MOST_LISTS
  pub keys : keys_of set.entries ≡ first_places listed
  pub four : length checksum ≡ 4
  pub sum : set.checksum ≡ number_of checksum
  pub set_is : IsSet set

-- this conversation is a finished upload of a set from a device with these numbers (standard, Data Storage object)
pub record IsFinished (vendor device : ℕ) (conversation : List Exchange) (set : SetValue) : Type 0 where
  pub settled : List Exchange
  pub follows : Follows conversation settled
  pub upload : IsUpload set settled
  pub vendor_is : set.vendor ≡ vendor
  pub device_is : set.device ≡ device
