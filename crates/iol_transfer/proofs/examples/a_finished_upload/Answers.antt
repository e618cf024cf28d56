use Rattle.std.proofs.Common.{[], ◌∷◌, refl, arith}
use Rattle.iol_types.specs.DataSet.{Entry, AreEntries}
use Rattle.iol_types.proofs.Entries.{no-entries, one-more, may_be_added}
use Rattle.iol_transfer.specs.declared.command.DsCommand.TheVariants.{UploadStart}
use Rattle.iol_transfer.specs.declared.list.Next.TheVariants as next_is
use Rattle.iol_transfer.specs.Command.{commanded}
use Rattle.iol_transfer.specs.Exchanges.{Exchange, done, read_of}
use Rattle.iol_transfer.proofs.examples.a_finished_upload.Goals as goal

abbrev long : Entry
long = (record { index = 0x0040; subindex = 0x00 }, 0x0A ∷ 0x64 ∷ [])

abbrev short : Entry
short = (record { index = 0x0041; subindex = 0x01 }, 0x7F ∷ [])

are : AreEntries (long ∷ short ∷ [])
are =
    one-more (long ∷ []) short.0 short.1
    (one-more [] long.0 long.1 no-entries (record { index = omega arith; subindex = omega arith }) (may_be_added [] long.0 long.1 refl))
    (record { index = omega arith; subindex = omega arith }) (may_be_added (long ∷ []) short.0 short.1 refl)

abbrev start : Exchange
start = done (commanded UploadStart)

abbrev size : Exchange
size = read_of 3 3 (0x00 ∷ 0x00 ∷ 0x00 ∷ 0x0B ∷ [])

abbrev index_list : Exchange
index_list = read_of 3 5 (0x00 ∷ 0x40 ∷ 0x00 ∷ 0x00 ∷ 0x41 ∷ 0x01 ∷ 0x00 ∷ 0x00 ∷ [])

abbrev first : Exchange
first = read_of 0x0040 0x00 (0x0A ∷ 0x64 ∷ [])

abbrev second : Exchange
second = read_of 0x0041 0x01 (0x7F ∷ [])

abbrev checksum : Exchange
checksum = read_of 3 4 (0x00 ∷ 0x00 ∷ 0x02 ∷ 0x4F ∷ [])

pub returns : goal.returns
returns c = record {
  settled = start ∷ size ∷ index_list ∷ first ∷ second ∷ checksum ∷ [];
  follows = (
    1,
    size ∷ index_list ∷ first ∷ second ∷ checksum ∷ [],
    omega arith,
    refl,
    (
      0,
      index_list ∷ first ∷ second ∷ checksum ∷ [],
      omega arith,
      refl,
      (
        0,
        first ∷ second ∷ checksum ∷ [],
        omega arith,
        refl,
        (0, second ∷ checksum ∷ [], omega arith, refl, (0, checksum ∷ [], omega arith, refl, (0, [], omega arith, refl, refl))),
      ),
    ),
  );
  upload = record {
    size = 0x00 ∷ 0x00 ∷ 0x00 ∷ 0x0B ∷ [];
    lists = index_list ∷ [];
    listed = long.0 ∷ short.0 ∷ [];
    checksum = 0x00 ∷ 0x00 ∷ 0x02 ∷ 0x4F ∷ [];
    order = refl;
    declared = record { four = refl; fits = omega arith };
    chain = (0x00 ∷ 0x40 ∷ 0x00 ∷ 0x00 ∷ 0x41 ∷ 0x01 ∷ 0x00 ∷ 0x00 ∷ [], long.0 ∷ short.0 ∷ [], next_is.End, refl, refl, (refl, refl));
    few = omega arith;
    keys = refl;
    four = refl;
    sum = refl;
    set_is = record { entries = are; vendor = omega arith; device = omega arith; checksum = omega arith };
  };
  vendor_is = refl;
  device_is = refl;
}
