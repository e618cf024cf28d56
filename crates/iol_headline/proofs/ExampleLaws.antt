-- What the laws say of the trace of the worked examples.
use Rattle.std.proofs.Common.{refl, [], ◌∷◌, ◌++◌, arith, lit<}
use Rattle.std.specs.Prelude.{Some, None}
use Rattle.iol_types.proofs.Entries.{no-entries, one-more, may_be_added}
use Rattle.iol_types.specs.Command.{Store}
use Rattle.iol_types.specs.DataSet.{Entry, AreEntries}
use Rattle.iol_types.specs.State.{empty_state}
use Rattle.iol_link.specs.Page.{page_of}
use Rattle.iol_transfer.specs.Command.{commanded}
use Rattle.iol_transfer.specs.declared.command.DsCommand.TheVariants.{DownloadStart, DownloadEnd}
use Rattle.iol_transfer.specs.declared.list.Next.TheVariants as next_is
use Rattle.iol_link.specs.declared.messages.Request.TheVariants as request
use Rattle.iol_transfer.specs.Exchanges.{carried, done, read_of}
use Rattle.iol_transfer.specs.Upload.{IsFinished}
use Rattle.iol_core.specs.Events as trace
use Rattle.iol_core.specs.Events.{Event, Accepted, Page, Lost, Attended, Changed, Acknowledged, stamped}
use Rattle.iol_core.specs.Own.{own}
use Rattle.iol_core.specs.Statuses.{Starting, Uploading, Storing, Downloading}
use Rattle.iol_port.specs.declared.decision.Decision.TheVariants as decision
use Rattle.iol_headline.specs.Conversations.{HasPage}
use Rattle.iol_headline.specs.Decisions.{IsExamined}
use Rattle.iol_headline.specs.Downloads.{IsDownloadOf}
use Rattle.iol_headline.specs.DurableEnds.{IsStored}
use Rattle.iol_headline.specs.Examples.{example_config, example_work, example_set, example_page, upload, flagged, uploaded, stored, ended}
use Rattle.iol_headline.specs.Examples.{replaced, restoring, half_restored, restored}
use Rattle.iol_headline.specs.Settled.{IsJudged}
use Rattle.iol_headline.specs.WholeSets.{IsUploadedWhole}
use Rattle.iol_headline.proofs.ExampleTalks.{both_read, flagged_reads, replaced_reads, before_replaced_page, start_told, first_told}
use Rattle.iol_headline.proofs.ExampleTalks.{restoring_exchanges, flagged_talk, replaced_talk, start_talk, first_talk, size}
use Rattle.iol_headline.proofs.ExampleTalks.{index_list, first_value, second_value, checksum, uploading, upload_talk}

-- ---- the set of the upload

abbrev long : Entry
long = (record { index = 0x0040; subindex = 0x00 }, 0x0A ∷ 0x64 ∷ [])

abbrev short : Entry
short = (record { index = 0x0041; subindex = 0x01 }, 0x7F ∷ [])

-- the entries are ones that a set may have
are : AreEntries (long ∷ short ∷ [])
are =
    one-more (long ∷ []) short.0 short.1
    (one-more [] long.0 long.1 no-entries (record { index = omega arith; subindex = omega arith }) (may_be_added [] long.0 long.1 refl))
    (record { index = omega arith; subindex = omega arith }) (may_be_added (long ∷ []) short.0 short.1 refl)

-- the exchanges are a finished upload of the set
pub finished : IsFinished 500 43981 uploading (example_set 0x7F)
finished = record {
  settled = uploading;
  follows = (
    0,
    size ∷ index_list ∷ first_value ∷ second_value ∷ checksum ∷ [],
    lit< tt,
    refl,
    (
      0,
      index_list ∷ first_value ∷ second_value ∷ checksum ∷ [],
      lit< tt,
      refl,
      (
        0,
        first_value ∷ second_value ∷ checksum ∷ [],
        lit< tt,
        refl,
        (0, second_value ∷ checksum ∷ [], lit< tt, refl, (0, checksum ∷ [], lit< tt, refl, (0, [], lit< tt, refl, refl))),
      ),
    ),
  );
  upload = record {
    size = 0x00 ∷ 0x00 ∷ 0x00 ∷ 0x0B ∷ [];
    lists = index_list ∷ [];
    listed = long.0 ∷ short.0 ∷ [];
    checksum = 0x00 ∷ 0x00 ∷ 0x02 ∷ 0x4F ∷ [];
    order = refl;
    declared = record { four = refl; fits = omega arith };
    chain = (0x00 ∷ 0x40 ∷ 0x00 ∷ 0x00 ∷ 0x41 ∷ 0x01 ∷ 0x00 ∷ 0x00 ∷ [], long.0 ∷ short.0 ∷ [], next_is.End, refl, refl, (refl, refl));
    few = omega arith;
    keys = refl;
    four = refl;
    sum = refl;
    set_is = record { entries = are; vendor = omega arith; device = omega arith; checksum = omega arith };
  };
  vendor_is = refl;
  device_is = refl;
}

-- ---- what the laws say of the trace

-- the sensor and its replacement were examined before a transfer was decided
pub flagged_examined : IsExamined decision.Upload 1 (own 1 (stamped 7 flagged))
flagged_examined = record {
  before = Attended 1 (example_work None) ∷ Changed 1 Starting ∷ [];
  connection = 0;
  octets = example_page;
  told = flagged_reads;
  work = example_work None;
  conversation = both_read (0x80 ∷ []) (0x00 ∷ 0x00 ∷ 0x02 ∷ 0x4F ∷ []);
  state = 0x80 ∷ [];
  sum = 0x00 ∷ 0x00 ∷ 0x02 ∷ 0x4F ∷ [];
  split = refl;
  talk = flagged_talk;
  reads = (0, read_of 3 4 (0x00 ∷ 0x00 ∷ 0x02 ∷ 0x4F ∷ []) ∷ [], lit< tt, refl, (0, [], lit< tt, refl, refl));
  one = refl;
  four = refl;
  wanted = refl;
  decided = refl;
}

pub replaced_examined : IsExamined decision.Download 1 (own 1 (stamped 7 replaced))
replaced_examined = record {
  before = before_replaced_page;
  connection = 1;
  octets = example_page;
  told = replaced_reads;
  work = example_work (Some 0x024F);
  conversation = both_read (0x00 ∷ []) (0x00 ∷ 0x00 ∷ 0x00 ∷ 0x00 ∷ []);
  state = 0x00 ∷ [];
  sum = 0x00 ∷ 0x00 ∷ 0x00 ∷ 0x00 ∷ [];
  split = refl;
  talk = replaced_talk;
  reads = (0, read_of 3 4 (0x00 ∷ 0x00 ∷ 0x00 ∷ 0x00 ∷ []) ∷ [], lit< tt, refl, (0, [], lit< tt, refl, refl));
  one = refl;
  four = refl;
  wanted = refl;
  decided = refl;
}

-- the page of the sensor is shown
flagged_page : HasPage 1 0 (page_of example_page) (own 1 (stamped 7 flagged))
flagged_page = record {
  before = Attended 1 (example_work None) ∷ Changed 1 Starting ∷ [];
  octets = example_page;
  since = flagged_reads ++ Attended 1 (example_work None) ∷ [];
  split = refl;
  page_is = refl;
  connected = tt;
}

-- the page of the replacement is shown
replaced_page : HasPage 1 1 (page_of example_page) (own 1 (stamped 7 replaced))
replaced_page = record {
  before = before_replaced_page;
  octets = example_page;
  since = replaced_reads ++ Attended 1 (example_work (Some 0x024F)) ∷ [];
  split = refl;
  page_is = refl;
  connected = tt;
}

-- the set was uploaded whole, and is stored
pub whole : IsUploadedWhole 1 0 (example_set 0x7F) (stamped 7 uploaded)
whole = record {
  early = stamped 7 flagged;
  clock = 7;
  late = stamped 7 upload;
  page = page_of example_page;
  conversation = uploading;
  split = refl;
  shown = flagged_page;
  told = upload_talk;
  finished = finished;
  undisturbed = tt;
}

pub stored_whole : IsStored 1 0 2 (stamped 7 stored)
stored_whole = record {
  early = stamped 7 uploaded;
  clock = 7;
  late = stamped 7 (Changed 1 Storing ∷ Acknowledged 2 ∷ []);
  revision = 1;
  set = example_set 0x7F;
  told = [];
  times = 0;
  split = refl;
  uploaded = whole;
  since = refl;
  busy = refl;
}

-- the port settles by the page of its device
pub judged_ready : IsJudged 1 None (own 1 (stamped 7 ended))
judged_ready = record {
  work = example_work None;
  connection = 0;
  page = page_of example_page;
  last = record {
    older = Attended 1 (example_work None) ∷ Changed 1 Starting ∷ Page 1 0 example_page ∷ flagged_reads;
    since = Changed 1 Uploading ∷ upload ++ Accepted 2 (Store 1 1 (example_set 0x7F)) ∷ Changed 1 Storing
        ∷ trace.Exchange 1 0 (0x25 ∷ 0x03 ∷ 0x01 ∷ 0x02 ∷ 0x25 ∷ []) (0x52 ∷ 0x52 ∷ []) ∷ [];
    split = refl;
    unsettled = (tt, (tt, (tt, (tt, (tt, (tt, (tt, (tt, (tt, (tt, tt))))))))));
  };
  manual = refl;
  shown = record {
    before = Attended 1 (example_work None) ∷ Changed 1 Starting ∷ [];
    octets = example_page;
    since = flagged_reads ++ Attended 1 (example_work None) ∷ Changed 1 Uploading ∷ upload
        ++ Accepted 2 (Store 1 1 (example_set 0x7F)) ∷ Changed 1 Storing
        ∷ trace.Exchange 1 0 (0x25 ∷ 0x03 ∷ 0x01 ∷ 0x02 ∷ 0x25 ∷ []) (0x52 ∷ 0x52 ∷ []) ∷ [];
    split = refl;
    page_is = refl;
    connected = tt;
  };
  judged = refl;
}

pub judged_restored : IsJudged 1 None (own 1 (stamped 7 restored))
judged_restored = record {
  work = example_work (Some 0x024F);
  connection = 1;
  page = page_of example_page;
  last = record {
    older = before_replaced_page ++ Page 1 1 example_page ∷ replaced_reads;
    since = Changed 1 Downloading ∷ restoring_exchanges;
    split = refl;
    unsettled = (tt, (tt, (tt, (tt, (tt, tt)))));
  };
  manual = refl;
  shown = record {
    before = before_replaced_page;
    octets = example_page;
    since = replaced_reads ++ Attended 1 (example_work (Some 0x024F)) ∷ Changed 1 Downloading ∷ restoring_exchanges;
    split = refl;
    page_is = refl;
    connected = tt;
  };
  judged = refl;
}

-- ---- the download of the set

-- each of both parameters is the next that the download writes
pub first_write : IsDownloadOf 0 (empty_state 2) 1 1 (request.Write 0x0040 0x00 (carried (0x0A ∷ 0x64 ∷ []))) (stamped 7 restoring)
first_write = record {
  early = stamped 7 replaced;
  clock = 7;
  late = stamped 7 (start_told ∷ []);
  page = page_of example_page;
  stored = record { set = example_set 0x7F; recorded = example_config };
  conversation = done (commanded DownloadStart) ∷ [];
  busy = 0;
  split = refl;
  shown = replaced_page;
  told = start_talk;
  durable = refl;
  vendor = refl;
  device = refl;
  sending = record {
    sent = commanded DownloadStart ∷ [];
    left = request.Write 0x0041 0x01 (carried (0x7F ∷ [])) ∷ commanded DownloadEnd ∷ [];
    before = done (commanded DownloadStart) ∷ [];
    order = refl;
    is = refl;
    few = lit< tt;
    follows = (0, [], lit< tt, refl, refl);
  };
}

pub second_write : IsDownloadOf 0 (empty_state 2) 1 1 (request.Write 0x0041 0x01 (carried (0x7F ∷ []))) (stamped 7 half_restored)
second_write = record {
  early = stamped 7 replaced;
  clock = 7;
  late = stamped 7 (start_told ∷ first_told ∷ []);
  page = page_of example_page;
  stored = record { set = example_set 0x7F; recorded = example_config };
  conversation = done (commanded DownloadStart) ∷ done (request.Write 0x0040 0x00 (carried (0x0A ∷ 0x64 ∷ []))) ∷ [];
  busy = 0;
  split = refl;
  shown = replaced_page;
  told = first_talk;
  durable = refl;
  vendor = refl;
  device = refl;
  sending = record {
    sent = commanded DownloadStart ∷ request.Write 0x0040 0x00 (carried (0x0A ∷ 0x64 ∷ [])) ∷ [];
    left = commanded DownloadEnd ∷ [];
    before = done (commanded DownloadStart) ∷ done (request.Write 0x0040 0x00 (carried (0x0A ∷ 0x64 ∷ []))) ∷ [];
    order = refl;
    is = refl;
    few = lit< tt;
    follows = (0, done (request.Write 0x0040 0x00 (carried (0x0A ∷ 0x64 ∷ []))) ∷ [], lit< tt, refl, (0, [], lit< tt, refl, refl));
  };
}
