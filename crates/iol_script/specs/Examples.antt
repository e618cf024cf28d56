-- The values, devices and scripts of the examples.
use Rattle.std.specs.Prelude.{ℕ, zero, suc, ◌+◌, ℤ, pos, true, false, List, [], ◌∷◌, ◌++◌, replicate, codes, Some, None}
use Rattle.toml.specs.Data.{Data, integer, array, Items, no_items, item, Members, no_members, member}
use Rattle.iol_types.specs.declared.config.PortMode.TheVariants.{IolManual}
use Rattle.iol_types.specs.declared.config.Validation.TheVariants.{Restore}
use Rattle.iol_types.specs.DataSet.{Entry}
use Rattle.iol_types.specs.declared.command.Change.TheVariants as change
use Rattle.iol_types.specs.Examples.{example_set}
use Rattle.iol_script.specs.Device.{SaidDevice}
use Rattle.iol_script.specs.LiveScript.{SaidLive}
use Rattle.iol_script.specs.Script.{Said}
use Rattle.iol_script.specs.declared.step.Step.TheVariants.{Ask, Port, Flush, Drain}
use Rattle.iol_disk.specs.declared.fault.DiskFault.TheVariants.{Write}
use Rattle.iol_disk.specs.declared.pick.Pick.TheVariants.{New, Zero}

-- for worked examples: whole numbers in an array (own)
abbrev pub items_of : List ℤ → Items
items_of [] = no_items
items_of (number ∷ numbers) = item (integer number) (items_of numbers)

abbrev pub numbers : List ℤ → Data
numbers said = array (items_of said)

-- for worked examples: a parameter with this key, and no octets (own)
abbrev pub empty_at : ℕ → ℕ → Entry
empty_at index subindex = (record { index = index; subindex = subindex }, [])

-- for worked examples: `count` parameters with no octets, at consecutive Indexes from this one on (own)
abbrev pub empty_from : ℕ → ℕ → List Entry
empty_from index zero = []
empty_from index (suc count) = empty_at index 0 ∷ empty_from (index + 1) count

-- for worked examples: a table with a whole number at a key, and nothing else (own)
abbrev pub said_at : List ℕ → ℤ → Members
said_at key number = member key (integer number) no_members

-- for worked examples: a text of `count` spaces (own)
abbrev pub blanks : ℕ → List ℕ
blanks count = replicate count 0x20

-- for worked examples: the device of the example's set at port 1, which answers ten calls (own)
abbrev pub example_device : SaidDevice
example_device = record {
  port = 1;
  vendor = example_set.vendor;
  device = example_set.device;
  revision = 0x11;
  isdu = true;
  flag = false;
  locked = false;
  parameters = example_set.entries;
  answers = Some 10;
  event = None;
}

-- for worked examples: a script of two ports and four slots with that device, eleven steps of its port, and one of the
-- flusher (own)
abbrev pub example_script : Said
example_script = record {
  ports = pos 2;
  slots = pos 4;
  fail = None;
  devices = example_device ∷ [];
  steps = Port 1 11 ∷ Flush 1 ∷ [];
  keep = New;
}

-- for worked examples: its text (own)
abbrev pub example_text : List ℕ
example_text =
    codes "ports = 2\nslots = 4\nstep = [{ do = \"port\", port = 1, times = 11 }, { do = \"flush\" }]\n"
    ++ codes "[[device]]\nport = 1\nvendor = 500\ndevice = 0xABCD\nanswers = 10\nkeys = [[64, 0], [65, 1]]\n"
    ++ codes "values = [\"0A64\", \"7f\"]\n"

-- for worked examples: a device whose every value differs from the default of its key (own)
abbrev pub full_device : SaidDevice
full_device = record {
  port = 2;
  vendor = 501;
  device = 7;
  revision = 0x10;
  isdu = false;
  flag = true;
  locked = true;
  parameters = (record { index = 80; subindex = 9 }, 0xFF ∷ []) ∷ [];
  answers = Some 4;
  event = Some 3;
}

-- for worked examples: a script with that device, a step of each kind but a rollback, a disk call that fails, and a stop (own)
abbrev pub full_script : Said
full_script = record {
  ports = pos 3;
  slots = pos 5;
  fail = Some (record { kind = Write; number = 7 });
  devices = full_device ∷ [];
  steps =
      Ask (change.Configure 2 (record { mode = IolManual; validation = Restore; vendor = 502; device = 8; label = codes "A & B" }))
      ∷ Ask (change.Clear 3) ∷ Port 2 6 ∷ Flush 9 ∷ Drain ∷ [];
  keep = Zero;
}

-- for worked examples: its text, by lines (own)
abbrev pub full_text : List ℕ
full_text =
    codes "ports = 3\nslots = 5\nfail = \"write 7\"\n"
    ++ codes "step = [{ do = \"configure\", port = 2, mode = 1, validation = 4, vendor = 502, device = 8, label = \"A & B\" },"
    ++ codes "{ do = \"clear\", port = 3 }, { do = \"port\", port = 2, times = 6 }, { do = \"flush\", times = 9 },"
    ++ codes "{ do = \"drain\" }, { do = \"stop\", keep = \"zero\" }]\n"
    ++ codes "[[device]]\nport = 2\nvendor = 501\ndevice = 7\nrevision = 16\nisdu = false\nflag = true\nlocked = true\n"
    ++ codes "keys = [[80, 9]]\nvalues = [\"fF\"]\nanswers = 4\nevent = 3\n"

-- for worked examples: a script for a master that runs in threads, with that device, and a configuration and a clear (own)
abbrev pub live_script : SaidLive
live_script = record {
  devices = full_device ∷ [];
  changes =
      change.Configure 2 (record { mode = IolManual; validation = Restore; vendor = 502; device = 8; label = [] }) ∷ change.Clear 3 ∷ [];
}

-- for worked examples: its text, by lines, with numbers and a failing call that are not read (own)
abbrev pub live_text : List ℕ
live_text =
    codes "ports = 99\nslots = \"none\"\nfail = 7\n"
    ++ codes "step = [{ do = \"configure\", port = 2, mode = 1, validation = 4, vendor = 502, device = 8 },"
    ++ codes "{ do = \"clear\", port = 3 }]\n"
    ++ codes "[[device]]\nport = 2\nvendor = 501\ndevice = 7\nrevision = 16\nisdu = false\nflag = true\nlocked = true\n"
    ++ codes "keys = [[80, 9]]\nvalues = [\"fF\"]\nanswers = 4\nevent = 3\n"
