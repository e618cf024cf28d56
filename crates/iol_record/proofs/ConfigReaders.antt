-- Labels and configurations read back.
use Rattle.std.proofs.Common.{◌≡◌, ℕ, ◌≤◌, true, List, ◌∷◌, [], length, refl, ap, arith}
use Rattle.std.proofs.lemmas.Bool.{and_parts, leb-true}
use Rattle.iol_types.specs.declared.config.PortConfig.{PortConfig}
use Rattle.iol_types.specs.declared.label.TheConstants.{MOST_LABEL_OCTETS}
use Rattle.iol_types.specs.Config.{IsConfig}
use Rattle.iol_types.specs.Label.{is_label}
use Rattle.iol_record.specs.declared.version.Version.{Version}
use Rattle.iol_record.specs.declared.version.Version.TheVariants.{One, Two}
use Rattle.iol_record.specs.Record.{label_octets, config_octets, SpellsLabel}
use Rattle.iol_record.specs.Reading.{label_at, config_of, config_at, tested, octets_at}
use Rattle.iol_record.proofs.Readers.{IsReader, field_reads, both_reads, joined_reads, followed_reads, tested_reads, octets_reads}
use Rattle.iol_record.proofs.Readers.{nothing_reads, in_other_words}
use Rattle.iol_record.proofs.Fields.{mode_reads, validation_reads, vendor_reads, device_reads, label_length_reads}

-- a label that a version spells
abbrev IsLabelIn : Version → List ℕ → Type 0
IsLabelIn version label = (is_label label ≡ true) × SpellsLabel version label

-- a label of `count` octets
abbrev IsLong : ℕ → List ℕ → Type 0
IsLong count label = (length label ≡ count) × (is_label label ≡ true)

pub short-label : (label : List ℕ) → is_label label ≡ true → length label ≤ MOST_LABEL_OCTETS
short-label label is = leb-true (length label) MOST_LABEL_OCTETS (and_parts _ _ is).0

label_reads : (version : Version) → IsReader (label_at version) (label_octets version) (IsLabelIn version)
unfolding label_at
label_reads One = in_other_words (λ label is. is.1) (λ label none. (ap is_label none, none)) (nothing_reads [])
label_reads Two =
    followed_reads _ (λ (count : ℕ). tested is_label (octets_at count)) _ (λ (label : List ℕ). label) (label_octets Two) _ IsLong
    (IsLabelIn Two)
    (record {
      first = λ label is. (length label, (omega arith, short-label label is.0), (refl, is.0));
      spelled = λ count label is. ap (λ (n : ℕ). n ∷ label) is.0;
      in_range = λ count label _ is. (is.1, tt);
    })
    (field_reads _ _ _ label_length_reads) (λ count. tested_reads is_label _ _ _ (octets_reads count))

-- a configuration in range that a version spells
abbrev pub IsConfigIn : Version → PortConfig → Type 0
IsConfigIn version config = IsConfig config × SpellsLabel version config.label

pub config_reads : (version : Version) → IsReader (config_at version) (config_octets version) (IsConfigIn version)
unfolding config_at
config_reads version =
    joined_reads config_of _ _ (config_octets version) _ (IsConfigIn version)
    (record {
      made = λ config is. (
        (config.mode, (config.validation, (config.vendor, (config.device, config.label)))),
        refl,
        (tt, (tt, (is.0.vendor, (is.0.device, (is.0.label, is.1))))),
      );
      spelled = λ parts. refl;
      in_range = λ parts is. (
        record { vendor = is.1.1.0; device = is.1.1.1.0; label = is.1.1.1.1.0 },
        is.1.1.1.1.1,
      );
    })
    (both_reads _ _ _ _ _ _ (field_reads _ _ _ mode_reads)
    (both_reads _ _ _ _ _ _ (field_reads _ _ _ validation_reads)
    (both_reads _ _ _ _ _ _ (field_reads _ _ _ vendor_reads)
    (both_reads _ _ _ _ _ _ (field_reads _ _ _ device_reads) (label_reads version)))))
