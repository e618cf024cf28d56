-- Commands read back.
use Rattle.std.proofs.Common.{◌≡◌, ℕ, ◌≤◌, List, [], ◌∷◌, ◌++◌, refl, sym, ap, ◌∙◌, subst}
use Rattle.std.specs.Int.{w64, to_be_bytes}
use Rattle.iol_types.specs.declared.config.PortConfig.{PortConfig}
use Rattle.iol_types.specs.declared.port_state.TheConstants.{LAST_REVISION}
use Rattle.iol_types.specs.Numbers.{IsPortNumber}
use Rattle.iol_types.specs.DataSet.{SetValue, IsSet}
use Rattle.iol_types.specs.Command.{CommandValue, Configure, Clear, Store, Rollback, IsCommand}
use Rattle.iol_record.specs.declared.reader.Tag.{Tag}
use Rattle.iol_record.specs.declared.reader.Tag.TheVariants as tag
use Rattle.iol_record.specs.declared.version.Version.{Version}
use Rattle.iol_record.specs.declared.version.Version.TheVariants.{One, Two}
use Rattle.iol_record.specs.Record.{config_octets, set_octets, command_octets, SpellsLabel, SpellsCommand}
use Rattle.iol_record.specs.Reading.{tag_octet, arguments_at, command_at}
use Rattle.iol_record.proofs.Readers.{IsReader, field_reads, both_reads, joined_reads, followed_reads}
use Rattle.iol_record.proofs.Fields.{HasTag, tag_reads, port_reads, revision_reads}
use Rattle.iol_record.proofs.ConfigReaders.{IsConfigIn, config_reads}
use Rattle.iol_record.proofs.SetReaders.{set_reads}

-- the tag of a command
abbrev tag_of_command : CommandValue → Tag
tag_of_command (Configure port config) = tag.Configure
tag_of_command (Clear port) = tag.Clear
tag_of_command (Store port revision set) = tag.Store
tag_of_command (Rollback port) = tag.Rollback

-- the octets after the tag
abbrev arguments_octets : Version → CommandValue → List ℕ
arguments_octets version (Configure port config) = port ∷ config_octets version config
arguments_octets version (Clear port) = port ∷ []
arguments_octets version (Store port revision set) = port ∷ (to_be_bytes w64 revision ++ set_octets set)
arguments_octets version (Rollback port) = port ∷ []

-- a version spells what follows the tag, whether or not it has the tag
abbrev SpellsArguments : Version → CommandValue → Type 0
SpellsArguments version (Configure port config) = SpellsLabel version config.label
SpellsArguments version other = Unit {0}

-- a command in range that a version spells
abbrev pub IsCommandIn : Version → CommandValue → Type 0
IsCommandIn version command = IsCommand command × SpellsCommand version command

-- a command in range that has this tag, and after the tag what a version spells
abbrev IsTagged : Version → Tag → CommandValue → Type 0
IsTagged version t command = (tag_of_command command ≡ t) × (IsCommand command × SpellsArguments version command)

configure_reads : (version : Version)
    → IsReader (arguments_at version tag.Configure) (arguments_octets version) (IsTagged version tag.Configure)
unfolding arguments_at
configure_reads version =
    joined_reads (λ (parts : ℕ × PortConfig). Configure parts.0 parts.1) _ _ (arguments_octets version) _ (IsTagged version tag.Configure)
    (record { made = made; spelled = λ parts. refl; in_range = λ parts is. (refl, ((is.0, is.1.0), is.1.1)) })
    (both_reads _ _ _ _ _ _ (field_reads _ _ _ port_reads) (config_reads version))
  where
    made : (command : CommandValue) → IsTagged version tag.Configure command
        → (parts : ℕ × PortConfig) × (Configure parts.0 parts.1 ≡ command) × (IsPortNumber parts.0 × IsConfigIn version parts.1)
    made (Configure port config) is = ((port, config), refl, (is.1.0.0, (is.1.0.1, is.1.1)))
    made (Clear port) is = let other = is.0 in cc
    made (Store port revision set) is = let other = is.0 in cc
    made (Rollback port) is = let other = is.0 in cc

clear_reads : (version : Version) → IsReader (arguments_at version tag.Clear) (arguments_octets version) (IsTagged version tag.Clear)
unfolding arguments_at
clear_reads version =
    joined_reads Clear _ _ (arguments_octets version) _ (IsTagged version tag.Clear)
    (record { made = made; spelled = λ port. refl; in_range = λ port is. (refl, (is, tt)) })
    (field_reads _ _ _ port_reads)
  where
    made : (command : CommandValue) → IsTagged version tag.Clear command → (port : ℕ) × (Clear port ≡ command) × IsPortNumber port
    made (Configure port config) is = let other = is.0 in cc
    made (Clear port) is = (port, refl, is.1.0)
    made (Store port revision set) is = let other = is.0 in cc
    made (Rollback port) is = let other = is.0 in cc

rollback_reads : (version : Version)
    → IsReader (arguments_at version tag.Rollback) (arguments_octets version) (IsTagged version tag.Rollback)
unfolding arguments_at
rollback_reads version =
    joined_reads Rollback _ _ (arguments_octets version) _ (IsTagged version tag.Rollback)
    (record { made = made; spelled = λ port. refl; in_range = λ port is. (refl, (is, tt)) })
    (field_reads _ _ _ port_reads)
  where
    made : (command : CommandValue) → IsTagged version tag.Rollback command → (port : ℕ) × (Rollback port ≡ command) × IsPortNumber port
    made (Configure port config) is = let other = is.0 in cc
    made (Clear port) is = let other = is.0 in cc
    made (Store port revision set) is = let other = is.0 in cc
    made (Rollback port) is = (port, refl, is.1.0)

abbrev StoreParts : Type 0
StoreParts = ℕ × (ℕ × SetValue)

abbrev store_of : StoreParts → CommandValue
store_of parts = Store parts.0 parts.1.0 parts.1.1

store_reads : (version : Version) → IsReader (arguments_at version tag.Store) (arguments_octets version) (IsTagged version tag.Store)
unfolding arguments_at
store_reads version =
    joined_reads store_of _ _ (arguments_octets version) _ (IsTagged version tag.Store)
    (record { made = made; spelled = λ parts. refl; in_range = λ parts is. (refl, ((is.0, is.1.0, is.1.1), tt)) })
    (both_reads _ _ _ _ _ _ (field_reads _ _ _ port_reads) (both_reads _ _ _ _ _ _ (field_reads _ _ _ revision_reads) set_reads))
  where
    made : (command : CommandValue) → IsTagged version tag.Store command
        → (parts : StoreParts) × (store_of parts ≡ command) × (IsPortNumber parts.0 × ((parts.1.0 ≤ LAST_REVISION) × IsSet parts.1.1))
    made (Configure port config) is = let other = is.0 in cc
    made (Clear port) is = let other = is.0 in cc
    made (Store port revision set) is = ((port, (revision, set)), refl, (is.1.0.0, (is.1.0.1, is.1.0.2)))
    made (Rollback port) is = let other = is.0 in cc

arguments_read : (version : Version) (t : Tag) → IsReader (arguments_at version t) (arguments_octets version) (IsTagged version t)
arguments_read version tag.Configure = configure_reads version
arguments_read version tag.Clear = clear_reads version
arguments_read version tag.Store = store_reads version
arguments_read version tag.Rollback = rollback_reads version

-- a version has the tag of a command that it spells
has_tag : (version : Version) (command : CommandValue) → SpellsCommand version command → HasTag version (tag_of_command command)
has_tag One (Configure port config) is = refl
has_tag Two (Configure port config) is = refl
has_tag One (Clear port) is = refl
has_tag Two (Clear port) is = refl
has_tag One (Store port revision set) is = refl
has_tag Two (Store port revision set) is = refl
has_tag One (Rollback port) is = absurd is
has_tag Two (Rollback port) is = refl

spelled_after : (version : Version) (command : CommandValue) → SpellsCommand version command → SpellsArguments version command
spelled_after version (Configure port config) is = is
spelled_after version (Clear port) is = tt
spelled_after version (Store port revision set) is = tt
spelled_after version (Rollback port) is = tt

-- and it spells a command if it has the tag and spells what follows it
spelled_whole : (version : Version) (command : CommandValue) → HasTag version (tag_of_command command) → SpellsArguments version command
    → SpellsCommand version command
spelled_whole version (Configure port config) has is = is
spelled_whole version (Clear port) has is = tt
spelled_whole version (Store port revision set) has is = tt
spelled_whole One (Rollback port) has is = let none = has in cc
spelled_whole Two (Rollback port) has is = tt

pub command_reads : (version : Version) → IsReader (command_at version) (command_octets version) (IsCommandIn version)
unfolding command_at
command_reads version =
    followed_reads _ (arguments_at version) _ (arguments_octets version) (command_octets version) _ (IsTagged version)
    (IsCommandIn version)
    (record {
      first = λ command is. (tag_of_command command, has_tag version command is.1, (refl, (is.0, spelled_after version command is.1)));
      spelled = λ t command is. tagged command ∙ ap (λ (other : Tag). tag_octet other ∷ arguments_octets version command) is.0;
      in_range = λ t command has is. (is.1.0, spelled_whole version command (subst (HasTag version) (sym is.0) has) is.1.1);
    })
    (field_reads _ _ _ (tag_reads version)) (arguments_read version)
  where
    tagged : (command : CommandValue) → command_octets version command
        ≡ tag_octet (tag_of_command command) ∷ arguments_octets version command
    tagged (Configure port config) = refl
    tagged (Clear port) = refl
    tagged (Store port revision set) = refl
    tagged (Rollback port) = refl
