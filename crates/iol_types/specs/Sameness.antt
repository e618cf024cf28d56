-- Tests for sameness, each with the proof that it is true exactly if the two are equal.
use Rattle.std.specs.Prelude.{◌≡◌, ◌==◌, Bool, true, false, ◌&&◌, List, Some, refl}
use Rattle.std.specs.Bool.{Decides}
use Rattle.std.specs.Str.{bytes_eq}
use Rattle.std.specs.Option.{unwrap_or}
use Rattle.std.specs.Ordering.{on}
use Rattle.std.specs.Cmp.{IsEquivalence, decided, on_equiv}
use Rattle.std.specs.Cmp.Lexicographic.{pointwise, pointwise_decides}
use Rattle.std.proofs.Common.{ap, sym, ◌∙◌, subst, true≢false}
use Rattle.std.proofs.lemmas.Bool.{and_parts, and_from, eqb-true, eq-eqb}
use Rattle.std.proofs.lemmas.Slice.Eq.{bytes_eq-Decides}
use Rattle.iol_types.specs.Key.{same_key}
use Rattle.iol_types.specs.Config.{mode_octet, mode_of, validation_octet, validation_of}
use Rattle.iol_types.specs.DataSet.{Entry, SetValue}
use Rattle.iol_types.specs.Command.{CommandValue, Configure, Clear, Store, Rollback, value_of}
use Rattle.iol_types.specs.declared.key.Key.{Key}
use Rattle.iol_types.specs.declared.config.PortConfig.{PortConfig}
use Rattle.iol_types.specs.declared.config.PortMode.{PortMode}
use Rattle.iol_types.specs.declared.config.PortMode.TheVariants.{Deactivated, IolManual, IolAutostart, DigitalInput, DigitalOutput}
use Rattle.iol_types.specs.declared.config.Validation.{Validation}
use Rattle.iol_types.specs.declared.config.Validation.TheVariants.{NoCheck, TypeCompatibleV10, TypeCompatibleV11, BackupAndRestore, Restore}

-- ---- keys, entries and sets

pub same_key-Decides : (one two : Key) → Decides (same_key one two) (one ≡ two)
same_key-Decides one two = (
  λ same.
      let parts = and_parts _ _ same in
      let index : one.index ≡ two.index = eqb-true _ _ parts.0 in
      let subindex : one.subindex ≡ two.subindex = eqb-true _ _ parts.1 in
      λ i. record { index = index i; subindex = subindex i },
  λ is. and_from _ _ (eq-eqb _ _ (ap (λ (key : Key). key.index) is)) (eq-eqb _ _ (ap (λ (key : Key). key.subindex) is)),
)

-- two entries are the same: equal keys, and equal octets (own)
abbrev pub same_entry : Entry → Entry → Bool
same_entry one two = same_key one.0 two.0 && bytes_eq one.1 two.1

pub same_entry-Decides : (one two : Entry) → Decides (same_entry one two) (one ≡ two)
same_entry-Decides one two = (
  λ same.
      let parts = and_parts _ _ same in
      let key : one.0 ≡ two.0 = (same_key-Decides one.0 two.0).0 parts.0 in
      let octets : one.1 ≡ two.1 = (bytes_eq-Decides one.1 two.1).0 parts.1 in
      λ i. (key i, octets i),
  λ is. and_from _ _ ((same_key-Decides one.0 two.0).1 (ap (λ (entry : Entry). entry.0) is))
      ((bytes_eq-Decides one.1 two.1).1 (ap (λ (entry : Entry). entry.1) is)),
)

pub same_entries-Decides : (one two : List Entry) → Decides (pointwise same_entry one two) (one ≡ two)
same_entries-Decides = pointwise_decides same_entry-Decides

-- two sets are the same: equal numbers, and the same entries in the same order (own)
abbrev pub same_set : SetValue → SetValue → Bool
same_set one two =
    (one.vendor == two.vendor) &&
    ((one.device == two.device) && ((one.checksum == two.checksum) && pointwise same_entry one.entries two.entries))

pub same_set-Decides : (one two : SetValue) → Decides (same_set one two) (one ≡ two)
same_set-Decides one two = (
  λ same.
      let vendor = and_parts _ _ same in
      let device = and_parts _ _ vendor.1 in
      let checksum = and_parts _ _ device.1 in
      let entries : one.entries ≡ two.entries = (same_entries-Decides one.entries two.entries).0 checksum.1 in
      let v : one.vendor ≡ two.vendor = eqb-true _ _ vendor.0 in
      let d : one.device ≡ two.device = eqb-true _ _ device.0 in
      let c : one.checksum ≡ two.checksum = eqb-true _ _ checksum.0 in
      λ i. record { entries = entries i; vendor = v i; device = d i; checksum = c i },
  λ is. and_from _ _ (eq-eqb _ _ (ap (λ (set : SetValue). set.vendor) is))
      (and_from _ _ (eq-eqb _ _ (ap (λ (set : SetValue). set.device) is))
      (and_from _ _ (eq-eqb _ _ (ap (λ (set : SetValue). set.checksum) is))
      ((same_entries-Decides one.entries two.entries).1 (ap (λ (set : SetValue). set.entries) is)))),
)

pub same_set-laws : IsEquivalence same_set
same_set-laws = decided same_set same_set-Decides

-- ---- configurations

pub same_label-laws : IsEquivalence bytes_eq
same_label-laws = decided bytes_eq bytes_eq-Decides

mode_back : (mode : PortMode) → mode_of (mode_octet mode) ≡ Some mode
mode_back Deactivated = refl
mode_back IolManual = refl
mode_back IolAutostart = refl
mode_back DigitalInput = refl
mode_back DigitalOutput = refl

validation_back : (validation : Validation) → validation_of (validation_octet validation) ≡ Some validation
validation_back NoCheck = refl
validation_back TypeCompatibleV10 = refl
validation_back TypeCompatibleV11 = refl
validation_back BackupAndRestore = refl
validation_back Restore = refl

same_mode : (one two : PortMode) → mode_octet one ≡ mode_octet two → one ≡ two
same_mode one two is = ap (λ found. unwrap_or found one) (sym (mode_back one) ∙ ap mode_of is ∙ mode_back two)

same_validation : (one two : Validation) → validation_octet one ≡ validation_octet two → one ≡ two
same_validation one two is = ap (λ found. unwrap_or found one) (sym (validation_back one) ∙ ap validation_of is ∙ validation_back two)

-- two configurations are the same (own)
abbrev pub same_config : PortConfig → PortConfig → Bool
same_config one two =
    (mode_octet one.mode == mode_octet two.mode) && ((validation_octet one.validation == validation_octet two.validation)
    && ((one.vendor == two.vendor) && ((one.device == two.device) && bytes_eq one.label two.label)))

pub same_config-Decides : (one two : PortConfig) → Decides (same_config one two) (one ≡ two)
same_config-Decides one two = (
  λ same.
      let mode = and_parts _ _ same in
      let validation = and_parts _ _ mode.1 in
      let vendor = and_parts _ _ validation.1 in
      let m : one.mode ≡ two.mode = same_mode one.mode two.mode (eqb-true _ _ mode.0) in
      let l : one.validation ≡ two.validation = same_validation one.validation two.validation (eqb-true _ _ validation.0) in
      let device = and_parts _ _ vendor.1 in
      let v : one.vendor ≡ two.vendor = eqb-true _ _ vendor.0 in
      let d : one.device ≡ two.device = eqb-true _ _ device.0 in
      let label : one.label ≡ two.label = (bytes_eq-Decides one.label two.label).0 device.1 in
      λ i. record { mode = m i; validation = l i; vendor = v i; device = d i; label = label i },
  λ is. and_from _ _ (eq-eqb _ _ (ap (λ (config : PortConfig). mode_octet config.mode) is))
      (and_from _ _ (eq-eqb _ _ (ap (λ (config : PortConfig). validation_octet config.validation) is))
      (and_from _ _ (eq-eqb _ _ (ap (λ (config : PortConfig). config.vendor) is))
      (and_from _ _ (eq-eqb _ _ (ap (λ (config : PortConfig). config.device) is))
      ((bytes_eq-Decides one.label two.label).1 (ap (λ (config : PortConfig). config.label) is))))),
)

-- ---- commands

-- two commands are the same: of one kind, with equal parts (own)
abbrev pub same_command : CommandValue → CommandValue → Bool
same_command (Configure port config) (Configure other_port other_config) = (port == other_port) && same_config config other_config
same_command (Clear port) (Clear other_port) = port == other_port
same_command (Store port revision set) (Store other_port other_revision other_set) =
    (port == other_port) && ((revision == other_revision) && same_set set other_set)
same_command (Rollback port) (Rollback other_port) = port == other_port
same_command _ _ = false

equal_if_same : (one two : CommandValue) → same_command one two ≡ true → one ≡ two
equal_if_same (Configure port config) (Configure other_port other_config) same =
    let parts = and_parts _ _ same in
    let p : port ≡ other_port = eqb-true _ _ parts.0 in
    let c : config ≡ other_config = (same_config-Decides config other_config).0 parts.1 in
    λ i. Configure (p i) (c i)
equal_if_same (Configure port config) (Clear other_port) same = absurd (true≢false (sym same))
equal_if_same (Configure port config) (Store other_port other_revision other_set) same = absurd (true≢false (sym same))
equal_if_same (Configure port config) (Rollback other_port) same = absurd (true≢false (sym same))
equal_if_same (Clear port) (Configure other_port other_config) same = absurd (true≢false (sym same))
equal_if_same (Clear port) (Clear other_port) same = ap Clear (eqb-true _ _ same)
equal_if_same (Clear port) (Store other_port other_revision other_set) same = absurd (true≢false (sym same))
equal_if_same (Clear port) (Rollback other_port) same = absurd (true≢false (sym same))
equal_if_same (Store port revision set) (Configure other_port other_config) same = absurd (true≢false (sym same))
equal_if_same (Store port revision set) (Clear other_port) same = absurd (true≢false (sym same))
equal_if_same (Store port revision set) (Rollback other_port) same = absurd (true≢false (sym same))
equal_if_same (Store port revision set) (Store other_port other_revision other_set) same =
    let parts = and_parts _ _ same in
    let rest = and_parts _ _ parts.1 in
    let p : port ≡ other_port = eqb-true _ _ parts.0 in
    let r : revision ≡ other_revision = eqb-true _ _ rest.0 in
    let s : set ≡ other_set = (same_set-Decides set other_set).0 rest.1 in
    λ i. Store (p i) (r i) (s i)
equal_if_same (Rollback port) (Configure other_port other_config) same = absurd (true≢false (sym same))
equal_if_same (Rollback port) (Clear other_port) same = absurd (true≢false (sym same))
equal_if_same (Rollback port) (Store other_port other_revision other_set) same = absurd (true≢false (sym same))
equal_if_same (Rollback port) (Rollback other_port) same = ap Rollback (eqb-true _ _ same)

same_itself : (command : CommandValue) → same_command command command ≡ true
same_itself (Configure port config) = and_from _ _ (eq-eqb port port refl) ((same_config-Decides config config).1 refl)
same_itself (Clear port) = eq-eqb port port refl
same_itself (Store port revision set) =
    and_from _ _ (eq-eqb port port refl) (and_from _ _ (eq-eqb revision revision refl) ((same_set-Decides set set).1 refl))
same_itself (Rollback port) = eq-eqb port port refl

pub same_command-Decides : (one two : CommandValue) → Decides (same_command one two) (one ≡ two)
same_command-Decides one two = (equal_if_same one two, λ is. subst (λ other. same_command one other ≡ true) is (same_itself one))

pub same_command-laws : IsEquivalence (on value_of same_command)
same_command-laws = on_equiv value_of (decided same_command same_command-Decides)
