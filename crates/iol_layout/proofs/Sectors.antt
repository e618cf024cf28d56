-- Images that differ in a few sectors, and what is read from the others.
use Rattle.std.proofs.Common.{◌≡◌, ◌≤◌, ◌<◌, ℕ, zero, suc, ◌+◌, List, ◌++◌, refl, sym, ◌∙◌, ap, arith, append_assoc, add-zero, zero-add}
use Rattle.iol_disk.specs.Content.{Image}
use Rattle.iol_layout.specs.Layout.{Layout, port_at}
use Rattle.iol_layout.specs.Octets.{octets_at}
use Rattle.iol_layout.specs.Meaning.{ports_from}
use Rattle.iol_layout.specs.declared.area.Area.{Area}

pub octets_at-same : (old new : Image) (first n : ℕ) → ((i : ℕ) → first ≤ i → i < first + n → new i ≡ old i) → octets_at new first n
    ≡ octets_at old first n
unfolding octets_at
octets_at-same old new first zero same = refl
octets_at-same old new first (suc n) same =
    let here : new first ≡ old first = same first (omega arith) (omega arith) in
    let there : octets_at new (first + 1) n ≡ octets_at old (first + 1) n =
    octets_at-same old new (first + 1) n (λ i above below. same i (omega arith) (omega arith)) in
    rw (here, there) refl

pub octets_at-add : (image : Image) (first m n : ℕ) → octets_at image first (m + n) ≡ octets_at image first m
    ++ octets_at image (first + m) n
unfolding octets_at
octets_at-add image first zero n = rw (zero-add, add-zero) refl
octets_at-add image first (suc m) n =
    let there : octets_at image (first + 1) (m + n) ≡ octets_at image (first + 1) m ++ octets_at image (first + 1 + m) n =
    octets_at-add image (first + 1) m n in
    let count : suc m + n ≡ suc (m + n) = omega arith in
    let place : first + 1 + m ≡ first + suc m = omega arith in
    rw count (ap (λ (rest : List ℕ). image first ++ rest) there ∙ rw place (sym (append_assoc (image first) _ _)))

pub ports_from-same : (layout : Layout) (a : Area) (old new : Image) (p n : ℕ)
    → ((i : ℕ) → port_at layout a p ≤ i → i < port_at layout a (p + n) → new i ≡ old i)
    → ports_from layout a new p n ≡ ports_from layout a old p n
unfolding ports_from
ports_from-same layout a old new p zero same = refl
ports_from-same layout a old new p (suc n) same =
    let here : octets_at new (port_at layout a p) layout.port_sectors ≡ octets_at old (port_at layout a p) layout.port_sectors =
    octets_at-same old new (port_at layout a p) layout.port_sectors (λ i above below. same i above (omega arith)) in
    let there : ports_from layout a new (p + 1) n ≡ ports_from layout a old (p + 1) n =
    ports_from-same layout a old new (p + 1) n (λ i above below. same i (omega arith) (omega arith)) in
    rw (here, there) refl
