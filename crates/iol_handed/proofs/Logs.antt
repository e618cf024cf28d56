-- Logs of calls that were handed out.
use Rattle.std.proofs.Common.{◌≡◌, ℕ, List, [], ◌∷◌, ◌++◌, length, take, drop, ap, ◌∙◌, subst}
use Rattle.std.proofs.Math.Seq.{take-append_seam, take-length, drop-append_seam}
use Rattle.iol_disk.specs.Calls.{write, content_after}
use Rattle.iol_disk.specs.Content.{Image, wrote}
use Rattle.iol_handed.specs.Log.{content_of, content_in, logged}

-- the first 512 octets of a whole sector and of more after it are those of the sector
whole_first : (octets more : List ℕ) → length octets ≡ 512 → take 512 (octets ++ more) ≡ octets
whole_first octets more whole = subst (λ (n : ℕ). take n (octets ++ more) ≡ octets) whole (take-append_seam octets more)

whole_rest : (octets more : List ℕ) → length octets ≡ 512 → drop 512 (octets ++ more) ≡ more
whole_rest octets more whole = subst (λ (n : ℕ). drop n (octets ++ more) ≡ more) whole (drop-append_seam octets more)

-- after one more write of a whole sector the content is that after the write
pub content-written : (image : Image) (sector : ℕ) (octets numbers : List ℕ) → length octets ≡ 512
    → content_of image (logged (write sector octets) numbers) ≡ content_after (write sector octets) (content_of image numbers)
content-written image sector octets [] whole =
    ap (λ (os : List ℕ). wrote sector os (content_of image []))
    (subst (λ (n : ℕ). take n octets ≡ octets) whole (take-length octets))
content-written image sector octets (calls ∷ numbers) whole =
    ap (λ (os : List ℕ). wrote sector os (content_in image calls (drop 512 (octets ++ numbers)))) (whole_first octets numbers whole)
    ∙ ap (λ (ns : List ℕ). wrote sector octets (content_in image calls ns)) (whole_rest octets numbers whole)
