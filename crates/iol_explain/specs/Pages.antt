-- The words for Direct Parameter page 1.
use Rattle.std.specs.Prelude.{ℕ, Bool, true, false, List, ◌++◌, codes}
use Rattle.iol_link.specs.Page.{PageValue}
use Rattle.iol_texts.specs.Texts.{hex_of, hex_digits}

-- whether a device supports ISDUs, in words (format, Explained runs)
abbrev pub isdu_text : Bool → List ℕ
isdu_text true = codes "ISDUs supported"
isdu_text false = codes "ISDUs not supported"

-- the words for what a page says of a device (format, Explained runs)
abbrev pub page_words : PageValue → List ℕ
page_words page =
    codes "VendorID " ++ (hex_digits 4 page.vendor ++ (codes ", DeviceID " ++ (hex_digits 6 page.device ++ (codes ", RevisionID "
    ++ (hex_of page.revision ++ (codes ", " ++ isdu_text page.has_isdu))))))
