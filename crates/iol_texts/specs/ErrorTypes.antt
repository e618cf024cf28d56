-- The names of ErrorTypes.
use Rattle.std.specs.Prelude.{ℕ, ◌==◌, if◌then◌else◌, List, [], ◌++◌, codes}
use Rattle.iol_texts.specs.Texts.{hex_of}

-- the errors of a parameter set (standard, ISDU error codes)
abbrev pub set_error : ℕ → List ℕ
set_error additional =
    if additional == 0x40 then codes ", invalid parameter set"
    else if additional == 0x41 then codes ", inconsistent parameter set"
    else if additional == 0x82 then codes ", application not ready"
    else []

-- the errors of a value; any other code is looked up among those of a set (standard, ISDU error codes)
abbrev pub value_error : ℕ → List ℕ
value_error additional =
    if additional == 0x30 then codes ", parameter value out of range"
    else if additional == 0x31 then codes ", parameter value above limit"
    else if additional == 0x32 then codes ", parameter value below limit"
    else if additional == 0x33 then codes ", parameter length overrun"
    else if additional == 0x34 then codes ", parameter length underrun"
    else set_error additional

-- the errors of a service; any other code is looked up among those of a value (standard, ISDU error codes)
abbrev pub service_error : ℕ → List ℕ
service_error additional =
    if additional == 0x20 then codes ", service temporarily not available"
    else if additional == 0x21 then codes ", service temporarily not available, local control"
    else if additional == 0x22 then codes ", service temporarily not available, device control"
    else if additional == 0x35 then codes ", function not available"
    else if additional == 0x36 then codes ", function temporarily not available"
    else value_error additional

-- the errors of an object; any other code is looked up among those of a service (standard, ISDU error codes)
abbrev pub object_error : ℕ → List ℕ
object_error additional =
    if additional == 0x00 then codes ", device application error"
    else if additional == 0x11 then codes ", Index not available"
    else if additional == 0x12 then codes ", Subindex not available"
    else if additional == 0x23 then codes ", access denied"
    else service_error additional

-- the name of an ErrorType after a comma, or nothing if the standard has none (standard, ISDU error codes)
abbrev pub error_name : ℕ → ℕ → List ℕ
error_name error additional =
    if error == 0x80 then object_error additional
    else if error == 0x81 then codes ", vendor specific"
    else []

-- an ErrorCode and an AdditionalCode, and the name of the error, if any (format, Explained runs)
abbrev pub error_text : ℕ → ℕ → List ℕ
error_text error additional =
    codes "ErrorCode " ++ (hex_of error ++ (codes " " ++ (hex_of additional ++ error_name error additional)))
