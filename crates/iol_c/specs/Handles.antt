-- The handle that C keeps of a master.
use Rattle.std.specs.Prelude.{Bool, []}
use Rattle.std.specs.contracts.marker.Brand as brand
use Rattle.iol_front.specs.Fronts.{FrontId}
use Rattle.iol_front.specs.declared.name.Name.{Ghosts}
use Rattle.iol_handed.specs.Sessions.{SessionView, ended}
use Rattle.iol_handed.specs.contracts.session.Session as session
use Rattle.iol_c.specs.Boxes.{boxed_at}
use base.Fml.{Fml, fex}
use denote.Exit.{no}
use denote.Param.{arg, param}
use denote.RattleType.{RattleType}
use denote.RawPtr.{Ptr}
use mir.Syntax.{ty_struct, tnil}

-- the type that stands for the name of a front (own)
abbrev pub named : RattleType
named = arg (ty_struct [] tnil) no brand.the_row

-- the name of a front (own)
abbrev pub name_of : FrontId → Ghosts named.Denot
name_of front = record { front = front }

-- a session under the name of a front (own)
abbrev pub session_of : FrontId → RattleType
session_of front = session.the_row (param 0 named) (name_of front)

-- the box of a session under the name of some front, or none (own)
abbrev pub handle_owns : Bool → Ptr → SessionView → Fml
handle_owns is_open at seen = fex FrontId (λ front. boxed_at (session_of front) ended is_open at seen)
