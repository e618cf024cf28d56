-- A value in a box that is known by its address.
use Rattle.std.specs.Prelude.{Bool, true, false}
use Rattle.std.specs.Box.Ownership.{box_owns}
use Rattle.std.specs.contracts.impls.GlobalAllocator.TheImpl.{ghosts}
use Rattle.std.specs.declared.alloc.Global.{Global}
use base.Fml.{Fml, fex, feq}
use denote.RawPtr.{Ptr}
use denote.RattleType.{RattleType}

-- the box at an address, with a value in it; or there is no box, which counts as the value that stands for none (own)
abbrev pub boxed_at : (row : RattleType) → row.Denot → Bool → Ptr → row.Denot → Fml
boxed_at row none true at value = fex Global (λ alloc. box_owns (ghosts.dealloc_token alloc) row at value)
boxed_at row none false at value = feq row.Denot value none
