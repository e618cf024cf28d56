-- The type that stands for a name has the laws of a type, and may be sent and shared. Assumes `Logic`.
use Rattle.std.proofs.Common.{[], refl}
use Rattle.core.proofs.marker.Brand.TheLaws as brand_laws
use Rattle.core.specs.contracts.marker.Brand as brand
use Rattle.iol_c.specs.Handles.{named}
use denote.Exit.{no, unseen, yes}
use denote.Param.{param}
use denote.Param.Laws.{Laws, arg_laws}
use denote.Param.Send.{IsSend, IsSync, Quiet-if}
use mir.Syntax.{of_param, tnil, ty_struct}

pub named_laws : Laws named
named_laws = arg_laws (ty_struct [] tnil) no brand.the_row brand_laws.the_row_laws refl

pub named_send : IsSend (param 0 named)
named_send = record {
  owned = λ x vs each. (tt, tt);
  leaving = λ k. Quiet-if (k (of_param 0)) (named.exit yes) unseen (λ x w. tt) (λ x
      w. tt);
}

pub named_sync : IsSync (param 0 named)
named_sync = record { shared = λ x b o κ. (tt, λ share. tt) }
