-- A machine that is fed, also if memory runs out.
use Rattle.std.proofs.Common.{ℕ, sym, subst, inl, inr}
use Rattle.arrayvec.specs.ArrayVec.{ArrayVec}
use Rattle.iol_link.specs.Reading.{answer_of}
use Rattle.iol_port.specs.Answers.{RunsOut}
use Rattle.iol_port.specs.Heard.{IsFed, fed, at_stage}
use Rattle.iol_port.specs.Stage.{Stage, PortValue}
use Rattle.iol_port.specs.declared.action.Input.{Input}
use Rattle.iol_port.specs.declared.action.Input.TheVariants as input

-- what holds after an input, and also if memory ran out at an answer, holds of the machine that was fed
pub fed_is : (P : PortValue → Type 0) (old new : PortValue) (heard : Input) → IsFed old heard new → P (fed old heard)
    → ((octets : ArrayVec ℕ) (stage : Stage) → RunsOut old.stage (answer_of octets.items) stage → P (at_stage old stage)) → P new
fed_is P old new (input.Octets octets) (inl same) whole out = subst P (sym same) whole
fed_is P old new (input.Octets octets) (inr (stage, runs, same)) whole out = subst P (sym same) (out octets stage runs)
fed_is P old new input.Wake same whole out = subst P (sym same) whole
fed_is P old new (input.Event code) same whole out = subst P (sym same) whole
fed_is P old new (input.Page connection octets) same whole out = subst P (sym same) whole
fed_is P old new input.Lost same whole out = subst P (sym same) whole
fed_is P old new (input.Reply heard) same whole out = subst P (sym same) whole
