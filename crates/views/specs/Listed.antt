-- What each case of the judge's answer says, in the numbers of the scope's tables.
use Rattle.std.proofs.Math.Option.{Option, none, some}
use Rattle.std.specs.Prelude.{ℕ, Ok, Err}
use Rattle.model.specs.Denoted.{owner_at}
use Rattle.model.specs.declared.Machine.{Machine}
use Rattle.model.specs.Refusal.{number_of}
use Rattle.views.specs.Judgement.{Judgement}
use Rattle.views.specs.declared.Fault.TheVariants.{Output, Respect, Step, Refused}

pub data Condition : Type 0 where
  output : Condition
  respect : Condition
  step : Condition

-- a refusal's number and line; the broken condition and its place; 0 and none where there is nothing to say
pub record Listed : Type 0 where
  pub refusal : ℕ
  pub line : ℕ
  pub broken : Option Condition
  pub position : ℕ
  pub action : ℕ
  pub s : ℕ
  pub t : ℕ

abbrev place : Condition → ℕ → ℕ → ℕ → ℕ → Listed
place condition u a s t = record { refusal = 0; line = 0; broken = some condition; position = u; action = a; s = s; t = t }

abbrev refusal : ℕ → ℕ → Listed
refusal number line = record { refusal = number; line = line; broken = none; position = 0; action = 0; s = 0; t = 0 }

-- for output the box is the action's; respect has no t
abbrev pub listed : Machine → Judgement → Listed
listed m (Ok _) = refusal 0 0
listed m (Err (Output a s t)) = place output (owner_at m a) a s t
listed m (Err (Respect u a s)) = place respect u a s 0
listed m (Err (Step u a s t)) = place step u a s t
listed m (Err (Refused r)) = refusal (number_of r.refusal) r.line
