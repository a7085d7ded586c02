-- The worked rows.
use Rattle.worked_rows.specs.Plan.{MadeAsSettled, PlanSimulated}
use Rattle.worked_rows.specs.Settings.{Starts, Routes, Served}
use Rattle.worked_rows.specs.Safety.{AtTheFloor, Sendings}
use Rattle.worked_rows.specs.Quotas.{Holding}

pub record Rows : Type 0 where
  pub made_as_settled : MadeAsSettled
  pub plan_simulated : PlanSimulated
  pub starts : Starts
  pub routes : Routes
  pub served : Served
  pub at_the_floor : AtTheFloor
  pub sendings : Sendings
  pub holding : Holding
