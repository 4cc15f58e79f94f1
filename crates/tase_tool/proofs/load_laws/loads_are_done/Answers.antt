use Rattle.tase_tool.proofs.OfLoading.Loaded.{scenario_done}
use Rattle.tase_tool.proofs.OfLoading.Ends.{load_done}
use Rattle.tase_tool.proofs.load_laws.loads_are_done.Goals as goal

pub returns-clause-scenario : goal.returns-clause-scenario
returns-clause-scenario c = scenario_done

pub returns-clause-said : goal.returns-clause-said
returns-clause-said c = load_done
