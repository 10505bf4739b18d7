-- Cleared sets run safely: the promise for the documents of a cell and recipes.
use Rattle.batch_model.specs.Setups.{setup_of}
use Rattle.batch_record_laws.{specs.Premises.IsOfDocuments, proofs.ClearanceOverNodes.cleared-down, proofs.Sets.sets_are_documents, proofs.PlantByRecord.tells_the_plant}
use Rattle.batch_safety.{specs.Sets.ClearedSetsRunSafely, proofs.UnitsAlongRecord.units-kept, proofs.SafeRecords.safe, proofs.ChainEnds.nobody_waits_in_vain}

pub cleared_sets_run_safely : ClearedSetsRunSafely
cleared_sets_run_safely c recipes (rank, cleared) =
    let setup = setup_of c recipes in
    let kept : IsOfDocuments setup = sets_are_documents c recipes in
    record {
      safe = safe setup rank (cleared-down setup rank kept cleared);
      told = tells_the_plant setup rank (cleared-down setup rank kept cleared);
      kept = units-kept setup rank (cleared-down setup rank kept cleared);
      settled = nobody_waits_in_vain setup rank kept cleared;
    }
