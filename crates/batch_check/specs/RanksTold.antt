-- surface: the ranks that the entries of a certificate give a cell's resources.
use Rattle.std.specs.Prelude.{◌≡◌, ℕ, List, length, map}
use Rattle.batch_cell.specs.LookUps.{resources_of}
use Rattle.batch_cell.specs.declared.cell.Cell.{Cell}
use Rattle.batch_check.specs.ByName.{IsCertificateOf}
use Rattle.batch_verify.specs.CertificateText.{Rank, AreInOrderOfName}
use Rattle.batch_verify.specs.Ranked.{rank_of, RanksAll}
use Rattle.batch_verify.specs.Refusals.{rank_in}

-- each resource has exactly one entry, there is no other entry, each gives the resource's rank, and no name is below the one
-- before it
pub record TellsRanks (c : Cell) (ranks : List ℕ) (entries : List Rank) : Type 0 where
  pub ranked : RanksAll (resources_of c) entries
  pub by_number : map (rank_of entries) (resources_of c) ≡ ranks
  pub by_name : rank_of entries ≡ rank_in c ranks
  pub in_order : AreInOrderOfName entries

abbrev pub CertificatesTellRanks : Type 0
CertificatesTellRanks = (c : Cell) (ranks : List ℕ) (entries : List Rank)
    → length ranks ≡ length (resources_of c) → IsCertificateOf c ranks entries → TellsRanks c ranks entries
