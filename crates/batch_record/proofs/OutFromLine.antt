-- The out that is read from a line is the one that the line tells.
use Rattle.std.proofs.Common.{◌≡◌, ℕ, List, Option, Some, None, sym, subst}
use Rattle.std.specs.Prelude.{MatchOption}
use Rattle.batch_record.{specs.RecordLine.out_of_line, specs.Reading.GivesAsDefined, specs.Reading.out_told, specs.Laws.TellsOut, specs.Laws.TellsNothing, specs.declared.told.RecordedOut.RecordedOut, proofs.OutFromWords.line-tells, proofs.OutFromWords.line-no_out}
use Rattle.batch_model.specs.Runs.{Out}

pub told-back : (r : Option RecordedOut) (line : List ℕ) → GivesAsDefined out_told r (out_of_line line) → MatchOption r (TellsNothing line) (λ told. TellsOut line (out_told told))
told-back None line e = line-no_out line e
told-back (Some told) line e = line-tells line (out_told told) e

pub line-said : (line : List ℕ) (r : Option Out) → out_of_line line ≡ r → MatchOption (out_of_line line) (TellsNothing line) (TellsOut line)
line-said line None e = subst (λ said. MatchOption said (TellsNothing line) (TellsOut line)) (sym e) (line-no_out line e)
line-said line (Some out) e = subst (λ said. MatchOption said (TellsNothing line) (TellsOut line)) (sym e) (line-tells line out e)
